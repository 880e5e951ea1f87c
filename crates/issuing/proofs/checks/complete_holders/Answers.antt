use Rattle.std.proofs.Common.{◌≡◌, ℕ, ◌+◌, not, ◌&&◌, get_or, is_some, None, Option, refl, ap, arith, rules, tests}
use Rattle.std.proofs.lemmas.Iterator.{YieldsList-from_slice, YieldsList-from_range, YieldsList-from_zip}
use Rattle.std.proofs.lemmas.Iterator.Consumers.{YieldsList-at}
use Rattle.std.proofs.lemmas.Iterator.Search.{find_from_yields_List}
use Rattle.domain.specs.declared.Fault.TheVariants.{HolderMissing}
use Rattle.issuing.specs.InForce.{needs_holder}
use Rattle.issuing.proofs.Firsts.{answered_beside}
use Rattle.issuing.proofs.checks.complete_holders.Goals as goal

pub returns-in-Some : goal.returns-in-Some
returns-in-Some c =
    let hs = c.args.holders.now in
    let lacks = λ (p : ℕ × Option ℕ). needs_holder c.args.ended p.0 && not (is_some p.1) in
    let found = find_from_yields_List lacks c.find-lacking.new.self _ c.find-lacking.result c.find-lacking.ensures.ran (YieldsList-from_zip (YieldsList-at c.zip.ensures.first (YieldsList-from_range 0 c.args.terms.places c.args.terms.places refl (omega arith))) (YieldsList-from_slice hs (search rules))) (λ x b q k. search (rules, tests)) in
    rw c.in-Some.is at (answered_beside lacks None 0 c.args.terms.places hs (λ q. needs_holder c.args.ended q && not (is_some (get_or hs q None))) HolderMissing HolderMissing (omega arith) (λ i h. let same : i ≡ 0 + i = omega arith in ap (λ (k : ℕ). needs_holder c.args.ended k && not (is_some (get_or hs i None))) same) (λ i. ap HolderMissing (omega arith)) c.find-lacking.result found)

pub returns-in-None : goal.returns-in-None
returns-in-None c =
    let hs = c.args.holders.now in
    let lacks = λ (p : ℕ × Option ℕ). needs_holder c.args.ended p.0 && not (is_some p.1) in
    let found = find_from_yields_List lacks c.find-lacking.new.self _ c.find-lacking.result c.find-lacking.ensures.ran (YieldsList-from_zip (YieldsList-at c.zip.ensures.first (YieldsList-from_range 0 c.args.terms.places c.args.terms.places refl (omega arith))) (YieldsList-from_slice hs (search rules))) (λ x b q k. search (rules, tests)) in
    rw c.in-None.is at (answered_beside lacks None 0 c.args.terms.places hs (λ q. needs_holder c.args.ended q && not (is_some (get_or hs q None))) HolderMissing HolderMissing (omega arith) (λ i h. let same : i ≡ 0 + i = omega arith in ap (λ (k : ℕ). needs_holder c.args.ended k && not (is_some (get_or hs i None))) same) (λ i. ap HolderMissing (omega arith)) c.find-lacking.result found)
