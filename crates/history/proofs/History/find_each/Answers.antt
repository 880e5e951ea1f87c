use Rattle.std.proofs.Common.{◌≡◌, ◌+◌, ◌-◌, ◌≤◌, true, get_or, set, Some, None, sym, refl, ap, ◌∙◌, arith}
use Rattle.std.specs.Option.{option_or}
use Rattle.std.proofs.lemmas.List.{length-set}
use Rattle.std.proofs.lemmas.Bool.Decides.{nat_tests}
use Rattle.domain.specs.Limits.{periods}
use Rattle.history.specs.Entries.{found, of_period}
use Rattle.history.proofs.Eaches.{none_at, found_passed, found_here}
use Rattle.history.proofs.History.find_each.Goals as goal
use Rattle.history.proofs.History.find_each.Goals.{then-is_of_period, else-is_of_period}

pub loop-index-init : goal.loop-index-init
unfolding found
loop-index-init g c = (λ k h. none_at periods k, refl)

pub loop-index-preserved : goal.loop-index-preserved
loop-index-preserved g c =
    let t = c.args.self.entries.now in
    let i = c.loop-index.index in
    let x = c.dated-item.result in
    let d = c.args.day in
    let a = c.loop-index.at in
    let within = c.loop-index-test.true in
    let is = c.dated-item.is in
    let inv = c.loop-index.invariant.0 in
    let of = sym c.is_of_period.ensures in
    elim c.if-is_of_period.branch [ then-is_of_period w ↦ (let on : of_period d x ≡ true = of ∙ w.if-is_of_period.true in let some : 1 ≤ x.subject = grind (arith, nat_tests) in let few : x.subject ≤ periods = grind (arith, nat_tests) in let j = w.from-k.result - 1 in let at : x.subject ≡ j + 1 = omega (arith, w.from-k.ensures) in let new : c.if-is_of_period.at ≡ set a j (option_or (get_or a j None) (Some i)) = w.at-is ∙ ap (set a j) w.or.ensures in rw new (found_here t i x d within is a inv j at on (omega (arith, c.loop-index.invariant.1)), length-set a j (option_or (get_or a j None) (Some i)) ∙ c.loop-index.invariant.1)) | else-is_of_period w ↦ rw w.at-is (found_passed t i x d within is a inv (of ∙ w.if-is_of_period.false), c.loop-index.invariant.1) ]
