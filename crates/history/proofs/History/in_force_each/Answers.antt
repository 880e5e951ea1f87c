use Rattle.std.proofs.Common.{◌≡◌, ℕ, ◌<◌, ◌+◌, ◌-◌, ◌≤◌, true, [], get_or, take, None, sym, refl, ◌∙◌, arith, rules}
use Rattle.std.proofs.lemmas.List.{length-set, take_all}
use Rattle.std.proofs.lemmas.Bool.Decides.{nat_tests}
use Rattle.domain.specs.Limits.{periods}
use Rattle.history.specs.Entries.{found, in_force, for_period}
use Rattle.history.proofs.Placing.{in_force_within}
use Rattle.history.proofs.Sofar.{index_of, is_later, so_far_is}
use Rattle.history.proofs.Eaches.{none_yet, each_passed, each_kept, each_took}
use Rattle.history.proofs.History.in_force_each.Goals as goal
use Rattle.history.proofs.History.in_force_each.Goals.{then-is_for_period+then-is_none_or, then-is_for_period+else-is_none_or, else-is_for_period}

pub loop-index-init : goal.loop-index-init
unfolding found
loop-index-init g c = (λ k h. none_yet (found {T = g.row.T.Denot} [] (k + 1)) c.args.day k periods (λ e. refl), refl)

pub loop-index-preserved : goal.loop-index-preserved
loop-index-preserved g c =
    let t = c.args.self.entries.now in
    let i = c.loop-index.index in
    let x = c.dated-item.result in
    let d = c.args.day in
    let b = c.loop-index.bests in
    let within = c.loop-index-test.true in
    let is = c.dated-item.is in
    let inv = c.loop-index.invariant.0 in
    let due = sym c.is_for_period.ensures in
    elim c.if-is_for_period.branch [ then-is_for_period+then-is_none_or w ↦ (let on : for_period d x ≡ true = due ∙ w.if-is_for_period.true in let some : 1 ≤ x.subject = grind (arith, nat_tests) in let few : x.subject ≤ periods = grind (arith, nat_tests) in let j = w.from-k.result - 1 in let at : x.subject ≡ j + 1 = omega (arith, w.from-k.ensures) in let later : w.is_none_or.result ≡ is_later (get_or b j None) x.day = search rules in rw w.bests-is (each_took t i x d within is b inv j at on (sym later ∙ w.if-is_none_or.true) (omega (arith, c.loop-index.invariant.1)), length-set b j _ ∙ c.loop-index.invariant.1)) | then-is_for_period+else-is_none_or w ↦ (let on : for_period d x ≡ true = due ∙ w.if-is_for_period.true in let some : 1 ≤ x.subject = grind (arith, nat_tests) in let few : x.subject ≤ periods = grind (arith, nat_tests) in let j = w.from-k.result - 1 in let at : x.subject ≡ j + 1 = omega (arith, w.from-k.ensures) in let later : w.is_none_or.result ≡ is_later (get_or b j None) x.day = search rules in rw w.bests-is (each_kept t i x d within is b inv j at on (sym later ∙ w.if-is_none_or.false), c.loop-index.invariant.1)) | else-is_for_period w ↦ rw w.bests-is (each_passed t i x d within is b inv (due ∙ w.if-is_for_period.false), c.loop-index.invariant.1) ]

pub returns : goal.returns
returns g c =
    let t = c.args.self.entries.now in
    let d = c.args.day in
    let all : take c.loop-index.index t ≡ t = take_all c.loop-index.index t c.loop-index-test.false in
    let each : (k : ℕ) → k < periods → get_or c.map.result k None ≡ in_force t (k + 1) d =
    λ k h.
    let m = c.map.ensures.items.at k None None h in
    let index : get_or c.map.result k None ≡ index_of (get_or c.loop-index.bests k None) = search rules in
    index ∙ so_far_is (found t (k + 1)) d (get_or c.loop-index.bests k None) (rw all at (c.loop-index.invariant.0 k h)) in
    record {
      is = each;
      within = λ k h. rw (each k h) (in_force_within t (k + 1) d);
      size = c.map.ensures.items.long;
    }
