use Rattle.std.proofs.Common.{◌≡◌, take, sym, refl, ap, ◌∙◌, rules}
use Rattle.std.proofs.lemmas.List.{take_all}
use Rattle.std.proofs.lemmas.Bool.{and_right, and_left}
use Rattle.history.specs.Entries.{found, in_force, entry_at}
use Rattle.history.proofs.Answered.{in_force_says}
use Rattle.history.proofs.Keyed.{in_force_entry}
use Rattle.history.proofs.Placing.{in_force_within}
use Rattle.history.proofs.Sofar.{is_later, index_of, so_far_is, so_far_took, so_far_kept}
use Rattle.history.proofs.History.in_force.Goals as goal
use Rattle.history.proofs.History.in_force.Goals.{then-is_due+then-is_none_or, else-is_due, else-is_due-via-then-is_due+else-is_none_or, else-is_due-via-else-is_due}

pub loop-index-init : goal.loop-index-init
unfolding found
loop-index-init g c = λ e m. refl

pub loop-index-preserved : goal.loop-index-preserved
loop-index-preserved g c =
    let t = c.args.self.entries.now in
    let i = c.loop-index.index in
    let x = c.dated-item.result in
    let s = c.args.subject in
    let d = c.args.day in
    let b = c.loop-index.best in
    let within = c.loop-index-test.true in
    let is = c.dated-item.is in
    let due = sym c.is_due.ensures in
    elim c.if-is_due.branch [ then-is_due+then-is_none_or w ↦ (let later : w.is_none_or.result ≡ is_later b x.day = search rules in so_far_took t i x s d within is b c.loop-index.invariant (due ∙ w.if-is_due.true) (sym later ∙ w.if-is_none_or.true) w.best-is) | else-is_due w ↦ so_far_kept t i x s d within is b c.loop-index.invariant (elim w.else-is_due.branch [ else-is_due-via-then-is_due+else-is_none_or v ↦ (let later : v.is_none_or.result ≡ is_later b x.day = search rules in and_right _ _ (sym later ∙ v.if-is_none_or.false)) | else-is_due-via-else-is_due v ↦ and_left _ _ (due ∙ v.if-is_due.false) ]) w.best-is ]

pub returns : goal.returns
returns g c =
    let t = c.args.self.entries.now in
    let s = c.args.subject in
    let d = c.args.day in
    let all : take c.loop-index.index t ≡ t = take_all c.loop-index.index t c.loop-index-test.false in
    let index : c.map.result ≡ index_of c.loop-index.best = search rules in
    let is : c.map.result ≡ in_force t s d = index ∙ so_far_is (found t s) d c.loop-index.best (rw all at c.loop-index.invariant) in
    record {
      is = is;
      within = rw is (in_force_within t s d);
      entry = ap (entry_at t) is ∙ in_force_entry t s d;
      says = rw is (in_force_says t s d);
    }
