use Rattle.std.proofs.Common.{◌≡◌, ◌-◌, ◌*◌, length, None}
use Rattle.issuing.specs.Slots.{spoiled_before}
use Rattle.issuing.specs.Days.{lines_before, filled_before}
use Rattle.issuing.specs.Plans.{planned}
use Rattle.issuing.proofs.plan.Plan.draft.Given as goal

abbrev pub invariant-loop-period : goal.invariant-loop-period
invariant-loop-period g l =
    let o = l.self.order in
    let next = planned (g.R.Rule.meaning o.rule.now) l.self in
    (spoiled_before o.terms l.issued o.day ((l.period - 1) * o.terms.places) ≡ None) × (l.needed ≡ length (lines_before o.terms l.issued next o.day o.run (l.period - 1))) × (l.draft ≡ filled_before o.terms.places next 0 (l.period - 1) l.initial.draft)
