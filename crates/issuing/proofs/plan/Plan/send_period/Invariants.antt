use Rattle.std.proofs.Common.{◌≡◌, ◌+◌, ◌*◌, length}
use Rattle.domain.specs.Slots.{reading_slot}
use Rattle.issuing.specs.Posted.{posted, filled}
use Rattle.issuing.specs.Days.{period_lines}
use Rattle.issuing.specs.Plans.{planned}
use Rattle.issuing.proofs.plan.Plan.send_period.Given as goal

abbrev pub invariant-loop-place : goal.invariant-loop-place
invariant-loop-place g l =
    let next = planned (g.R.Rule.meaning l.self.order.rule.now) l.self in
    let ls = period_lines l.self.order.terms l.initial.issued next l.self.order.day l.self.order.run l.period l.place in
    (l.end ≡ l.at + length ls) × (l.journal ≡ posted l.initial.journal l.at ls) × (l.issued ≡ filled (next l.period) (reading_slot l.self.order.day l.period * l.self.order.terms.places) l.place l.initial.issued)
