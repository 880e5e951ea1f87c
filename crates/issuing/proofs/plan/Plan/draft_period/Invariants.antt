use Rattle.std.proofs.Common.{◌≡◌, ◌*◌, length, None}
use Rattle.domain.specs.Slots.{reading_slot}
use Rattle.issuing.specs.Posted.{filled}
use Rattle.issuing.specs.Slots.{spoiled_place}
use Rattle.issuing.specs.Days.{period_lines}
use Rattle.issuing.specs.Plans.{planned}
use Rattle.issuing.proofs.plan.Plan.draft_period.Given as goal

abbrev pub invariant-loop-place : goal.invariant-loop-place
invariant-loop-place g l =
    let o = l.self.order in
    let next = planned (g.R.Rule.meaning o.rule.now) l.self in
    (spoiled_place o.terms l.issued o.day l.period l.place ≡ None) × (l.needed ≡ length (period_lines o.terms l.issued next o.day o.run l.period l.place)) × (l.draft ≡ filled (next l.period) (reading_slot 0 l.period * o.terms.places) l.place l.initial.draft)
