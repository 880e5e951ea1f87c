use Rattle.std.proofs.Common.{◌≡◌, ◌+◌, ◌-◌, length}
use Rattle.issuing.specs.Posted.{posted}
use Rattle.issuing.specs.Days.{lines_before, filled_before}
use Rattle.issuing.specs.Plans.{planned}
use Rattle.issuing.proofs.plan.Plan.send.Given as goal

abbrev pub invariant-loop-period : goal.invariant-loop-period
invariant-loop-period g l =
    let o = l.self.order in
    let next = planned (g.R.Rule.meaning o.rule.now) l.self in
    let ls = lines_before o.terms l.initial.issued next o.day o.run (l.period - 1) in
    (l.end ≡ l.at + length ls) × (l.journal ≡ posted l.initial.journal l.at ls) × (l.issued ≡ filled_before o.terms.places next o.day (l.period - 1) l.initial.issued)
