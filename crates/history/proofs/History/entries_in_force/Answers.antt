use Rattle.std.proofs.Common.{None, ap, ◌∙◌, rules, tests}
use Rattle.history.specs.Entries.{entry_at}
use Rattle.history.proofs.Mapped.{mapped_at}
use Rattle.history.proofs.History.entries_in_force.Goals as goal

pub returns-clause-each : goal.returns-clause-each
returns-clause-each g c k h =
    let t = c.args.self.entries.now in
    mapped_at _ _ (entry_at t) (λ x y q called. search (rules, tests)) c.in_force_each.result c.map.result 48 c.map.ensures.items k h None None ∙ ap (entry_at t) (c.in_force_each.ensures.is k h)
