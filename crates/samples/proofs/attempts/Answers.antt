use Rattle.std.proofs.Common.{rules}
use Rattle.samples.proofs.Turns.{first_added, all_added}
use Rattle.samples.proofs.attempts.Goals as goal

pub loop-first-preserved : goal.loop-first-preserved
loop-first-preserved g c = first_added c.loop-first.attempts.items c.in-Some.first.now c.in-Some.later.now c.loop-first.invariant c.in-Some.ensures.cases.0 (search rules)

pub returns : goal.returns
returns g c = all_added c.loop-first.attempts.items c.loop-first.rest.now c.loop-first.invariant c.in_default.ensures.cases
