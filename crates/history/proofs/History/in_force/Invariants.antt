use Rattle.std.proofs.Common.{take}
use Rattle.history.specs.Entries.{found}
use Rattle.history.proofs.Sofar.{SoFar}
use Rattle.history.proofs.History.in_force.Given as goal

abbrev pub invariant-loop-index : goal.invariant-loop-index
invariant-loop-index g l = SoFar (found (take l.index l.self.entries.now) l.subject) l.day l.best
