use Rattle.std.proofs.Common.{◌≡◌, ◌+◌, take, drop, sum}
use Rattle.rules.specs.Blocks.{modest}
use Rattle.recount.proofs.capacity_left.Given as goal

abbrev pub invariant-loop-n : goal.invariant-loop-n
invariant-loop-n l = (l.left + sum (take l.n-index l.nominations) ≡ l.capacity) × (modest (drop l.n-index l.nominations) ≡ modest l.nominations)
