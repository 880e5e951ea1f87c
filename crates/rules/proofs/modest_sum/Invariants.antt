use Rattle.std.proofs.Common.{◌≡◌, ◌^◌, ◌<◌, take, drop, sum}
use Rattle.rules.specs.Blocks.{modest}
use Rattle.rules.proofs.modest_sum.Given as goal

abbrev pub invariant-loop-nomination : goal.invariant-loop-nomination
invariant-loop-nomination l =
    (l.total ≡ sum (take l.nomination-index l.nominations)) × (l.total < 2 ^ 32) × (modest (drop l.nomination-index l.nominations) ≡ modest l.nominations)
