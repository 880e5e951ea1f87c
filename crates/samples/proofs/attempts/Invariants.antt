use Rattle.std.proofs.Common.{◌≡◌, ◌++◌, ◌∷◌, length}
use Rattle.samples.specs.Attempts.{faultless, in_order}
use Rattle.samples.proofs.attempts.Given as goal

abbrev pub invariant-loop-first : goal.invariant-loop-first
invariant-loop-first g l = l.attempts.items ++ in_order l.rest ≡ faultless ∷ in_order l.fn.refusals

abbrev pub decreases-loop-first : goal.decreases-loop-first
decreases-loop-first g l = length l.rest
