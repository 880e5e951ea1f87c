-- What several rules have in common.
use Rattle.std.specs.Prelude.{ℕ, ◌≤◌, max, pos}
use Rattle.std.proofs.Common.{arith}
use Rattle.std.proofs.lemmas.Int.{ints}
use Rattle.rules.specs.Meaning.{Agreement, Fair}

-- a share of what there is, or of what there is room for
pub fair_part : (t : Agreement) (e i n : ℕ) → n ≤ max e t.capacity → Fair t e i (pos n)
fair_part t e i n h = record { low = omega (arith, ints); high = omega (arith, ints); sign = λ _. omega (arith, ints) }
