-- The laws of two places that share half and half.
use Rattle.std.specs.Prelude.{ℕ, zero, suc, ◌<◌, pos, slice_index_or}
use Rattle.std.proofs.Common.{ap, arith}
use Rattle.std.proofs.lemmas.Int.{ints}
use Rattle.std.proofs.lemmas.Bool.Decides.{nat_tests}
use Rattle.rules.specs.Meaning.{Agreement, Fair, Laws}
use Rattle.own_rule.specs.Halves.{halves_of}

module _ (t : Agreement) (p e : ℕ) where
  fair : (i : ℕ) → i < 2 → Fair t e i (slice_index_or (halves_of.shares t p e) i (pos 0))
  fair zero h = record { low = omega (arith, ints); high = omega (arith, ints); sign = λ _. omega (arith, ints) }
  fair (suc zero) h = record { low = omega (arith, ints); high = omega (arith, ints); sign = λ _. omega (arith, ints) }
  fair (suc (suc i)) h = absurd (omega arith)

pub halves_laws : Laws halves_of
halves_laws t p e lawful range = record { places = grind (arith, nat_tests); whole = ap pos (omega arith); each = fair t p e }
