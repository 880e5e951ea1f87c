-- What holds once checks are passed, and that the slots of a half hour lie within their tables.
use Rattle.std.proofs.Common.{◌≡◌, ℕ, ◌<◌, ◌≤◌, Bool, true, false, Ok, Result, refl, arith}
use Rattle.std.proofs.lemmas.Nat.{mul-add-lt}
use Rattle.domain.specs.declared.Fault.{Fault}
use Rattle.domain.specs.Checks.{unless}
use Rattle.domain.specs.Limits.{periods}
use Rattle.domain.specs.Slots.{reading_slot, issued_slot, reading_slots, issued_slots}

pub reading_within : (days day period : ℕ) → day < days → 1 ≤ period → period ≤ periods → reading_slot day period < reading_slots days
reading_within days day period h least most = omega arith

pub issued_within : (places days day period place : ℕ) → day < days → 1 ≤ period → period ≤ periods → place < places → issued_slot places day period place < issued_slots places days
issued_within places days day period place h least most q =
    omega (arith, mul-add-lt (reading_slot day period) places place (reading_slots days) (reading_within days day period h least most) q)

-- a check that was passed holds
pub admitted : (holds : Bool) (fault : Fault) → ◌≡◌ {A = Result Unit Fault} (Ok tt) (unless holds fault (Ok tt)) → holds ≡ true
admitted true fault e = refl
admitted false fault e = let z : ◌≡◌ {A = ℕ} 0 1 = cc in absurd (omega arith)
