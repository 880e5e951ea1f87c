-- The question after a volume.
use Rattle.std.specs.Prelude.{ℕ, suc, cond, not, List, ℤ, pos, negsuc, Some, None, Ok, Option, Result, ◌==◌}
use Rattle.domain.specs.declared.Table.TheVariants.{Issued}
use Rattle.domain.specs.declared.Fault.{Fault}
use Rattle.domain.specs.declared.Fault.TheVariants.{ArgumentOutsideLimits, AnotherSize, Spoiled}
use Rattle.domain.specs.declared.Slot.{Slot}
use Rattle.domain.specs.declared.terms.Terms.{Terms}
use Rattle.domain.specs.Checks.{unless, is_day, is_period, is_place, spoiled_slot, issued_fit, slot_at}

-- kWh in the book's direction, and virtual kWh in the other
abbrev pub directed : ℤ → ℕ × ℕ
directed (pos n) = (n, 0)
directed (negsuc n) = (0, suc n)

-- none where the slot names no supplier
abbrev pub issued_volume : Slot → Option (ℕ × ℕ)
issued_volume s = cond (s.supplier == 0) None (Some (directed s.volume))

-- the checks of a volume, and the pair
abbrev pub volume_answer : Terms → List Slot → ℕ → ℕ → ℕ → Result (Option (ℕ × ℕ)) Fault
volume_answer t issued day period place =
    unless (is_day t day) (ArgumentOutsideLimits 1) (
    unless (is_period period) (ArgumentOutsideLimits 2) (
    unless (is_place t place) (ArgumentOutsideLimits 3) (
    unless (issued_fit t issued) (AnotherSize Issued) (
    unless (not (spoiled_slot (slot_at t issued day period place))) (Spoiled Issued) (
    Ok (issued_volume (slot_at t issued day period place)))))))
