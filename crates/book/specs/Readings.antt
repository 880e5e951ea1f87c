-- The calls on the table of readings, and blanking.
use Rattle.std.specs.Prelude.{ℕ, not, ◌&&◌, List, Ok, Result, ◌==◌, nat_le, slice_set}
use Rattle.domain.specs.Limits.{most_kwh}
use Rattle.domain.specs.Slots.{reading_slot}
use Rattle.domain.specs.declared.Table.TheVariants.{Readings, Issued}
use Rattle.domain.specs.declared.Fault.{Fault}
use Rattle.domain.specs.declared.Fault.TheVariants.{ArgumentOutsideLimits, AnotherSize, Spoiled, DayClosed, EstimateOverActual}
use Rattle.domain.specs.declared.Reading.{Reading}
use Rattle.domain.specs.declared.Slot.{Slot}
use Rattle.domain.specs.declared.terms.Terms.{Terms}
use Rattle.domain.specs.Checks.{unless, is_day, is_period, is_quality, spoiled_reading, readings_fit, issued_fit, reading_at}
use Rattle.book.specs.Kept.{Kept, is_closed}

-- blanking is refused where a table has another size
abbrev pub blank_answer : Terms → List Reading → List Slot → Result Unit Fault
blank_answer t readings issued =
    unless (readings_fit t readings) (AnotherSize Readings) (unless (issued_fit t issued) (AnotherSize Issued) (Ok tt))

-- the checks of a reading
abbrev pub reading_answer : Terms → Kept → List Reading → ℕ → ℕ → ℕ → ℕ → Result Unit Fault
reading_answer t k readings day period quality kwh =
    unless (is_day t day) (ArgumentOutsideLimits 1) (
    unless (is_period period) (ArgumentOutsideLimits 2) (
    unless (is_quality quality) (ArgumentOutsideLimits 3) (
    unless (nat_le kwh most_kwh) (ArgumentOutsideLimits 4) (
    unless (readings_fit t readings) (AnotherSize Readings) (
    unless (not (spoiled_reading (reading_at readings day period))) (Spoiled Readings) (
    unless (not (is_closed k day)) (DayClosed day) (
    unless (not (quality == 1 && (reading_at readings day period).quality == 2)) (EstimateOverActual period) (Ok tt))))))))

-- the table with a reading in its slot
abbrev pub with_reading : List Reading → ℕ → ℕ → ℕ → ℕ → List Reading
with_reading readings day period quality kwh = slice_set readings (reading_slot day period) (record { quality = quality; kwh = kwh })
