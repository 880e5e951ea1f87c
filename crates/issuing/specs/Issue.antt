-- Issuing a day: which refusal, which lines, and what the slots hold then.
use Rattle.std.specs.Prelude.{ℕ, ◌+◌, Bool, not, ◌&&◌, ◌||◌, List, length, take, is_some, Ok, Option, Result, ◌==◌, nat_le}
use Rattle.std.specs.Option.{unwrap_or}
use Rattle.domain.specs.Limits.{periods}
use Rattle.domain.specs.Slots.{issued_slots}
use Rattle.domain.specs.declared.AllocationRow.{AllocationRow}
use Rattle.domain.specs.declared.Reading.{Reading}
use Rattle.domain.specs.declared.Slot.{Slot}
use Rattle.domain.specs.declared.Line.{Line}
use Rattle.domain.specs.declared.Table.TheVariants.{Holders, Rows, Readings, Issued, Journal}
use Rattle.domain.specs.declared.Fault.{Fault}
use Rattle.domain.specs.declared.Fault.TheVariants.{ArgumentOutsideLimits, AnotherSize, Spoiled, DayClosed, ReadingMissing, HolderMissing, JournalTooShort}
use Rattle.domain.specs.declared.terms.Terms.{Terms}
use Rattle.domain.specs.Checks.{unless, is_day, spoiled_reading, spoiled_slot, readings_fit, issued_fit, reading_at}
use Rattle.history.specs.declared.Dated.{Dated}
use Rattle.rules.specs.Meaning.{Meaning}
use Rattle.rows.specs.Rows.{share_of}
use Rattle.issuing.specs.declared.Standing.{Standing}
use Rattle.issuing.specs.First.{first_where, unless_found}
use Rattle.issuing.specs.InForce.{is_ended, needs_holder, supplier_of, row_of, spoiled_holder, spoiled_row}
use Rattle.issuing.specs.Slots.{is_empty, slot_of_day}
use Rattle.issuing.specs.Days.{lines_of, filled_before}

-- run 1, Initial, or 2, Final Reconciliation
abbrev pub is_run : ℕ → Bool
is_run run = run == 1 || run == 2

-- the arguments are within their limits, and the tables of slots have the sizes that the terms give
abbrev pub call_checked : {A : Type 0} → Terms → List Reading → List Slot → ℕ → ℕ → Result A Fault → Result A Fault
call_checked t readings issued day run rest =
    unless (is_day t day) (ArgumentOutsideLimits 1) (
    unless (is_run run) (ArgumentOutsideLimits 2) (
    unless (readings_fit t readings) (AnotherSize Readings) (
    unless (issued_fit t issued) (AnotherSize Issued) rest)))

-- no reading and no issued slot of the day is spoiled
abbrev pub slots_checked : {A : Type 0} → Terms → List Reading → List Slot → ℕ → Result A Fault → Result A Fault
slots_checked t readings issued day rest =
    unless_found (first_where (λ i. spoiled_reading (reading_at readings day (i + 1))) periods) (λ _. Spoiled Readings) (
    unless_found (first_where (λ i. spoiled_slot (slot_of_day t issued day i)) (issued_slots t.places 1)) (λ _. Spoiled Issued) rest)

-- the journal, which has `room` lines, holds those that were sent, and the day is not closed
abbrev pub standing_checked : {A : Type 0} → Standing → ℕ → ℕ → Result A Fault → Result A Fault
standing_checked k room day rest =
    unless (nat_le k.lines room) (Spoiled Journal) (
    unless (not k.closed) (DayClosed day) rest)

-- the holder of a place on a day, if it needs and has one
abbrev pub supplier_on : Standing → List (Dated ℕ) → ℕ → ℕ → Option ℕ
supplier_on k holders day place = supplier_of (take k.holders holders) (is_ended k.ended day) day place

-- the same, 0 for none
abbrev pub holder_on : Standing → List (Dated ℕ) → ℕ → ℕ → ℕ
holder_on k holders day place = unwrap_or (supplier_on k holders day place) 0

-- the row that splits a period of a day, if there is one
abbrev pub row_on : Standing → List (Dated AllocationRow) → ℕ → ℕ → Option AllocationRow
row_on k rows day period = row_of (take k.rows rows) (is_ended k.ended day) day period

-- the tables have the entries that are held, and no holder and no row in force is spoiled
abbrev pub in_force_checked : {A : Type 0} → Meaning → Terms → Standing → List (Dated ℕ) → List (Dated AllocationRow) → ℕ → Result A Fault → Result A Fault
in_force_checked m t k holders rows day rest =
    unless (nat_le k.holders (length holders)) (Spoiled Holders) (
    unless_found (first_where (λ q. spoiled_holder (supplier_on k holders day q)) t.places) (λ _. Spoiled Holders) (
    unless (nat_le k.rows (length rows)) (Spoiled Rows) (
    unless_found (first_where (λ i. spoiled_row m t (row_on k rows day (i + 1))) periods) (λ _. Spoiled Rows) rest)))

-- a place that needs a holder and has none
abbrev pub lacks_holder : Standing → List (Dated ℕ) → ℕ → ℕ → Bool
lacks_holder k holders day place =
    needs_holder (is_ended k.ended day) place && not (is_some (supplier_on k holders day place))

-- every period of the day has a reading, and every place that needs a holder has one
abbrev pub complete_checked : {A : Type 0} → Terms → Standing → List (Dated ℕ) → List Reading → ℕ → Result A Fault → Result A Fault
complete_checked t k holders readings day rest =
    unless_found (first_where (λ i. is_empty (reading_at readings day (i + 1))) periods) (λ i. ReadingMissing (i + 1)) (
    unless_found (first_where (lacks_holder k holders day) t.places) HolderMissing rest)

module _ (m : Meaning) (t : Terms) (k : Standing) (holders : List (Dated ℕ)) (rows : List (Dated AllocationRow)) (readings : List Reading) where
  -- all checks of an issue that come before its lines are counted
  abbrev pub issue_checked : {A : Type 0} → List Slot → ℕ → ℕ → ℕ → Result A Fault → Result A Fault
  issue_checked issued room day run rest =
      call_checked t readings issued day run (
      in_force_checked m t k holders rows day (
      slots_checked t readings issued day (
      standing_checked k room day (
      complete_checked t k holders readings day rest))))

  -- the slot of a place in a day's period as it is to be: its holder and its share
  abbrev pub next_slot : ℕ → ℕ → ℕ → Slot
  next_slot day period place =
      record { supplier = holder_on k holders day place; volume = share_of m t (row_on k rows day period) period (reading_at readings day period).kwh place }

  -- the lines of a day, by period and then by place
  abbrev pub day_lines : List Slot → ℕ → ℕ → List Line
  day_lines issued day run = lines_of t issued (next_slot day) day run

  -- the table with each slot of the day as it is to be
  abbrev pub issued_after : List Slot → ℕ → List Slot
  issued_after issued day = filled_before t.places (next_slot day) day periods issued

  -- the refusal of an issue, or how many lines it sends; `room` is the journal's length
  abbrev pub issue_answer : List Slot → ℕ → ℕ → ℕ → Result ℕ Fault
  issue_answer issued room day run =
      issue_checked issued room day run (
      unless (nat_le (k.lines + length (day_lines issued day run)) room) (JournalTooShort (k.lines + length (day_lines issued day run))) (
      Ok (length (day_lines issued day run))))
