-- The lines and the slots of a day, by what each slot is to be.
use Rattle.std.specs.Prelude.{ℕ, zero, suc, ◌+◌, ◌*◌, List}
use Rattle.domain.specs.Limits.{periods}
use Rattle.domain.specs.Slots.{reading_slot}
use Rattle.domain.specs.Checks.{slot_at}
use Rattle.domain.specs.Lines.{line_of, slot_lines, gathered}
use Rattle.domain.specs.declared.Line.{Line}
use Rattle.domain.specs.declared.Slot.{Slot}
use Rattle.domain.specs.declared.terms.Terms.{Terms}
use Rattle.issuing.specs.Posted.{filled}

-- the lines that lead a place in a period from its slot in the table to what it is to be
abbrev pub place_lines : Terms → List Slot → (ℕ → ℕ → Slot) → ℕ → ℕ → ℕ → ℕ → List Line
place_lines t issued next day run period place =
    slot_lines (line_of day run period place) (slot_at t issued day period place) (next period place)

-- the lines of the first m places in a period
abbrev pub period_lines : Terms → List Slot → (ℕ → ℕ → Slot) → ℕ → ℕ → ℕ → ℕ → List Line
period_lines t issued next day run period m = gathered (place_lines t issued next day run period) m

-- the lines of the first m periods, all by the table as it was
abbrev pub lines_before : Terms → List Slot → (ℕ → ℕ → Slot) → ℕ → ℕ → ℕ → List Line
lines_before t issued next day run m = gathered (λ i. period_lines t issued next day run (i + 1) t.places) m

-- the lines of a day
abbrev pub lines_of : Terms → List Slot → (ℕ → ℕ → Slot) → ℕ → ℕ → List Line
lines_of t issued next day run = lines_before t issued next day run periods

-- the table with the slots of the first m periods of a day as they are to be
unfoldable pub filled_before : ℕ → (ℕ → ℕ → Slot) → ℕ → ℕ → List Slot → List Slot
filled_before places next day zero issued = issued
filled_before places next day (suc i) issued =
    filled (next (i + 1)) (reading_slot day (i + 1) * places) places (filled_before places next day i issued)
