-- All that was worked by hand, in one result: half hours, and the lines that correct them.
use Rattle.std.specs.Prelude.{◌≡◌, ℕ, [], ◌∷◌, ◌++◌, ℤ, pos}
use Rattle.domain.specs.Lines.{line_of, slot_lines}
use Rattle.domain.specs.declared.Slot.{Slot}
use Rattle.domain.specs.declared.Line.{Line}
use Rattle.rules.specs.Worked.{WorkedHalfHours, Gives, at60, minus}

-- a slot that holds a volume for a supplier
abbrev pub slot_for : ℕ → ℤ → Slot
slot_for supplier volume = record { supplier = supplier; volume = volume }

-- the line of a place in period 13 of day 0, in run 1
abbrev pub line13 : ℕ → ℕ → ℤ → Line
line13 place supplier volume = line_of 0 1 13 place supplier volume

-- all that was worked by hand: the half hours, and the lines of an issue that corrects an earlier one
pub record WorkedExamples : Type 0 where
  pub half_hours : WorkedHalfHours
  -- 21 and 9 were issued, and then 20 kWh are read, which split into 14 and 6: lines of -7 and -3
  pub again : Gives (at60 1 (7000 ∷ 0 ∷ []) 1) 13 20 (pos 14 ∷ pos 6 ∷ [])
  pub corrected : slot_lines (line13 0) (slot_for 101 (pos 21)) (slot_for 101 (pos 14)) ++ slot_lines (line13 1) (slot_for 102 (pos 9)) (slot_for 102 (pos 6)) ≡ line13 0 101 (minus 7) ∷ line13 1 102 (minus 3) ∷ []
  -- place 1 then passes from 102 to 103: lines of -6 and 6
  pub passed : slot_lines (line13 1) (slot_for 102 (pos 6)) (slot_for 103 (pos 6)) ≡ line13 1 102 (minus 6) ∷ line13 1 103 (pos 6) ∷ []
