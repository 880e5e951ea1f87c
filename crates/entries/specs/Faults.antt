-- What is said of a line that is no half hour.
use Rattle.std.specs.Prelude.{ℕ, List, codes}
use Rattle.text.specs.Fields.{word_fault_text}
use Rattle.entries.specs.declared.Fault.{Fault}
use Rattle.entries.specs.declared.Fault.TheVariants.{Word, Period, Energy}

-- what is said of a line that is no half hour
abbrev pub fault_text : Fault → List ℕ
fault_text (Word f) = word_fault_text f
fault_text Period = codes "the period is outside 1 to 48"
fault_text Energy = codes "the energy is above 9999999 kWh"
