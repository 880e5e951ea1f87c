-- What is printed of a refusal and of a line of the journal.
use Rattle.std.specs.Prelude.{ℕ, List, ◌++◌, codes, decimal}
use Rattle.std.specs.Fmt.{signed_decimal}
use Rattle.domain.specs.Refusals.{refused}
use Rattle.domain.specs.declared.Fault.{Fault}
use Rattle.domain.specs.declared.Line.{Line}

-- a refusal: its number and spot
abbrev pub refusal_text : Fault → List ℕ
refusal_text fault = codes "refused " ++ (decimal (refused fault).0 ++ (codes " " ++ decimal (refused fault).1))

-- a line: its day, period, place, supplier, run and volume
abbrev pub line_text : Line → List ℕ
line_text l = decimal l.day ++ (codes " " ++ (decimal l.period ++ (codes " " ++ (decimal l.place ++ (codes " " ++ (decimal l.supplier ++ (codes " " ++ (decimal l.run ++ (codes " " ++ signed_decimal l.volume)))))))))
