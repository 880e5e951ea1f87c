-- What is printed of a day.
use Rattle.std.specs.Prelude.{ℕ, List, ◌++◌, Ok, Err, codes, decimal, Result}
use Rattle.std.specs.Fmt.{signed_decimal}
use Rattle.std.specs.List.{flat_map}
use Rattle.domain.specs.Checks.{and_then}
use Rattle.domain.specs.Texts as domain
use Rattle.domain.specs.declared.Fault.{Fault}
use Rattle.domain.specs.declared.Line.{Line}
use Rattle.dayrun.specs.Files.{Files, files_read, sender_of, day_of, moment_of, rows_in, readings_in}
use Rattle.dayrun.specs.Calls.{site_terms, start, day_sent}

-- a line: its period, place, supplier and volume
abbrev pub line_text : Line → List ℕ
line_text l = decimal l.period ++ (codes " " ++ (decimal l.place ++ (codes " " ++ (decimal l.supplier ++ (codes " " ++ (signed_decimal l.volume ++ codes "\n"))))))

-- a refusal: its number and spot
abbrev pub refusal_text : Fault → List ℕ
refusal_text fault = domain.refusal_text fault ++ codes "\n"

-- the lines that were sent, or only the refusal
abbrev pub answer_text : Result (List Line) Fault → List ℕ
answer_text (Ok lines) = flat_map line_text lines
answer_text (Err fault) = refusal_text fault

-- the lines that the two files give
abbrev pub lines_of : Files → Result (List Line) Fault
lines_of f =
    day_sent site_terms start (sender_of f.schedule) (day_of f.schedule) (moment_of f.schedule) (rows_in f.schedule.records) (readings_in f.readings.records)

-- what is printed for an input
abbrev pub day_text : List ℕ → List ℕ
day_text input = answer_text (and_then (files_read input) lines_of)
