-- What is printed of a call, behind its number, and of a line that is no call.
use Rattle.std.specs.Prelude.{ℕ, Bool, cond, ◌&&◌, List, [], ◌++◌, take, Some, None, Ok, Err, codes, decimal, Option, Result}
use Rattle.std.specs.List.{flat_map}
use Rattle.text.specs.Hex.{hex}
use Rattle.domain.specs.Texts.{refusal_text, line_text}
use Rattle.domain.specs.declared.Fault.{Fault}
use Rattle.domain.specs.declared.Line.{Line}
use Rattle.book.specs.Statements.{lines_from}
use Rattle.season.specs.declared.Accepted.{Accepted}
use Rattle.season.specs.declared.Accepted.TheVariants.{Done, Scheduled, Issued}
use Rattle.seasonlines.specs.Slips.{slip_text}
use Rattle.seasonlines.specs.declared.Slip.{Slip}

-- the call `number` was accepted, and handed out bytes
abbrev pub bytes_text : ℕ → List ℕ → List ℕ
bytes_text number bs = decimal number ++ (codes " ok " ++ (hex bs ++ codes "\n"))

-- it was refused: the refusal's number and spot
abbrev pub refused_text : ℕ → Fault → List ℕ
refused_text number fault = decimal number ++ (codes " " ++ (refusal_text fault ++ codes "\n"))

-- a line that an issue sent
abbrev pub sent_text : Line → List ℕ
sent_text l = codes "  " ++ (line_text l ++ codes "\n")

-- the call `number` and what came of it; an issue's lines are those of the journal from `first` on
abbrev pub outcome_text : ℕ → List Line → ℕ → Result Accepted Fault → List ℕ
outcome_text number journal first (Ok Done) = decimal number ++ codes " ok\n"
outcome_text number journal first (Ok (Scheduled notice)) = bytes_text number notice
outcome_text number journal first (Ok (Issued lines)) =
    decimal number ++ (codes " ok " ++ (decimal lines ++ (codes "\n" ++ flat_map sent_text (lines_from journal first lines))))
outcome_text number journal first (Err fault) = refused_text number fault

-- the answer to the question after a volume: kWh and virtual kWh, or none
abbrev pub volume_text : ℕ → Result (Option (ℕ × ℕ)) Fault → List ℕ
volume_text number (Ok None) = decimal number ++ codes " ok none\n"
volume_text number (Ok (Some kwh)) = decimal number ++ (codes " ok " ++ (decimal kwh.0 ++ (codes " " ++ (decimal kwh.1 ++ codes "\n"))))
volume_text number (Err fault) = refused_text number fault

-- the answer to a statement: the file's bytes
abbrev pub statement_text : ℕ → List ℕ → Result ℕ Fault → List ℕ
statement_text number file (Ok size) = bytes_text number file
statement_text number file (Err fault) = refused_text number fault

-- the same where the file is the start of a buffer
abbrev pub buffer_text : ℕ → List ℕ → Result ℕ Fault → List ℕ
buffer_text number buffer (Ok size) = bytes_text number (take size buffer)
buffer_text number buffer (Err fault) = refused_text number fault

-- the line `number` of the input is no call
abbrev pub slip_line : ℕ → Slip → List ℕ
slip_line number slip = codes "line " ++ (decimal number ++ (codes ": " ++ (slip_text slip ++ codes "\n")))

-- a quiet season says nothing of a call that was accepted
abbrev pub spoken : Bool → Bool → List ℕ → List ℕ
spoken quiet accepted text = cond (quiet && accepted) [] text
