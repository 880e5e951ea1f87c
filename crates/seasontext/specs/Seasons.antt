-- What is printed of a season, from its first line to its last.
use Rattle.std.specs.Prelude.{ℕ, ◌+◌, min, max, Bool, false, List, [], ◌∷◌, ◌++◌, take, replicate, Some, None, Ok, Err, codes, Option, Result}
use Rattle.std.proofs.Common.{arith}
use Rattle.domain.specs.Checks.{no_reading, no_volume}
use Rattle.domain.specs.Limits.{fewest_places, most_places, most_days, most_capacity}
use Rattle.domain.specs.Texts.{refusal_text}
use Rattle.domain.specs.Slots.{reading_slots, issued_slots}
use Rattle.domain.specs.Termed.{terms_fault}
use Rattle.domain.specs.declared.Fault.{Fault}
use Rattle.domain.specs.declared.Line.{Line}
use Rattle.domain.specs.declared.terms.Terms.{Terms}
use Rattle.book.specs.Kept.{opened}
use Rattle.season.specs.Outcomes.{state_of}
use Rattle.text.specs.Words.{words_of, lines_of, uncommented}
use Rattle.seasonlines.specs.Entries.{entry_of}
use Rattle.seasonlines.specs.declared.Entry.{Entry}
use Rattle.seasonlines.specs.declared.Entry.TheVariants as entry
use Rattle.seasonlines.specs.declared.Faulty.{Faulty}
use Rattle.seasonlines.specs.declared.Faulty.TheVariants as faulty
use Rattle.seasonlines.specs.declared.Slip.TheVariants.{RowOutside, BeforeTerms}
use Rattle.seasonlines.specs.declared.Slip.{Slip}
use Rattle.domain.specs.Blanks.{no_line}
use Rattle.season.specs.Blanks.{no_holder, no_dated_row}
use Rattle.seasontext.specs.Runs.{Run, run_of, closed, line_done}
use Rattle.seasontext.specs.Sums.{tables_text}
use Rattle.seasontext.specs.Texts.{slip_line}

-- what a line says
abbrev pub entry_in : List ℕ → Result (Option Entry) Faulty
entry_in line = entry_of (words_of (uncommented line))

-- the lines one after the other, of which the first is the line `number`
unfoldable pub run_lines : ℕ → Run → List (List ℕ) → Run
run_lines number s [] = s
run_lines number s (l ∷ ls) = run_lines (number + 1) (line_done number (entry_in l) s) ls

-- the lines that were sent
abbrev pub lines_sent : Run → List Line
lines_sent s = take s.state.kept.lines s.state.journal

-- all that is printed, once the last line was read: an open schedule is called, and the tables come
unfoldable pub ended : Run → List ℕ
ended s = (closed s).text ++ tables_text (lines_sent (closed s)) (closed s).split

-- entries of the table of holders, where a season does not say otherwise
abbrev pub usual_holders : ℕ
usual_holders = 512

-- lines of the journal, where a season does not say otherwise
abbrev pub usual_journal : ℕ
usual_journal = 65536

-- a book that is opened, with blank tables: so many holders, so many lines of the journal, and the rest by the terms
unfoldable pub start_of : ℕ → ℕ → Terms → Bool → List ℕ → Run
start_of holders journal t quiet text =
    run_of t quiet (state_of opened (replicate holders no_holder) (replicate (reading_slots t.days) no_dated_row) (replicate (reading_slots t.days) no_reading) (replicate (issued_slots t.places t.days) no_volume) (replicate journal no_line)) (replicate (reading_slots t.days) None) 0 false None text

-- the terms with these numbers, which are within their limits (any other is brought within them)
abbrev pub terms_of : ℕ → ℕ → ℕ → Terms
terms_of places days capacity = record {
  places = min (max places fewest_places) most_places;
  days = min (max days 1) most_days;
  capacity = min capacity most_capacity;
  shared = omega arith;
  few = omega arith;
  some = omega arith;
  season = omega arith;
  room = omega arith;
}

-- terms that are refused end the season
abbrev pub terms_refused : Fault → List ℕ
terms_refused fault = codes "terms " ++ (refusal_text fault ++ codes "\n")

-- what is printed once terms were given, before the line `number` and those after it
unfoldable pub opened_by : Option Fault → Bool → ℕ → List ℕ → ℕ → ℕ → ℕ → List (List ℕ) → List ℕ
opened_by (Some fault) quiet number text places days capacity lines = text ++ terms_refused fault
opened_by None quiet number text places days capacity lines =
    ended (run_lines number (start_of usual_holders usual_journal (terms_of places days capacity) quiet text) lines)

-- the same, of terms with these numbers
abbrev pub opened_at : Bool → ℕ → List ℕ → ℕ → ℕ → ℕ → List (List ℕ) → List ℕ
opened_at quiet number text places days capacity lines =
    opened_by (terms_fault places days capacity) quiet number text places days capacity lines

-- what is wrong with a line before terms were given, if it says anything
abbrev pub slip_before : Result (Option Entry) Faulty → Option Slip
slip_before (Ok None) = None
slip_before (Ok (Some (entry.Terms places days capacity))) = None
slip_before (Ok (Some (entry.Tables holders rows journal))) = Some BeforeTerms
slip_before (Ok (Some (entry.Schedule sender day moment))) = Some BeforeTerms
slip_before (Ok (Some (entry.Row from to row))) = Some RowOutside
slip_before (Ok (Some (entry.Ask request))) = Some BeforeTerms
slip_before (Err (faulty.Row slip)) = Some RowOutside
slip_before (Err (faulty.Line slip)) = Some slip

-- what is said of it, if it is the line `number`
abbrev pub slip_text_if : ℕ → Option Slip → List ℕ
slip_text_if number None = []
slip_text_if number (Some slip) = slip_line number slip

-- what is printed of the line `number` before terms were given
abbrev pub before_text : ℕ → Result (Option Entry) Faulty → List ℕ
before_text number said = slip_text_if number (slip_before said)

-- the numbers of a line that gives terms
abbrev pub terms_in : Result (Option Entry) Faulty → Option (ℕ × ℕ × ℕ)
terms_in (Ok None) = None
terms_in (Ok (Some (entry.Terms places days capacity))) = Some (places, days, capacity)
terms_in (Ok (Some (entry.Tables holders rows journal))) = None
terms_in (Ok (Some (entry.Schedule sender day moment))) = None
terms_in (Ok (Some (entry.Row from to row))) = None
terms_in (Ok (Some (entry.Ask request))) = None
terms_in (Err fault) = None

-- one thing where terms are given, and another where they are not
abbrev pub terms_or : Option (ℕ × ℕ × ℕ) → (ℕ → ℕ → ℕ → List ℕ) → List ℕ → List ℕ
terms_or None given other = other
terms_or (Some t) given other = given t.0 t.1 t.2

-- what is printed of lines, the first of which is the line `number`, after this text and before terms were given
unfoldable pub until_terms : Bool → ℕ → List ℕ → List (List ℕ) → List ℕ
until_terms quiet number text [] = text ++ tables_text [] []
until_terms quiet number text (l ∷ ls) =
    terms_or (terms_in (entry_in l)) (λ places days capacity. opened_at quiet (number + 1) text places days capacity ls) (until_terms quiet (number + 1) (text ++ before_text number (entry_in l)) ls)

-- what is printed of a season
abbrev pub season_text : Bool → List ℕ → List ℕ
season_text quiet input = until_terms quiet 1 [] (lines_of input)
