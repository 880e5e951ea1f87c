-- What a line of a season does: to the book, to its tables, and to what has been printed.
use Rattle.std.specs.Prelude.{ℕ, zero, suc, ◌+◌, ◌-◌, ◌*◌, Bool, true, false, cond, not, ◌&&◌, List, ◌++◌, length, replicate, is_ok, Some, None, Ok, Err, Option, Result, ◌==◌, slice_index, slice_index_or, slice_set}
use Rattle.domain.specs.Checks.{no_reading}
use Rattle.domain.specs.Limits.{periods}
use Rattle.domain.specs.Slots.{slots_of_day}
use Rattle.domain.specs.declared.AllocationRow.{AllocationRow}
use Rattle.domain.specs.declared.Reading.{Reading}
use Rattle.domain.specs.declared.terms.Terms.{Terms}
use Rattle.rules.specs.House.{house}
use Rattle.files.specs.Contents.{of_statement, file_of}
use Rattle.files.specs.Formats.{most_bytes}
use Rattle.files.specs.declared.records.Intro.{Intro}
use Rattle.book.specs.Statements.{lines_from, statement_answer}
use Rattle.book.specs.Volumes.{volume_answer}
use Rattle.season.specs.Lent.{lent}
use Rattle.season.specs.Outcomes.{outcome, state_of}
use Rattle.season.specs.Steps.{State, step}
use Rattle.season.specs.declared.Call.{Call}
use Rattle.season.specs.declared.Call.TheVariants as call
use Rattle.season.specs.declared.Accepted.{Accepted}
use Rattle.season.specs.declared.Accepted.TheVariants.{Done, Scheduled, Issued}
use Rattle.domain.specs.declared.Fault.{Fault}
use Rattle.seasonlines.specs.Lists.{figures_in}
use Rattle.seasonlines.specs.declared.Entry.{Entry}
use Rattle.seasonlines.specs.declared.Entry.TheVariants as entry
use Rattle.seasonlines.specs.declared.Request.{Request}
use Rattle.seasonlines.specs.declared.Request.TheVariants as request
use Rattle.seasonlines.specs.declared.Faulty.{Faulty}
use Rattle.seasonlines.specs.declared.Faulty.TheVariants as faulty
use Rattle.seasonlines.specs.declared.Slip.{Slip}
use Rattle.seasonlines.specs.declared.Slip.TheVariants.{RowOutside, TermsAgain, TablesLate}
use Rattle.domain.specs.Blanks.{no_row, no_line}
use Rattle.season.specs.Blanks.{no_holder, no_dated_row}
use Rattle.seasontext.specs.Texts.{outcome_text, volume_text, statement_text, slip_line, spoken}
use Rattle.seasontext.specs.declared.desk.Draft.{Draft}

-- how far a season has come
pub record Run : Type 0 where
  pub terms : Terms
  -- only refusals, faulty lines and the two tables are printed
  pub quiet : Bool
  -- the book and its five tables
  pub state : State
  -- the kWh of the last accepted issue, for each slot of a day's period
  pub split : List (Option ℕ)
  -- how many calls there were
  pub calls : ℕ
  -- a line gave the tables their sizes
  pub sized : Bool
  -- the schedule whose rows have not ended
  pub draft : Option Draft
  -- what has been printed
  pub text : List ℕ

-- a run with these parts
abbrev pub run_of : Terms → Bool → State → List (Option ℕ) → ℕ → Bool → Option Draft → List ℕ → Run
run_of terms quiet state split calls sized draft text =
    record { terms = terms; quiet = quiet; state = state; split = split; calls = calls; sized = sized; draft = draft; text = text }

-- with more text
abbrev pub saying : List ℕ → Run → Run
saying more s = run_of s.terms s.quiet s.state s.split s.calls s.sized s.draft (s.text ++ more)

-- with one more call
abbrev pub counted : Run → Run
counted s = run_of s.terms s.quiet s.state s.split (s.calls + 1) s.sized s.draft s.text

-- with another book and tables
abbrev pub with_state : State → Run → Run
with_state state s = run_of s.terms s.quiet state s.split s.calls s.sized s.draft s.text

-- with another open schedule, or none
abbrev pub with_draft : Option Draft → Run → Run
with_draft draft s = run_of s.terms s.quiet s.state s.split s.calls s.sized draft s.text

-- a line that is no call
unfoldable pub slipped : ℕ → Slip → Run → Run
slipped number slip s = saying (slip_line number slip) s

-- one more call was made, and is printed
unfoldable pub answered : Bool → List ℕ → Run → Run
answered accepted text s = counted (saying (spoken s.quiet accepted text) s)

-- what came of a call, made where the book had sent `first` lines
unfoldable pub told : ℕ → Result Accepted Fault → Run → Run
told first came s = answered (is_ok came) (outcome_text (s.calls + 1) s.state.journal first came) s

-- the book and its tables after a call
unfoldable pub stepped : Call → Run → Run
stepped c s = with_state (step s.terms house s.state c) s

-- what comes of a call
unfoldable pub came_of : Call → Run → Result Accepted Fault
came_of c s = outcome s.terms house s.state c

-- a call is made, and printed
unfoldable pub called : Call → Run → Run
called c s = told s.state.kept.lines (came_of c s) (stepped c s)

-- the kWh of so many slots, from `first` on, as they are read now
unfoldable pub copied : List Reading → ℕ → ℕ → List (Option ℕ) → List (Option ℕ)
copied readings first zero split = split
copied readings first (suc n) split =
    slice_set (copied readings first n split) (first + n) (Some (slice_index_or readings (first + n) no_reading).kwh)

-- an issue was accepted
abbrev pub is_issue : Result Accepted Fault → Bool
is_issue (Ok Done) = false
is_issue (Ok (Scheduled notice)) = false
is_issue (Ok (Issued lines)) = true
is_issue (Err fault) = false

-- an accepted issue of a day notes the kWh that it split
unfoldable pub noted : Result Accepted Fault → ℕ → Run → Run
noted came day s =
    cond (is_issue came) (run_of s.terms s.quiet s.state (copied s.state.readings (day * slots_of_day) periods s.split) s.calls s.sized s.draft s.text) s

-- an issue
unfoldable pub issued_day : ℕ → ℕ → Run → Run
issued_day day run s =
    told s.state.kept.lines (came_of (call.Issue day run) s) (noted (came_of (call.Issue day run) s) day (stepped (call.Issue day run) s))

-- the question after a volume
unfoldable pub volume_asked : ℕ → ℕ → ℕ → Run → Run
volume_asked day period place s =
    let answer = volume_answer s.terms s.state.issued day period place in
    answered (is_ok answer) (volume_text (s.calls + 1) answer) s

-- a statement, into a buffer that is never too short
unfoldable pub statement_asked : ℕ → ℕ → Run → Run
statement_asked first count s =
    let answer = statement_answer s.state.kept (length s.state.journal) first count most_bytes in
    answered (is_ok answer) (statement_text (s.calls + 1) (file_of (of_statement (lines_from s.state.journal first count))) answer) s

-- readings of a day's first n periods
unfoldable pub read_all : ℕ → ℕ → List ℕ → ℕ → Run → Run
read_all day quality figures zero s = s
read_all day quality figures (suc n) s =
    called (call.Reading day (suc n) quality (slice_index figures n)) (read_all day quality figures n s)

-- this schedule, if there is one, is called
unfoldable pub closed_by : Option Draft → Run → Run
closed_by None s = s
closed_by (Some d) s = called (call.Schedule d.intro.sender d.intro.day d.intro.moment (lent d.rows)) (with_draft None s)

-- the open schedule, if there is one, is called
abbrev pub closed : Run → Run
closed s = closed_by s.draft s

-- a schedule begins, and each period's row has method 0
unfoldable pub drafted : Intro → Run → Run
drafted intro s = with_draft (Some (record { intro = intro; rows = replicate periods no_row })) s

-- rows with this one at n places from `first` on
unfoldable pub rows_with : AllocationRow → ℕ → ℕ → List AllocationRow → List AllocationRow
rows_with row first zero rows = rows
rows_with row first (suc n) rows = slice_set (rows_with row first n rows) (first + n) row

-- a schedule with a row for the periods from one to another
abbrev pub rowed : Draft → ℕ → ℕ → AllocationRow → Draft
rowed d from to row =
    record { intro = d.intro; rows = rows_with row (from - 1) (to - (from - 1)) d.rows }

-- the same of the open schedule, if there is one
unfoldable pub row_put : ℕ → Option Draft → ℕ → ℕ → AllocationRow → Run → Run
row_put number None from to row s = slipped number RowOutside s
row_put number (Some d) from to row s = with_draft (Some (rowed d from to row)) s

-- a row that is none
unfoldable pub row_faulty : ℕ → Option Draft → Slip → Run → Run
row_faulty number None slip s = slipped number RowOutside s
row_faulty number (Some d) slip s = slipped number slip s

-- tables of other sizes: holders, rows and journal
unfoldable pub tables_of : ℕ → ℕ → ℕ → Run → Run
tables_of holders rows journal s =
    run_of s.terms s.quiet (state_of s.state.kept (replicate holders no_holder) (replicate rows no_dated_row) s.state.readings s.state.issued (replicate journal no_line)) s.split s.calls true s.draft s.text

-- sizes of the tables, once and before the first call
unfoldable pub tables_put : ℕ → ℕ → ℕ → ℕ → Run → Run
tables_put number holders rows journal s =
    cond (s.calls == 0 && not s.sized) (tables_of holders rows journal s) (slipped number TablesLate s)

-- lines that do not end a schedule
abbrev pub within : Result (Option Entry) Faulty → Bool
within (Ok None) = true
within (Ok (Some (entry.Terms places days capacity))) = false
within (Ok (Some (entry.Tables holders rows journal))) = false
within (Ok (Some (entry.Schedule sender day moment))) = false
within (Ok (Some (entry.Row from to row))) = true
within (Ok (Some (entry.Ask r))) = false
within (Err (faulty.Row slip)) = true
within (Err (faulty.Line slip)) = false

-- a call, or a question
abbrev pub asked : Request → Run → Run
asked (request.Register place day supplier) s = called (call.Register place day supplier) s
asked (request.Reading day period quality kwh) s = called (call.Reading day period quality kwh) s
asked (request.Readings day quality figures) s = read_all day quality (figures_in figures) (length (figures_in figures)) s
asked (request.End sender day moment) s = called (call.End sender day moment) s
asked (request.Issue day run) s = issued_day day run s
asked (request.Volume day period place) s = volume_asked day period place s
asked (request.Statement first count) s = statement_asked first count s

-- what the line `number` does, once the schedule before it has been called
abbrev pub entered : ℕ → Result (Option Entry) Faulty → Run → Run
entered number (Ok None) s = s
entered number (Ok (Some (entry.Terms places days capacity))) s = slipped number TermsAgain s
entered number (Ok (Some (entry.Tables holders rows journal))) s = tables_put number holders rows journal s
entered number (Ok (Some (entry.Schedule sender day moment))) s = drafted (record { sender = sender; day = day; moment = moment }) s
entered number (Ok (Some (entry.Row from to row))) s = row_put number s.draft from to row s
entered number (Ok (Some (entry.Ask r))) s = asked r s
entered number (Err (faulty.Row slip)) s = row_faulty number s.draft slip s
entered number (Err (faulty.Line slip)) s = slipped number slip s

-- what the line `number` does
unfoldable pub line_done : ℕ → Result (Option Entry) Faulty → Run → Run
line_done number said s = entered number said (cond (within said) s (closed s))
