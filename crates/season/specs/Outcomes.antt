-- What comes of each call of a season.
use Rattle.std.specs.Prelude.{ℕ, Bool, List, [], ◌∷◌, length, replicate, is_ok, Ok, Err, Result}
use Rattle.domain.specs.Checks.{no_reading, no_volume}
use Rattle.domain.specs.declared.AllocationRow.{AllocationRow}
use Rattle.domain.specs.declared.Reading.{Reading}
use Rattle.domain.specs.declared.Slot.{Slot}
use Rattle.domain.specs.declared.Line.{Line}
use Rattle.domain.specs.declared.Fault.{Fault}
use Rattle.domain.specs.declared.terms.Terms.{Terms}
use Rattle.rules.specs.Meaning.{Meaning}
use Rattle.history.specs.declared.Dated.{Dated}
use Rattle.files.specs.Contents.{notice_of}
use Rattle.book.specs.Kept.{Kept, opened}
use Rattle.season.specs.declared.Call.{Call}
use Rattle.season.specs.declared.Call.TheVariants as call
use Rattle.season.specs.declared.Accepted.{Accepted}
use Rattle.season.specs.declared.Accepted.TheVariants.{Done, Scheduled, Issued}
use Rattle.season.specs.declared.Tables.{Tables}
use Rattle.season.specs.Steps.{State, registered, scheduled, read, ended, issued, step}

-- an accepted call that answers nothing more
abbrev pub done_by : {A : Type 0} → Result A Fault → Result Accepted Fault
done_by (Ok x) = Ok Done
done_by (Err f) = Err f

-- an accepted schedule, by its notice
abbrev pub scheduled_by : Result ℕ Fault → List ℕ → Result Accepted Fault
scheduled_by (Ok n) notice = Ok (Scheduled notice)
scheduled_by (Err f) notice = Err f

-- an accepted issue, by the lines that it sent
abbrev pub issued_by : Result ℕ Fault → Result Accepted Fault
issued_by (Ok sent) = Ok (Issued sent)
issued_by (Err f) = Err f

-- each call with whether it was accepted, as its outcome says
unfoldable pub heard : List Call → List (Result Accepted Fault) → List (Call × Bool)
heard [] outcomes = []
heard (c ∷ cs) [] = []
heard (c ∷ cs) (o ∷ os) = (c, is_ok o) ∷ heard cs os

-- what the book keeps, and the five tables
abbrev pub state_of : Kept → List (Dated ℕ) → List (Dated AllocationRow) → List Reading → List Slot → List Line → State
state_of k holders rows readings issued journal =
    record { kept = k; holders = holders; rows = rows; readings = readings; issued = issued; journal = journal }

-- what the book keeps, and what stands in the tables that are lent
abbrev pub state_in : Kept → Tables → State
state_in k lent = state_of k lent.holders.now lent.rows.now lent.readings.now lent.issued.now lent.journal.now

-- an open book and blanked tables
abbrev pub start_of : List (Dated ℕ) → List (Dated AllocationRow) → List Reading → List Slot → List Line → State
start_of holders rows readings issued journal =
    state_of opened holders rows (replicate (length readings) no_reading) (replicate (length issued) no_volume) journal

-- an open book and the tables that are lent, blanked
abbrev pub start_in : Tables → State
start_in lent = start_of lent.holders.now lent.rows.now lent.readings.now lent.issued.now lent.journal.now

module _ (t : Terms) (m : Meaning) where
  -- what comes of a call
  abbrev pub outcome : State → Call → Result Accepted Fault
  outcome st (call.Register place day supplier) = done_by (registered t m st place day supplier)
  outcome st (call.Schedule sender day moment rows) = scheduled_by (scheduled t m st sender day moment rows.now) (notice_of day sender moment)
  outcome st (call.Reading day period quality kwh) = done_by (read t m st day period quality kwh)
  outcome st (call.End sender day moment) = done_by (ended t m st sender day moment)
  outcome st (call.Issue day run) = issued_by (issued t m st day run)

  -- and of calls one after the other
  unfoldable pub outcomes : State → List Call → List (Result Accepted Fault)
  outcomes st [] = []
  outcomes st (c ∷ cs) = outcome st c ∷ outcomes (step t m st c) cs
