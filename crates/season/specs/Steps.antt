-- The calls of a season, one after the other, on a book and its five tables.
use Rattle.std.specs.Prelude.{ℕ, Bool, List, [], ◌∷◌, take, is_ok, fold, Result}
use Rattle.domain.specs.Checks.{settled}
use Rattle.domain.specs.declared.AllocationRow.{AllocationRow}
use Rattle.domain.specs.declared.Reading.{Reading}
use Rattle.domain.specs.declared.Slot.{Slot}
use Rattle.domain.specs.declared.Line.{Line}
use Rattle.domain.specs.declared.Fault.{Fault}
use Rattle.domain.specs.declared.terms.Terms.{Terms}
use Rattle.rules.specs.Meaning.{Meaning}
use Rattle.history.specs.declared.Dated.{Dated}
use Rattle.history.specs.Puts.{put_one, put_day, holding_if}
use Rattle.book.specs.Kept.{Kept}
use Rattle.book.specs.Readings.{reading_answer, with_reading}
use Rattle.book.specs.Sharing.{holding, register_room, with_holders, schedule_room, with_rows, end_answer, ended_from}
use Rattle.book.specs.Issues.{after_issue, issue_verdict, slots_issued, journal_sent}
use Rattle.season.specs.declared.Call.{Call}
use Rattle.season.specs.declared.Call.TheVariants as call

-- what the book keeps, and the five tables
pub record State : Type 0 where
  pub kept : Kept
  pub holders : List (Dated ℕ)
  pub rows : List (Dated AllocationRow)
  pub readings : List Reading
  pub issued : List Slot
  pub journal : List Line

module _ (t : Terms) (m : Meaning) where
  -- a register, and how many holders are held after it
  abbrev pub registered : State → ℕ → ℕ → ℕ → Result ℕ Fault
  registered st place day supplier = register_room t st.kept st.holders place day supplier

  -- a schedule, and how many rows are held after it
  abbrev pub scheduled : State → ℕ → ℕ → ℕ → List AllocationRow → Result ℕ Fault
  scheduled st sender day moment rows = schedule_room m t st.kept st.holders st.rows sender day moment rows

  -- a reading
  abbrev pub read : State → ℕ → ℕ → ℕ → ℕ → Result Unit Fault
  read st day period quality kwh = reading_answer t st.kept st.readings day period quality kwh

  -- an end
  abbrev pub ended : State → ℕ → ℕ → ℕ → Result Unit Fault
  ended st sender day moment = end_answer t st.kept st.holders sender day moment

  -- an issue, and how many lines it sent
  abbrev pub issued : State → ℕ → ℕ → Result ℕ Fault
  issued st day run = issue_verdict m t st.kept st.holders st.rows st.readings st.issued st.journal day run

  -- the call was accepted
  abbrev pub accepts : State → Call → Bool
  accepts st (call.Register place day supplier) = is_ok (registered st place day supplier)
  accepts st (call.Schedule sender day moment rows) = is_ok (scheduled st sender day moment rows.now)
  accepts st (call.Reading day period quality kwh) = is_ok (read st day period quality kwh)
  accepts st (call.End sender day moment) = is_ok (ended st sender day moment)
  accepts st (call.Issue day run) = is_ok (issued st day run)

  -- the book and its tables after the call
  abbrev pub step : State → Call → State
  step st (call.Register place day supplier) = record {
    kept = with_holders (registered st place day supplier) st.kept;
    holders = holding_if (registered st place day supplier) (put_one (take st.kept.holders st.holders) (holding place day supplier)) st.holders;
    rows = st.rows;
    readings = st.readings;
    issued = st.issued;
    journal = st.journal;
  }
  step st (call.Schedule sender day moment rows) = record {
    kept = with_rows (scheduled st sender day moment rows.now) st.kept;
    holders = st.holders;
    rows = holding_if (scheduled st sender day moment rows.now) (put_day (take st.kept.rows st.rows) day rows.now) st.rows;
    readings = st.readings;
    issued = st.issued;
    journal = st.journal;
  }
  step st (call.Reading day period quality kwh) = record {
    kept = st.kept;
    holders = st.holders;
    rows = st.rows;
    readings = settled (read st day period quality kwh) (with_reading st.readings day period quality kwh) st.readings;
    issued = st.issued;
    journal = st.journal;
  }
  step st (call.End sender day moment) = record {
    kept = settled (ended st sender day moment) (ended_from day st.kept) st.kept;
    holders = st.holders;
    rows = st.rows;
    readings = st.readings;
    issued = st.issued;
    journal = st.journal;
  }
  step st (call.Issue day run) = record {
    kept = after_issue (issued st day run) day run st.kept;
    holders = st.holders;
    rows = st.rows;
    readings = st.readings;
    issued = settled (issued st day run) (slots_issued m t st.kept st.holders st.rows st.readings st.issued st.journal day run) st.issued;
    journal = settled (issued st day run) (journal_sent m t st.kept st.holders st.rows st.readings st.issued st.journal day run) st.journal;
  }

  -- the calls one after the other
  abbrev pub run : State → List Call → State
  run st calls = fold step st calls

  -- each call with whether it was accepted
  unfoldable pub told : State → List Call → List (Call × Bool)
  told st [] = []
  told st (c ∷ cs) = (c, accepts st c) ∷ told (step st c) cs
