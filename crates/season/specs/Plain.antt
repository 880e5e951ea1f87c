-- The plain book: what the calls of a season come to, with nothing of tables in it.
-- It is fed the terms, the rule's meaning, each call's arguments, and whether the call was accepted.
use Rattle.std.specs.Prelude.{ℕ, suc, ◌-◌, Bool, false, cond, not, ◌&&◌, List, [], ◌++◌, ℤ, pos, Some, None, fold, Option, ◌==◌, nat_le, slice_index_or}
use Rattle.std.specs.Option.{unwrap_or}
use Rattle.std.specs.List.{slice_get}
use Rattle.domain.specs.Limits.{periods}
use Rattle.domain.specs.Checks.{is_period, no_volume}
use Rattle.domain.specs.Lines.{line_of, slot_lines, gathered}
use Rattle.domain.specs.declared.AllocationRow.{AllocationRow}
use Rattle.domain.specs.declared.Slot.{Slot}
use Rattle.domain.specs.declared.Line.{Line}
use Rattle.domain.specs.declared.terms.Terms.{Terms}
use Rattle.rules.specs.Meaning.{Meaning}
use Rattle.rows.specs.Rows.{agreement}
use Rattle.history.specs.Latest.{latest}
use Rattle.season.specs.declared.Call.{Call}
use Rattle.season.specs.declared.Call.TheVariants.{Register, Schedule, Reading, End, Issue}

-- what an issue writes down for a period of its day
pub record Written : Type 0 where
  -- the kWh that it split
  pub kwh : ℕ
  -- who held each place
  pub holder : ℕ → Option ℕ
  -- the row that it used, if there was one
  pub row : Option AllocationRow
  -- each place's share
  pub share : ℕ → ℤ

-- what the plain book knows
pub record Plain : Type 0 where
  -- the supplier registered at a place for a day
  pub registered : ℕ → ℕ → Option ℕ
  -- the rows scheduled for a day
  pub scheduled : ℕ → Option (List AllocationRow)
  -- the kWh read for a day's period
  pub read : ℕ → ℕ → Option ℕ
  -- the day from which the sharing has ended
  pub ended : Option ℕ
  -- what the last issue of a day wrote down for a period
  pub written : ℕ → ℕ → Option Written
  -- all lines that issues sent
  pub lines : List Line

-- at the start nothing has happened
abbrev pub nothing_yet : Plain
nothing_yet = record {
  registered = λ place day. None;
  scheduled = λ day. None;
  read = λ day period. None;
  ended = None;
  written = λ day period. None;
  lines = [];
}

-- f, but x at the number n
abbrev pub at : {A : Type 0} → (ℕ → A) → ℕ → A → ℕ → A
at f n x m = cond (m == n) x (f m)

-- f, but x at the two numbers n and k
abbrev pub at_both : {A : Type 0} → (ℕ → ℕ → A) → ℕ → ℕ → A → ℕ → ℕ → A
at_both f n k x m j = cond (n == m && k == j) x (f m j)

-- the sharing has ended by that day
abbrev pub has_ended : Option ℕ → ℕ → Bool
has_ended None day = false
has_ended (Some end) day = nat_le end day

-- who holds a place on a day: the one registered for the latest day not after it; from the end day on only place 0 is held
abbrev pub holds : Plain → ℕ → ℕ → Option ℕ
holds b day place = cond (has_ended b.ended day && not (place == 0)) None (latest (b.registered place) day)

-- the row of a period, of a schedule
abbrev pub row_of : ℕ → Option (List AllocationRow) → Option AllocationRow
row_of period None = None
row_of period (Some rows) = slice_get rows (period - 1)

-- the row in force: that of the schedule for the latest day not after it; from the end day on there is none
abbrev pub in_use : Plain → ℕ → ℕ → Option AllocationRow
in_use b day period = cond (has_ended b.ended day) None (row_of period (latest b.scheduled day))

-- each place's share: the meaning's for the row, and without a row place 0 has all
abbrev pub shares_of : Terms → Meaning → Option AllocationRow → ℕ → ℕ → ℕ → ℤ
shares_of t m (Some row) period kwh place = slice_index_or (m.shares (agreement t row) period kwh) place (pos 0)
shares_of t m None period kwh place = cond (place == 0) (pos kwh) (pos 0)

-- what an issue of a day writes down for a period
abbrev pub writes : Terms → Meaning → Plain → ℕ → ℕ → Written
writes t m b day period =
    let kwh = unwrap_or (b.read day period) 0 in
    record {
      kwh = kwh;
      holder = holds b day;
      row = in_use b day period;
      share = shares_of t m (in_use b day period) period kwh;
    }

-- what was written down for a place: its holder, 0 for none, and its share; before the first issue nothing
abbrev pub slot_of : Option Written → ℕ → Slot
slot_of None place = no_volume
slot_of (Some w) place = record { supplier = unwrap_or (w.holder place) 0; volume = w.share place }

-- the lines that lead from what was written down for a day's period to what is written down now
abbrev pub period_lines : Terms → ℕ → ℕ → ℕ → Option Written → Written → List Line
period_lines t day run period was is =
    gathered (λ place. slot_lines (line_of day run period place) (slot_of was place) (slot_of (Some is) place)) t.places

-- the lines of an issue, period by period
abbrev pub issue_lines : Terms → Meaning → Plain → ℕ → ℕ → List Line
issue_lines t m b day run =
    gathered (λ i. period_lines t day run (suc i) (b.written day (suc i)) (writes t m b day (suc i))) periods

-- an accepted issue: what it writes down takes the place of what an earlier one wrote for that day
abbrev pub issued : Terms → Meaning → Plain → ℕ → ℕ → Plain
issued t m b day run = record {
  registered = b.registered;
  scheduled = b.scheduled;
  read = b.read;
  ended = b.ended;
  written = at b.written day (λ period. cond (is_period period) (Some (writes t m b day period)) (b.written day period));
  lines = b.lines ++ issue_lines t m b day run;
}

-- the plain book after a call that was accepted
abbrev pub after : Terms → Meaning → Plain → Call → Plain
after t m b (Register place day supplier) = record {
  registered = at_both b.registered place day (Some supplier);
  scheduled = b.scheduled;
  read = b.read;
  ended = b.ended;
  written = b.written;
  lines = b.lines;
}
after t m b (Schedule sender day moment rows) = record {
  registered = b.registered;
  scheduled = at b.scheduled day (Some rows.now);
  read = b.read;
  ended = b.ended;
  written = b.written;
  lines = b.lines;
}
after t m b (Reading day period quality kwh) = record {
  registered = b.registered;
  scheduled = b.scheduled;
  read = at_both b.read day period (Some kwh);
  ended = b.ended;
  written = b.written;
  lines = b.lines;
}
after t m b (End sender day moment) = record {
  registered = b.registered;
  scheduled = b.scheduled;
  read = b.read;
  ended = Some day;
  written = b.written;
  lines = b.lines;
}
after t m b (Issue day run) = issued t m b day run

-- a refused call changes nothing
abbrev pub plain_step : Terms → Meaning → Plain → Call → Bool → Plain
plain_step t m b call accepted = cond accepted (after t m b call) b

-- the plain book after some calls, each with whether it was accepted
abbrev pub plain_run : Terms → Meaning → Plain → List (Call × Bool) → Plain
plain_run t m = fold (λ b step. plain_step t m b step.0 step.1)
