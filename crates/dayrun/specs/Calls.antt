-- The day as a list of calls, made one after the other: the first refusal ends them.
use Rattle.std.specs.Prelude.{ℕ, ◌*◌, List, [], ◌∷◌, ◌++◌, map, take, replicate, Ok, Result}
use Rattle.std.proofs.Common.{arith}
use Rattle.domain.specs.Blanks.{no_line}
use Rattle.domain.specs.Checks.{and_then, no_reading, no_volume}
use Rattle.domain.specs.Slots.{reading_slots, issued_slots}
use Rattle.domain.specs.declared.AllocationRow.{AllocationRow}
use Rattle.domain.specs.declared.Fault.{Fault}
use Rattle.domain.specs.declared.Line.{Line}
use Rattle.domain.specs.declared.terms.Terms.{Terms}
use Rattle.rules.specs.House.{house}
use Rattle.files.specs.declared.records.ReadingRecord.{ReadingRecord}
use Rattle.book.specs.Kept.{opened}
use Rattle.season.specs.Blanks.{no_holder, no_dated_row}
use Rattle.season.specs.Lent.{lent}
use Rattle.season.specs.Outcomes.{outcome, state_of}
use Rattle.season.specs.Steps.{State, step}
use Rattle.season.specs.declared.Call.{Call}
use Rattle.season.specs.declared.Call.TheVariants as call

-- the book and its tables after the calls, one after the other, or the first refusal
unfoldable pub run_until : Terms → State → List Call → Result State Fault
run_until t st [] = Ok st
run_until t st (c ∷ cs) = and_then (outcome t house st c) (λ _. run_until t (step t house st c) cs)

-- a reading as a call
abbrev pub reading_call : ReadingRecord → Call
reading_call r = call.Reading r.day r.period r.quality r.kwh

-- the calls of the day: two suppliers are registered, then come the schedule, the readings and the issue of day 0, run 1
abbrev pub day_calls : ℕ → ℕ → ℕ → List AllocationRow → List ReadingRecord → List Call
day_calls sender day moment rows readings =
    call.Register 0 0 101 ∷ call.Register 1 0 102 ∷ call.Schedule sender day moment (lent rows) ∷ (map reading_call readings ++ (call.Issue 0 1 ∷ []))

-- the lines that the journal holds after the calls of the day, or the first refusal
unfoldable pub day_sent : Terms → State → ℕ → ℕ → ℕ → List AllocationRow → List ReadingRecord → Result (List Line) Fault
day_sent t st sender day moment rows readings =
    and_then (run_until t st (day_calls sender day moment rows readings)) (λ end. Ok (take end.kept.lines end.journal))

-- a new book and blank tables: two holders, a day of rows and readings, a slot for each place and period, and room for two lines a slot
unfoldable pub start : State
start =
    state_of opened (replicate 2 no_holder) (replicate (reading_slots 1) no_dated_row) (replicate (reading_slots 1) no_reading) (replicate (issued_slots 2 1) no_volume) (replicate (2 * issued_slots 2 1) no_line)

-- the terms of the site: two places, one day, and a Relevant Capacity of 1,000 kWh
abbrev pub site_terms : Terms
site_terms = record {
  places = 2;
  days = 1;
  capacity = 1000;
  shared = omega arith;
  few = omega arith;
  some = omega arith;
  season = omega arith;
  room = omega arith;
}
