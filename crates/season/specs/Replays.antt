-- What a replay of calls comes to.
use Rattle.std.specs.Prelude.{◌≡◌, min, List, ◌++◌, length, take, drop, Result}
use Rattle.domain.specs.declared.Fault.{Fault}
use Rattle.domain.specs.declared.terms.Terms.{Terms}
use Rattle.rules.specs.Meaning.{Meaning}
use Rattle.season.specs.declared.Call.{Call}
use Rattle.season.specs.declared.Accepted.{Accepted}
use Rattle.season.specs.Plain.{nothing_yet, plain_run}
use Rattle.season.specs.Law.{Adds}
use Rattle.season.specs.Steps.{State, run}
use Rattle.season.specs.Outcomes.{heard, outcomes}

-- the calls that are made: as many as there is room for outcomes
abbrev pub calls_made : List Call → List (Result Accepted Fault) → List Call
calls_made calls room = take (min (length calls) (length room)) calls

-- the calls were made from the state `start` on, and came to the state `end` and these outcomes, where `was` stood before
pub record Replayed (t : Terms) (m : Meaning) (start : State) (calls : List Call) (was : List (Result Accepted Fault)) (end : State) (came : List (Result Accepted Fault)) : Type 0 where
  -- book, tables and outcomes are those of the calls one after the other
  pub state : end ≡ run t m start calls
  pub outcomes : came ≡ outcomes t m start calls ++ drop (length calls) was
  -- the lines in the journal are the plain book's, which is told the calls and which of them were accepted
  pub lines : take end.kept.lines end.journal ≡ (plain_run t m nothing_yet (heard calls came)).lines
  -- and they add up, for every day, period, place and supplier
  pub adds : Adds (plain_run t m nothing_yet (heard calls came)) (take end.kept.lines end.journal)
