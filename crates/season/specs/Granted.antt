-- What an accepted issue may count on, and the law for every run of calls whose issues may.
use Prim.{Unit}
use Rattle.std.specs.Prelude.{◌≡◌, ℕ, ◌<◌, ◌≤◌, Bool, true, List, [], ◌∷◌, Some, None, ◌≢◌}
use Rattle.std.specs.Option.{unwrap_or}
use Rattle.domain.specs.Limits.{most_kwh}
use Rattle.domain.specs.Checks.{is_period}
use Rattle.domain.specs.declared.AllocationRow.{AllocationRow}
use Rattle.domain.specs.declared.terms.Terms.{Terms}
use Rattle.rules.specs.Meaning.{Meaning, Laws}
use Rattle.rows.specs.Rows.{agreement}
use Rattle.season.specs.declared.Call.{Call}
use Rattle.season.specs.declared.Call.TheVariants.{Register, Schedule, Reading, End, Issue}
use Rattle.season.specs.Plain.{Plain, nothing_yet, has_ended, holds, in_use, plain_step, plain_run}
use Rattle.season.specs.Law.{Adds}

-- a period of a day that can be split
pub record Ready (t : Terms) (m : Meaning) (b : Plain) (day period : ℕ) : Type 0 where
  -- a meter can count its energy
  pub counted : unwrap_or (b.read day period) 0 ≤ most_kwh
  -- the row in force is lawful
  pub lawful : (row : AllocationRow) → in_use b day period ≡ Some row → m.lawful (agreement t row) ≡ true
  -- every place is held, and from the end day on place 0
  pub held : (place : ℕ) → place < t.places → (has_ended b.ended day ≡ true → place ≡ 0) → holds b day place ≢ None

-- a call that is accepted finds each period ready, if it is an issue
abbrev pub Granted : Terms → Meaning → Plain → Call → Bool → Type 0
Granted t m b (Register place day supplier) accepted = Unit {0}
Granted t m b (Schedule sender day moment rows) accepted = Unit {0}
Granted t m b (Reading day period quality kwh) accepted = Unit {0}
Granted t m b (End sender day moment) accepted = Unit {0}
Granted t m b (Issue day run) accepted = accepted ≡ true → (period : ℕ) → is_period period ≡ true → Ready t m b day period

-- each issue among the calls that was accepted found its day ready, in the plain book as it was then
abbrev pub AllGranted : Terms → Meaning → Plain → List (Call × Bool) → Type 0
AllGranted t m b [] = Unit {0}
AllGranted t m b (step ∷ steps) =
    Granted t m b step.0 step.1 × AllGranted t m (plain_step t m b step.0 step.1) steps

-- the law holds at the end of every run from the start
abbrev pub LinesAddUp : Type 0
LinesAddUp =
    (t : Terms) (m : Meaning) → Laws m → (calls : List (Call × Bool)) → AllGranted t m nothing_yet calls →
    Adds (plain_run t m nothing_yet calls) (plain_run t m nothing_yet calls).lines
