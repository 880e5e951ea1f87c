-- No season prints that a half hour differs.
use Rattle.std.specs.Prelude.{◌≡◌, ℕ, Bool, true, List, pos, Some, None, codes, slice_index_or}
use Rattle.domain.specs.Checks.{is_period}
use Rattle.domain.specs.Slots.{reading_slot}
use Rattle.domain.specs.declared.terms.Terms.{Terms}
use Rattle.season.specs.Law.{sum_of, of_period}
use Rattle.seasontext.specs.Runs.{Run, closed}
use Rattle.seasontext.specs.Sums.{agree_text}
use Rattle.seasontext.specs.Seasons.{start_of, run_lines, lines_sent}

-- the lines of each half hour that was split add up to the kWh of its last issue, and that is what the first table says of it
pub record AllAgree (s : Run) : Type 0 where
  pub sums : (day period kwh : ℕ) → is_period period ≡ true → slice_index_or s.split (reading_slot day period) None ≡ Some kwh → sum_of (of_period day period) (lines_sent s) ≡ pos kwh
  pub says : (day period kwh : ℕ) → is_period period ≡ true → slice_index_or s.split (reading_slot day period) None ≡ Some kwh → agree_text (pos kwh) (sum_of (of_period day period) (lines_sent s)) ≡ codes "agrees"

-- so it is at the end of every season
abbrev pub SeasonsAgree : Type 0
SeasonsAgree =
    (holders journal : ℕ) (t : Terms) (quiet : Bool) (text : List ℕ) (number : ℕ) (lines : List (List ℕ)) →
    AllAgree (closed (run_lines number (start_of holders journal t quiet text) lines))
