-- Which terms are refused.
use Rattle.std.specs.Prelude.{ℕ, cond, not, ◌&&◌, Some, None, Option, nat_le}
use Rattle.domain.specs.Limits.{fewest_places, most_places, most_days, most_capacity}
use Rattle.domain.specs.declared.Term.TheVariants.{Places, Days, Capacity}
use Rattle.domain.specs.declared.Fault.{Fault}
use Rattle.domain.specs.declared.Fault.TheVariants.{TermOutsideLimits}

-- the first of the terms that is outside its limits
abbrev pub terms_fault : ℕ → ℕ → ℕ → Option Fault
terms_fault places days capacity =
    cond (not (nat_le fewest_places places && nat_le places most_places)) (Some (TermOutsideLimits Places)) (cond (not (nat_le 1 days && nat_le days most_days)) (Some (TermOutsideLimits Days)) (cond (not (nat_le capacity most_capacity)) (Some (TermOutsideLimits Capacity)) None))
