-- The first of some numbers that fails a check.
use Rattle.std.specs.Prelude.{ℕ, zero, suc, Bool, cond, Some, None, Err, Option, Result}
use Rattle.domain.specs.declared.Fault.{Fault}
use Rattle.history.specs.Latest.{or_else}

-- the first number below m of which `bad` holds
unfoldable pub first_where : (ℕ → Bool) → ℕ → Option ℕ
first_where bad zero = None
first_where bad (suc m) = or_else (first_where bad m) (cond (bad m) (Some m) None)

-- what comes next where nothing was found, and else the fault of the number that was
abbrev pub unless_found : {A : Type 0} → Option ℕ → (ℕ → Fault) → Result A Fault → Result A Fault
unless_found None fault rest = rest
unless_found (Some i) fault rest = Err (fault i)
