-- What holds on a day, given what was put on each day.
use Rattle.std.specs.Prelude.{ℕ, zero, suc, Some, None, Option}

-- the first of two, and where it is none the second
abbrev pub or_else : {A : Type 0} → Option A → Option A → Option A
or_else None y = y
or_else (Some x) y = Some x

-- what was put on the latest day that is not after the given one: that day's, or else what held the day before
unfoldable pub latest : {A : Type 0} → (ℕ → Option A) → ℕ → Option A
latest f zero = f zero
latest f (suc d) = or_else (f (suc d)) (latest f d)
