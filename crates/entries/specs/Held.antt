-- A half hour, by what it holds.
use Rattle.std.specs.Prelude.{ℕ, List, vec_items}
use Rattle.rules.specs.Meaning.{Agreement}
use Rattle.entries.specs.declared.HalfHour.{HalfHour}

-- a half hour: the energy that was metered, and what the parties agreed for it
pub record Half : Type 0 where
  pub period : ℕ
  pub energy : ℕ
  pub row : Agreement

-- a half hour from its numbers, in the order of a line
abbrev pub half_of : ℕ → ℕ → ℕ → ℕ → ℕ → List ℕ → Half
half_of p e m c b ns =
    record { period = p; energy = e; row = record { method = m; capacity = c; nominations = ns; balance = b } }

-- the half hour that the code holds
abbrev pub held : HalfHour → Half
held h = half_of h.period h.energy h.method h.capacity h.balance (vec_items h.nominations)
