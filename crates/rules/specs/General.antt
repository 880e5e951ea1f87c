-- What all seven methods ask of a row.
use Rattle.std.specs.Prelude.{◌≡◌, ℕ, ◌<◌, ◌≤◌, true, length, slice_index, slice_index_or}
use Rattle.domain.specs.Limits.{most_kwh}
use Rattle.rules.specs.Meaning.{Agreement, Meaning}

-- a balance place of the row that nominates nothing, and no nomination above the limit
pub record General (t : Agreement) : Type 0 where
  pub balances : t.balance < length t.nominations
  pub leaves : slice_index_or t.nominations t.balance 0 ≡ 0
  pub each : (i : ℕ) → slice_index t.nominations i ≤ most_kwh

-- a rule under which every lawful row is such
abbrev pub AsksGeneral : Meaning → Type 0
AsksGeneral m = (t : Agreement) → m.lawful t ≡ true → General t
