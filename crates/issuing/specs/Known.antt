-- What is known of a day whose holders and rows were looked up.
use Rattle.std.specs.Prelude.{◌≡◌, ℕ, ◌+◌, ◌<◌, List, None, Ok, slice_index_or}
use Rattle.domain.specs.Limits.{periods}
use Rattle.domain.specs.declared.AllocationRow.{AllocationRow}
use Rattle.domain.specs.declared.terms.Terms.{Terms}
use Rattle.history.specs.declared.Dated.{Dated}
use Rattle.rules.specs.Meaning.{Meaning}
use Rattle.issuing.specs.declared.Standing.{Standing}
use Rattle.issuing.specs.declared.sheet.Sheet.{Sheet}
use Rattle.issuing.specs.Issue.{supplier_on, row_on, in_force_checked}

-- the sheet has what is in force on the day, which passed its checks
pub record OnDay (m : Meaning) (t : Terms) (k : Standing) (holders : List (Dated ℕ)) (rows : List (Dated AllocationRow)) (day : ℕ) (sheet : Sheet) : Type 0 where
  pub passed : Ok tt ≡ in_force_checked {A = Unit} m t k holders rows day (Ok tt)
  pub suppliers : (q : ℕ) → q < t.places → slice_index_or sheet.holders q None ≡ supplier_on k holders day q
  pub splits : (i : ℕ) → i < periods → slice_index_or sheet.rows i None ≡ row_on k rows day (i + 1)
