-- What an issue wrote down is a proper split of the energy.
use Rattle.std.specs.Prelude.{◌≡◌, ℕ, zero, suc, ◌≤◌, ℤ, pos, ◌+ℤ◌, ◌<ℤ◌, Some, None}
use Rattle.domain.specs.declared.AllocationRow.{AllocationRow}
use Rattle.domain.specs.declared.terms.Terms.{Terms}
use Rattle.season.specs.Plain.{Plain, Written}

-- f 0, f 1 and so on, below n, added up
unfoldable pub sum_below : (ℕ → ℤ) → ℕ → ℤ
sum_below f zero = pos 0
sum_below f (suc n) = sum_below f n +ℤ f n

-- what was written down for a period is a proper split
pub record Sound (t : Terms) (w : Written) : Type 0 where
  -- the places' shares add up to the kWh
  pub total : sum_below w.share t.places ≡ pos w.kwh
  -- a place that nobody holds has no share
  pub absent : (place : ℕ) → w.holder place ≡ None → w.share place ≡ pos 0
  -- nor has one beyond the book's places
  pub beyond : (place : ℕ) → t.places ≤ place → w.share place ≡ pos 0
  -- a share below zero is that of the balance place of the row in use
  pub negative : (place : ℕ) → w.share place <ℤ pos 0 → (row : AllocationRow) × (w.row ≡ Some row) × (place ≡ row.balance)

-- all that the last issues wrote down is so
abbrev pub AllSound : Terms → Plain → Type 0
AllSound t b = (day period : ℕ) (w : Written) → b.written day period ≡ Some w → Sound t w
