-- The law: what the lines of a season add up to, beside the plain book.
use Rattle.std.specs.Prelude.{◌≡◌, ℕ, Bool, cond, ◌&&◌, List, [], ◌∷◌, ℤ, pos, ◌+ℤ◌, ◌<ℤ◌, Some, None, Option, ◌==◌}
use Rattle.domain.specs.declared.AllocationRow.{AllocationRow}
use Rattle.domain.specs.declared.Line.{Line}
use Rattle.season.specs.Plain.{Plain, Written}

-- the volumes of the lines that a test picks, added up
unfoldable pub sum_of : (Line → Bool) → List Line → ℤ
sum_of picks [] = pos 0
sum_of picks (l ∷ ls) = cond (picks l) l.volume (pos 0) +ℤ sum_of picks ls

-- a line of the day's period
abbrev pub of_period : ℕ → ℕ → Line → Bool
of_period day period l = l.day == day && l.period == period

-- a line of the day's period for a place and a supplier
abbrev pub of_place : ℕ → ℕ → ℕ → ℕ → Line → Bool
of_place day period place supplier l = of_period day period l && (l.place == place && l.supplier == supplier)

-- the kWh that the last issue split, and zero without one
abbrev pub kwh_of : Option Written → ℤ
kwh_of None = pos 0
kwh_of (Some w) = pos w.kwh

-- the share where this supplier is the holder
abbrev pub shares_if : Option ℕ → ℕ → ℤ → ℤ
shares_if None supplier share = pos 0
shares_if (Some holder) supplier share = cond (holder == supplier) share (pos 0)

-- a place's share at the last issue, if that supplier held the place then, and otherwise zero
abbrev pub share_for : Option Written → ℕ → ℕ → ℤ
share_for None place supplier = pos 0
share_for (Some w) place supplier = shares_if (w.holder place) supplier (w.share place)

-- the balance place of the row that the last issue used
abbrev pub Balances : Option Written → ℕ → Type 0
Balances None place = ⊥
Balances (Some w) place = (row : AllocationRow) × (w.row ≡ Some row) × (place ≡ row.balance)

-- the law, of the plain book b and the lines that were sent
pub record Adds (b : Plain) (lines : List Line) : Type 0 where
  -- (a) the lines of a period add up to the meter
  pub meter : (day period : ℕ) → sum_of (of_period day period) lines ≡ kwh_of (b.written day period)
  -- (b) the lines of a place and a supplier add up to the place's share at the last issue if that supplier held it then, else to zero
  pub place : (day period place supplier : ℕ) → sum_of (of_place day period place supplier) lines ≡ share_for (b.written day period) place supplier
  -- (c) a sum of (b) below zero belongs to the balance place of the row that the issue used
  pub negative : (day period place supplier : ℕ) → sum_of (of_place day period place supplier) lines <ℤ pos 0 → Balances (b.written day period) place
