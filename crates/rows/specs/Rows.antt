-- Rows of a schedule, as a rule judges and splits them in a book of given terms.
use Rattle.std.specs.Prelude.{ℕ, Bool, true, cond, ◌&&◌, List, [], ◌∷◌, take, drop, ℤ, pos, neg_ℤ, ◌≤ℤ◌, Some, None, Option, ◌==◌, nat_le}
use Rattle.domain.specs.Limits.{most_kwh}
use Rattle.domain.specs.declared.AllocationRow.{AllocationRow}
use Rattle.domain.specs.declared.terms.Terms.{Terms}
use Rattle.rules.specs.Meaning.{Agreement, Meaning, answered}

-- no nomination but 0
abbrev pub zeros : List ℕ → Bool
zeros [] = true
zeros (n ∷ ns) = n == 0 && zeros ns

-- what the row agrees for the places of the book
abbrev pub agreement : Terms → AllocationRow → Agreement
agreement t row =
    record { method = row.method; capacity = t.capacity; nominations = take t.places row.nominations; balance = row.balance }

-- a row is allowed if it is lawful for the places of the book, and no place after them nominates
abbrev pub allowed : Meaning → Terms → AllocationRow → Bool
allowed m t row = m.lawful (agreement t row) && zeros (drop t.places row.nominations)

-- a place's share by the row in force; with no row place 0 has all the energy, and the others none
abbrev pub share_of : Meaning → Terms → Option AllocationRow → ℕ → ℕ → ℕ → ℤ
share_of m t (Some row) period kwh place = answered m (agreement t row) period kwh place
share_of m t None period kwh place = cond (nat_le kwh most_kwh && place == 0) (pos kwh) (pos 0)

-- within what a meter can count, in either direction
pub record Tame (z : ℤ) : Type 0 where
  pub low : neg_ℤ (pos most_kwh) ≤ℤ z
  pub high : z ≤ℤ pos most_kwh
