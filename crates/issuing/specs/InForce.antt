-- Who holds a place and which row splits a period on a day that is issued.
use Rattle.std.specs.Prelude.{ℕ, Bool, false, cond, not, ◌||◌, List, Some, None, Option, ◌==◌, nat_le}
use Rattle.domain.specs.declared.AllocationRow.{AllocationRow}
use Rattle.domain.specs.declared.terms.Terms.{Terms}
use Rattle.rules.specs.Meaning.{Meaning}
use Rattle.rows.specs.Rows.{allowed}
use Rattle.history.specs.declared.Dated.{Dated}
use Rattle.history.specs.Entries.{in_force, entry_at}

-- the sharing has ended by this day
abbrev pub is_ended : Option ℕ → ℕ → Bool
is_ended None day = false
is_ended (Some end) day = nat_le end day

-- before the end day every place needs a holder, from it on only place 0
abbrev pub needs_holder : Bool → ℕ → Bool
needs_holder ended place = not ended || place == 0

-- the holder in force at a place that needs one
abbrev pub supplier_of : List (Dated ℕ) → Bool → ℕ → ℕ → Option ℕ
supplier_of hs ended day place = cond (needs_holder ended place) (entry_at hs (in_force hs place day)) None

-- the row in force in a period; from the end day on no row is read
abbrev pub row_of : List (Dated AllocationRow) → Bool → ℕ → ℕ → Option AllocationRow
row_of rs ended day period = cond ended None (entry_at rs (in_force rs period day))

-- no supplier has the number 0
abbrev pub spoiled_holder : Option ℕ → Bool
spoiled_holder None = false
spoiled_holder (Some supplier) = supplier == 0

-- a row that the rule does not allow
abbrev pub spoiled_row : Meaning → Terms → Option AllocationRow → Bool
spoiled_row m t None = false
spoiled_row m t (Some row) = not (allowed m t row)
