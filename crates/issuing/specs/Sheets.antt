-- What is known of the holders and rows that were looked up for a day.
use Rattle.std.specs.Prelude.{◌≡◌, ℕ, ◌+◌, ◌<◌, Bool, true, List, is_some, None, Option, slice_index_or}
use Rattle.domain.specs.Limits.{periods}
use Rattle.domain.specs.declared.AllocationRow.{AllocationRow}
use Rattle.domain.specs.declared.Table.TheVariants.{Holders, Rows}
use Rattle.domain.specs.declared.Fault.{Fault}
use Rattle.domain.specs.declared.Fault.TheVariants.{Spoiled}
use Rattle.domain.specs.declared.terms.Terms.{Terms}
use Rattle.history.specs.declared.Dated.{Dated}
use Rattle.rules.specs.Meaning.{Meaning}
use Rattle.issuing.specs.First.{first_where}
use Rattle.issuing.specs.InForce.{supplier_of, row_of, spoiled_holder, spoiled_row}

-- the first place, of so many, whose holder in force is spoiled
abbrev pub bad_holder : ℕ → List (Dated ℕ) → Bool → ℕ → Option ℕ
bad_holder places hs ended day = first_where (λ q. spoiled_holder (supplier_of hs ended day q)) places

-- the first period, counted from 0, whose row in force is spoiled
abbrev pub bad_row : Meaning → Terms → List (Dated AllocationRow) → Bool → ℕ → Option ℕ
bad_row m t rs ended day = first_where (λ i. spoiled_row m t (row_of rs ended day (i + 1))) periods

-- the holders that were looked up are those in force, and none is spoiled
pub record Holding (places : ℕ) (hs : List (Dated ℕ)) (ended : Bool) (day : ℕ) (found : List (Option ℕ)) : Type 0 where
  pub sound : bad_holder places hs ended day ≡ None
  pub each : (q : ℕ) → q < places → slice_index_or found q None ≡ supplier_of hs ended day q

-- the rows that were looked up are those in force, and none is spoiled
pub record Splitting (m : Meaning) (t : Terms) (rs : List (Dated AllocationRow)) (ended : Bool) (day : ℕ) (found : List (Option AllocationRow)) : Type 0 where
  pub sound : bad_row m t rs ended day ≡ None
  pub each : (i : ℕ) → i < periods → slice_index_or found i None ≡ row_of rs ended day (i + 1)

-- the refusal where a holder in force is spoiled
pub record HolderSpoiled (places : ℕ) (hs : List (Dated ℕ)) (ended : Bool) (day : ℕ) (fault : Fault) : Type 0 where
  pub is : fault ≡ Spoiled Holders
  pub found : is_some (bad_holder places hs ended day) ≡ true

-- the refusal where a row in force is spoiled
pub record RowSpoiled (m : Meaning) (t : Terms) (rs : List (Dated AllocationRow)) (ended : Bool) (day : ℕ) (fault : Fault) : Type 0 where
  pub is : fault ≡ Spoiled Rows
  pub found : is_some (bad_row m t rs ended day) ≡ true
