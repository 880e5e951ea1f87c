-- Looking up what is in force for each subject in turn.
use Rattle.std.proofs.Common.{◌≡◌, eqb, refl, ℕ, ◌+◌, ◌<◌, Bool, true, false, List, length, get_or, set, is_some, Some, None, Option, sym, ap, ◌∙◌, ⊎_elim, arith}
use Rattle.std.specs.Option.{option_eq}
use Rattle.std.specs.List.{list_any}
use Rattle.domain.specs.Limits.{periods}
use Rattle.domain.specs.declared.AllocationRow.{AllocationRow}
use Rattle.domain.specs.declared.Table.TheVariants.{Rows}
use Rattle.domain.specs.declared.Fault.TheVariants.{Spoiled}
use Rattle.domain.specs.declared.terms.Terms.{Terms}
use Rattle.history.specs.declared.Dated.{Dated}
use Rattle.rules.specs.Meaning.{Meaning}
use Rattle.issuing.specs.InForce.{spoiled_holder, spoiled_row, row_of}
use Rattle.issuing.specs.Sheets.{bad_row, Splitting, RowSpoiled}
use Rattle.issuing.proofs.Firsts.{any_first}
use Rattle.std.proofs.lemmas.List.{get_or-set_same, get_or-set_other}
use Rattle.std.proofs.lemmas.Bool.{cases_eq, false≢true}

-- one more is looked up
pub each_more : {A : Type 0} (f : ℕ → Option A) (xs : List (Option A)) (m k : ℕ) (x : Option A) → k ≡ m → m < length xs → x ≡ f m → ((q : ℕ) → q < m → get_or xs q None ≡ f q) → (q : ℕ) → q < m + 1 → get_or (set xs k x) q None ≡ f q
each_more f xs m k x at within is each q h =
    ap (λ (j : ℕ). get_or (set xs j x) q None) at
    ∙ ⊎_elim
    (λ (e : q ≡ m). ap (λ (j : ℕ). get_or (set xs m x) j None) e ∙ get_or-set_same xs m x None within ∙ is ∙ sym (ap f e))
    (λ (e : q ≡ m → ⊥). get_or-set_other xs m q x None e ∙ each q (omega (arith, e)))
    (cases_eq q m)

-- the rows that were looked up are those in force, each once it is asked whether it is spoiled
module _ (m : Meaning) (t : Terms) (rs : List (Dated AllocationRow)) (ended : Bool) (day : ℕ) (found : List (Option AllocationRow)) (size : length found ≡ periods) (each : (i : ℕ) → i < periods → get_or found i None ≡ row_of rs ended day (i + 1)) {spoiled : Bool} (asked : spoiled ≡ list_any (spoiled_row m t) found) where
  any_bad : spoiled ≡ is_some (bad_row m t rs ended day)
  any_bad =
      asked ∙ any_first (spoiled_row m t) found None (λ i. spoiled_row m t (row_of rs ended day (i + 1))) (λ i h. ap (spoiled_row m t) (sym (each i (omega arith)))) periods size

  pub row_spoiled : spoiled ≡ true → RowSpoiled m t rs ended day (Spoiled Rows)
  row_spoiled is = record { is = refl; found = sym any_bad ∙ is }

  pub rows_split : spoiled ≡ false → Splitting m t rs ended day found
  rows_split is = record { sound = none (bad_row m t rs ended day) (sym any_bad ∙ is); each = each }
    where
      none : (o : Option ℕ) → is_some o ≡ false → o ≡ None
      none None h = refl
      none (Some i) h = absurd (false≢true (sym h))

-- no supplier has the number 0
pub spoiled_zero : (holder : Option ℕ) → spoiled_holder holder ≡ option_eq eqb holder (Some 0)
spoiled_zero None = refl
spoiled_zero (Some supplier) = refl
