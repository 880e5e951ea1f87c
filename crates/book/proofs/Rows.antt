-- The rows of a schedule, one after the other.
use Rattle.std.proofs.Common.{◌≡◌, ℕ, ◌+◌, ◌<◌, ◌≤◌, true, false, List, length, get_or, drop, Ok, Err, ap, ◌∙◌}
use Rattle.std.proofs.lemmas.List.{drop_more, drop_all}
use Rattle.std.proofs.lemmas.Bool.{cond-true, cond-false}
use Rattle.domain.specs.declared.AllocationRow.{AllocationRow}
use Rattle.domain.specs.declared.Fault.TheVariants.{UnlawfulRow}
use Rattle.domain.specs.declared.terms.Terms.{Terms}
use Rattle.domain.specs.Checks.{unless}
use Rattle.rules.specs.Meaning.{Meaning}
use Rattle.rows.specs.Rows.{allowed}
use Rattle.book.specs.Sharing.{rows_allowed}

module _ (m : Meaning) (t : Terms) where
  rows_at : (p i : ℕ) (d : AllocationRow) (rows : List AllocationRow) → i < length rows → rows_allowed m t p (drop i rows) ≡ unless (allowed m t (get_or rows i d)) (UnlawfulRow p) (rows_allowed m t (p + 1) (drop (i + 1) rows))
  unfolding rows_allowed
  rows_at p i d rows h = ap (rows_allowed m t p) (drop_more rows i d h)

  pub rows_no : (p i : ℕ) (d : AllocationRow) (rows : List AllocationRow) → i < length rows → allowed m t (get_or rows i d) ≡ false → rows_allowed m t p (drop i rows) ≡ Err (UnlawfulRow p)
  rows_no p i d rows h e = rows_at p i d rows h ∙ cond-false (allowed m t (get_or rows i d)) (rows_allowed m t (p + 1) (drop (i + 1) rows)) (Err (UnlawfulRow p)) e

  pub rows_yes : (p i : ℕ) (d : AllocationRow) (rows : List AllocationRow) → i < length rows → allowed m t (get_or rows i d) ≡ true → rows_allowed m t p (drop i rows) ≡ rows_allowed m t (p + 1) (drop (i + 1) rows)
  rows_yes p i d rows h e = rows_at p i d rows h ∙ cond-true (allowed m t (get_or rows i d)) (rows_allowed m t (p + 1) (drop (i + 1) rows)) (Err (UnlawfulRow p)) e

  pub rows_all : (p i : ℕ) (rows : List AllocationRow) → length rows ≤ i → rows_allowed m t p (drop i rows) ≡ Ok tt
  unfolding rows_allowed
  rows_all p i rows h = ap (rows_allowed m t p) (drop_all i rows h)
