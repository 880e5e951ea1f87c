-- A text and the lines that are still to be added to it.
use Rattle.std.proofs.Common.{◌≡◌, ℕ, ◌+◌, List, [], ◌∷◌, ◌++◌, sym, ap, ◌∙◌, append_assoc}
use Rattle.std.proofs.lemmas.List.{append-nil}
use Rattle.domain.specs.declared.AllocationRow.{AllocationRow}
use Rattle.listing.specs.Texts.{row_text, rows_text}

-- behind a heading, which a number of the file is in, come the lines of the file's bytes
pub headed : (heading : ℕ → List ℕ) (lines : List ℕ → List ℕ) (n m : ℕ) (bs cs t a : List ℕ) → t ≡ a ++ heading n → n ≡ m → bs ≡ cs → t ++ lines bs ≡ a ++ (heading m ++ lines cs)
headed heading lines n m bs cs t a wrote number bytes =
    ap (λ t. t ++ lines bs) wrote ∙ append_assoc a (heading n) (lines bs) ∙ ap (λ n. a ++ (heading n ++ lines bs)) number ∙ ap (λ bs. a ++ (heading m ++ lines bs)) bytes

-- where no row is left, the text is whole
pub rows_whole : (p : ℕ) (rows : List AllocationRow) (t whole : List ℕ) → t ++ rows_text p rows ≡ whole → rows ≡ [] → t ≡ whole
unfolding rows_text
rows_whole p rows t whole written none =
    sym (append-nil t) ∙ ap (λ rows. t ++ rows_text p rows) (sym none) ∙ written

-- one more row, and those that are left
pub rows_more : (p : ℕ) (row : AllocationRow) (rows left : List AllocationRow) (t u whole : List ℕ) → t ++ rows_text p left ≡ whole → left ≡ row ∷ rows → u ≡ t ++ row_text p row → u ++ rows_text (p + 1) rows ≡ whole
unfolding rows_text
rows_more p row rows left t u whole written is wrote =
    ap (λ u. u ++ rows_text (p + 1) rows) wrote ∙ append_assoc t (row_text p row) (rows_text (p + 1) rows) ∙ ap (λ xs. t ++ rows_text p xs) (sym is) ∙ written
