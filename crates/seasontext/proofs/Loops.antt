-- Places of a list that are filled, by one more turn of a loop or at once.
use Rattle.std.proofs.Common.{◌≡◌, ℕ, zero, suc, ◌+◌, ◌-◌, ◌<◌, ◌≤◌, min, List, [], ◌++◌, length, get_or, take, drop, set, replicate, Some, Option, sym, refl, ap, ◌∙◌, ⊎_elim, add-one, append-nil, arith, length-set}
use lib.ListN.{length-replicate}
use lib.Seq.{paste}
use borrow.Rule.Slice.PartMut.{put_mid}
use Rattle.std.proofs.lemmas.List.{set_past, get_or-replicate, take-append-drop}
use Rattle.std.proofs.lemmas.List.Edits.{paste_more}
use Rattle.std.proofs.lemmas.Slice.{put_mid-paste}
use Rattle.std.proofs.lemmas.Bool.{cases_lt}
use Rattle.domain.specs.Checks.{no_reading}
use Rattle.domain.specs.declared.AllocationRow.{AllocationRow}
use Rattle.domain.specs.declared.Reading.{Reading}
use Rattle.season.specs.declared.Call.TheVariants as call
use Rattle.seasontext.specs.Runs.{Run, copied, rows_with, read_all, called}

pub copied_more : (readings : List Reading) (first n : ℕ) (split : List (Option ℕ)) → copied readings first (n + 1) split ≡ set (copied readings first n split) (first + n) (Some (get_or readings (first + n) no_reading).kwh)
unfolding copied
copied_more readings first n split = rw add-one refl

pub read_more : (day quality : ℕ) (figures : List ℕ) (n : ℕ) (s : Run) → read_all day quality figures (n + 1) s ≡ called (call.Reading day (n + 1) quality (get_or figures n 0)) (read_all day quality figures n s)
unfolding read_all
read_more day quality figures n s = rw add-one refl

-- one more slot is copied, or lies past the table
module _ (readings : List Reading) (first slot kwh : ℕ) (start split split' : List (Option ℕ)) (some : first ≤ slot) (value : kwh ≡ (get_or readings slot no_reading).kwh) (so : split ≡ copied readings first (slot - first) start) where
  more : copied readings first (slot + 1 - first) start ≡ set split slot (Some kwh)
  more =
      let n : slot + 1 - first ≡ (slot - first) + 1 = omega (arith, some) in
      let at : first + (slot - first) ≡ slot = omega (arith, some) in
      ap (λ k. copied readings first k start) n
      ∙ copied_more readings first (slot - first) start
      ∙ ap (λ k. set (copied readings first (slot - first) start) k (Some (get_or readings k no_reading).kwh)) at
      ∙ ap (λ x. set x slot (Some (get_or readings slot no_reading).kwh)) (sym so)
      ∙ ap (λ k. set split slot (Some k)) (sym value)

  pub copied_turn : split' ≡ set split slot (Some kwh) → split' ≡ copied readings first (slot + 1 - first) start
  copied_turn e = e ∙ sym more

  pub copied_past : length split ≤ slot → split' ≡ split → split' ≡ copied readings first (slot + 1 - first) start
  copied_past h e = e ∙ sym (set_past split slot (Some kwh) h) ∙ sym more

-- rows from a place on, where there is room for all
pub rows_none : (row : AllocationRow) (first : ℕ) (rows : List AllocationRow) → rows_with row first 0 rows ≡ rows
unfolding rows_with
rows_none row first rows = refl

pub rows_more : (row : AllocationRow) (first n : ℕ) (rows : List AllocationRow) → rows_with row first (n + 1) rows ≡ set (rows_with row first n rows) (first + n) row
unfolding rows_with
rows_more row first n rows = rw add-one refl

rows_long : (row : AllocationRow) (first n : ℕ) (rows : List AllocationRow) → length (rows_with row first n rows) ≡ length rows
unfolding rows_with
rows_long row first zero rows = refl
rows_long row first (suc n) rows = length-set (rows_with row first n rows) (first + n) row ∙ rows_long row first n rows

pasted_none : (first : ℕ) (rows s : List AllocationRow) → rows ≡ paste rows first s 0
pasted_none first rows s =
    let e : first + 0 ≡ first = omega arith in
    sym (ap (λ k. take first rows ++ [] ++ drop k rows) e ∙ ap (λ r. r ++ drop first rows) (append-nil (take first rows)) ∙ take-append-drop first rows)

rows_pasted : (row : AllocationRow) (first n m : ℕ) (rows : List AllocationRow) → n ≤ m → first + m ≤ length rows → rows_with row first n rows ≡ paste rows first (replicate m row) n
rows_pasted row first zero m rows few room = rows_none row first rows ∙ pasted_none first rows (replicate m row)
rows_pasted row first (suc n) m rows few room =
    let e : suc n ≡ n + 1 = omega arith in
    let more = paste_more rows first (replicate m row) n row (omega (arith, few, room)) (omega (arith, few, length-replicate m row)) in
    ap (λ k. rows_with row first k rows) e
    ∙ rows_more row first n rows
    ∙ ap (λ x. set x (first + n) row) (rows_pasted row first n m rows (omega (arith, few)) room)
    ∙ ap (λ r. set (paste rows first (replicate m row) n) (first + n) r) (sym (get_or-replicate m n row row (omega (arith, few))))
    ∙ more
    ∙ ap (λ k. paste rows first (replicate m row) k) (sym e)

-- what lies past the last is not there
pub rows_past : (row : AllocationRow) (first n k : ℕ) (rows : List AllocationRow) → length rows ≤ first + n → rows_with row first (n + k) rows ≡ rows_with row first n rows
rows_past row first n zero rows h = ap (λ m. rows_with row first m rows) (let e : n + 0 ≡ n = omega arith in e)
rows_past row first n (suc k) rows h =
    let e : n + suc k ≡ (n + k) + 1 = omega arith in
    ap (λ m. rows_with row first m rows) e
    ∙ rows_more row first (n + k) rows
    ∙ set_past (rows_with row first (n + k) rows) (first + (n + k)) row (omega (arith, h, rows_long row first (n + k) rows))
    ∙ rows_past row first n k rows h

-- the part of a list that is filled at once
pub filled_is : (row : AllocationRow) (from to first last : ℕ) (rows ys : List AllocationRow) → last ≡ min to (length rows) → first ≡ min from last → ys ≡ replicate (last - first) row → put_mid first (last - first) rows ys ≡ rows_with row from (to - from) rows
filled_is row from to first last rows ys el ef ey =
    let pasted = put_mid-paste first (last - first) rows ys (replicate (last - first) row) (last - first) ey (let e : last - first ≡ last - first = refl in e) (sym (length-replicate (last - first) row)) in
    pasted ∙ sym (rows_pasted row first (last - first) (last - first) rows (omega arith) (omega (arith, el, ef))) ∙ rest where
      rest : rows_with row first (last - first) rows ≡ rows_with row from (to - from) rows
      rest =
          ⊎_elim
          (λ (h : from < last).
          let same : first ≡ from = omega (arith, ef, h) in
          let n : to - from ≡ (last - from) + (to - last) = omega (arith, el, h) in
          ap (λ f. rows_with row f (last - f) rows) same ∙ sym (ap (λ m. rows_with row from m rows) n ∙ over (to - last) refl))
          (λ (h : last ≤ from).
          let none : last - first ≡ 0 = omega (arith, ef, h) in
          ap (λ m. rows_with row first m rows) none ∙ rows_none row first rows ∙ sym (beyond (to - from) refl h))
          (cases_lt from last) where
            over : (k : ℕ) → to - last ≡ k → rows_with row from ((last - from) + k) rows ≡ rows_with row from (last - from) rows
            over zero e = ap (λ m. rows_with row from m rows) (let z : (last - from) + 0 ≡ last - from = omega arith in z)
            over (suc k) e = rows_past row from (last - from) (suc k) rows (omega (arith, el, e))

            beyond : (k : ℕ) → to - from ≡ k → last ≤ from → rows_with row from k rows ≡ rows
            beyond zero e h = rows_none row from rows
            beyond (suc k) e h = ap (λ m. rows_with row from m rows) (let z : suc k ≡ 0 + suc k = omega arith in z) ∙ rows_past row from 0 (suc k) rows (omega (arith, el, e, h)) ∙ rows_none row from rows
