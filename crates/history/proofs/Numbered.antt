-- Numbers that are counted up beside what is gone through.
use Rattle.std.proofs.Common.{◌≡◌, ℕ, suc, ◌+◌, ◌-◌, ◌<◌, ◌≤◌, Some, None, Iter, Bool, true, false, List, ◌∷◌, length, get_or, Option, refl, ap, ◌∙◌, subst, arith}
use Rattle.std.specs.Range.{range_inclusive_steps, range_inclusive_left, range_inclusive_len, range_inclusive_start, range_inclusive_end, range_inclusive_exhausted}
use Rattle.std.specs.List.{range_with_len, zip}
use Rattle.std.specs.declared.ops.RangeInclusive.{RangeInclusive}
use Rattle.std.specs.declared.iter.Zip.{Zip}
use Rattle.std.specs.Iterator.{Yields}
use Rattle.std.specs.Iterator.Adapters.{zip_first, zip_second}
use Rattle.std.specs.Slice.Iter.{iter_rest}
use Rattle.std.proofs.lemmas.Iterator.{YieldsList, zips, YieldsList-from_slice, YieldsList-from_zip}
use Rattle.std.proofs.lemmas.Iterator.Consumers.{YieldsList-turn, YieldsList-end}
use Rattle.std.proofs.lemmas.List.FromFn.{get_or-range_with_len, length-range_with_len}
use Rattle.std.proofs.lemmas.Slice.Zip.{length-zip, get_or-zip}
use Rattle.std.proofs.iter.Yields.{listed, fronts}
use denote.Ref.{Bor}

abbrev gap : ℕ → ℕ → ℕ
gap x y = y - x

abbrev pub counts : RangeInclusive ℕ → Option ℕ → RangeInclusive ℕ → Type 0
counts = range_inclusive_steps gap (λ x y. y ≡ x + 1)

abbrev shown : RangeInclusive ℕ → List ℕ
shown s = range_with_len (range_inclusive_start s) (range_inclusive_left gap s)

one_more : (spent : Bool) (a n b e x : ℕ) → range_inclusive_len gap b e spent + 1 ≡ n → x ≡ a → (spent ≡ false → b ≡ a + 1) → range_with_len a n ≡ x ∷ range_with_len b (range_inclusive_len gap b e spent)
one_more true a n b e x left first next =
    let last : n ≡ suc 0 = omega arith in
    rw (last, first)
one_more false a n b e x left first next =
    let more : n ≡ suc (range_inclusive_len gap b e false) = omega arith in
    rw (more, first, next refl)

-- the numbers from a to b
pub YieldsList-from_numbers : {s : RangeInclusive ℕ} (a b : ℕ) → range_inclusive_start s ≡ a → range_inclusive_end s ≡ b → range_inclusive_exhausted s ≡ false → YieldsList counts (λ x. x) s (range_with_len a (b + 1 - a))
YieldsList-from_numbers {s} a b first last fresh =
    let P : List ℕ → Type 0 = YieldsList counts (λ x. x) s in
    let all : range_inclusive_left gap s ≡ b + 1 - a = rw (fresh, first, last) (omega arith) in
    subst P (ap (λ (k : ℕ). range_with_len k (range_inclusive_left gap s)) first ∙ ap (range_with_len a) all) (record {
      runs = listed counts (λ x. x) shown (λ s t p. ap (λ (k : ℕ). length (range_with_len (range_inclusive_start s) k)) p.1.0) (λ s x t p. one_more (range_inclusive_exhausted t) (range_inclusive_start s) (range_inclusive_left gap s) (range_inclusive_start t) (range_inclusive_end t) x p.1.1 p.1.0 p.1.2) s;
    })

-- what stands at an index of the numbers from a on and a list beside them
module _ {A : Type 0} (a n : ℕ) (items : List A) (i : ℕ) where
  pub numbered_at : (k : ℕ) (x : A) → i < length (zip (range_with_len a n) items) → (k, x) ≡ get_or (zip (range_with_len a n) items) i (k, x) → (i < length items) × (k ≡ a + i) × (x ≡ get_or items i x)
  numbered_at k x within is =
      let size = length-zip (range_with_len a n) items in
      let long = length-range_with_len a n in
      let few : i < n = omega arith in
      let inside : i < length items = omega arith in
      let both = is ∙ get_or-zip (range_with_len a n) items i (k, x) (omega arith) inside in
      (inside, ap (λ (p : ℕ × A). p.0) both ∙ get_or-range_with_len a n i k few, ap (λ (p : ℕ × A). p.1) both)

  -- and of another list beside them
  pub numbered_beside : {B : Type 0} (others : List B) (k : ℕ) (x : A) (y : B) → i < length (zip (zip (range_with_len a n) items) others) → ((k, x), y) ≡ get_or (zip (zip (range_with_len a n) items) others) i ((k, x), y) → (i < length items) × (k ≡ a + i) × (x ≡ get_or items i x) × (y ≡ get_or others i y)
  numbered_beside {B} others k x y within is =
      let pairs = zip (range_with_len a n) items in
      let size = length-zip pairs others in
      let inside : i < length pairs = omega arith in
      let both = is ∙ get_or-zip pairs others i ((k, x), y) inside (omega arith) in
      let at = numbered_at k x inside (ap (λ (p : (ℕ × A) × B). p.0) both) in
      (at.0, at.1, at.2, ap (λ (p : (ℕ × A) × B). p.1) both)

-- a loop over the numbers from a to b and a list beside them, that has yielded xs
module _ {A : Type 0} (a b : ℕ) (items : List A) (s t u : Zip (RangeInclusive ℕ) (Iter A)) (first : range_inclusive_start (zip_first s) ≡ a) (last : range_inclusive_end (zip_first s) ≡ b) (fresh : range_inclusive_exhausted (zip_first s) ≡ false) (rest : iter_rest (zip_second s) ≡ items) where
  yields_pairs : YieldsList (zips counts fronts) (λ p. (p.0, p.1.now)) s (zip (range_with_len a (b + 1 - a)) items)
  yields_pairs = YieldsList-from_zip (YieldsList-from_numbers a b first last fresh) (YieldsList-from_slice items rest)

  module _ (xs : List (ℕ × Bor A)) (came : Yields (zips counts fronts) s xs t) where
    pub pair_turn : (r : Option (ℕ × Bor A)) (k : ℕ) (x : Bor A) → r ≡ Some (k, x) → zips counts fronts t r u → (length xs < length items) × (k ≡ a + length xs) × (x.now ≡ get_or items (length xs) x.now)
    pair_turn r k x is step =
        let turn = YieldsList-turn yields_pairs xs t came r u (k, x) is step in
        numbered_at a (b + 1 - a) items (length xs) k x.now turn.0 turn.1

    pub pair_end : (r : Option (ℕ × Bor A)) → r ≡ None → zips counts fronts t r u → length items ≤ b + 1 - a → length xs ≡ length items
    pair_end r is step few =
        let end = YieldsList-end yields_pairs xs t came r u is step in
        let size = length-zip (range_with_len a (b + 1 - a)) items in
        let long = length-range_with_len a (b + 1 - a) in
        omega (arith, end.1)

-- a loop over the numbers from a to b, a list beside them, and another beside both, that has yielded xs
module _ {A B : Type 0} (a b : ℕ) (items : List A) (others : List B) (s t u : Zip (Zip (RangeInclusive ℕ) (Iter A)) (Iter B)) (first : range_inclusive_start (zip_first (zip_first s)) ≡ a) (last : range_inclusive_end (zip_first (zip_first s)) ≡ b) (fresh : range_inclusive_exhausted (zip_first (zip_first s)) ≡ false) (rest : iter_rest (zip_second (zip_first s)) ≡ items) (beside : iter_rest (zip_second s) ≡ others) (xs : List ((ℕ × Bor A) × Bor B)) (came : Yields (zips (zips counts fronts) fronts) s xs t) where
  yields : YieldsList (zips (zips counts fronts) fronts) (λ p. ((p.0.0, p.0.1.now), p.1.now)) s (zip (zip (range_with_len a (b + 1 - a)) items) others)
  yields =
      YieldsList-from_zip (YieldsList-from_zip (YieldsList-from_numbers a b first last fresh) (YieldsList-from_slice items rest)) (YieldsList-from_slice others beside)

  pub numbered_turn : (r : Option ((ℕ × Bor A) × Bor B)) (k : ℕ) (x : Bor A) (y : Bor B) → r ≡ Some ((k, x), y) → zips (zips counts fronts) fronts t r u → (length xs < length items) × (k ≡ a + length xs) × (x.now ≡ get_or items (length xs) x.now) × (y.now ≡ get_or others (length xs) y.now)
  numbered_turn r k x y is step =
      let turn = YieldsList-turn yields xs t came r u ((k, x), y) is step in
      numbered_beside a (b + 1 - a) items (length xs) others k x.now y.now turn.0 turn.1

  pub numbered_end : (r : Option ((ℕ × Bor A) × Bor B)) → r ≡ None → zips (zips counts fronts) fronts t r u → length items ≤ b + 1 - a → length items ≤ length others → length xs ≡ length items
  numbered_end r is step few wide =
      let end = YieldsList-end yields xs t came r u is step in
      let pairs = zip (range_with_len a (b + 1 - a)) items in
      let size = length-zip pairs others in
      let size' = length-zip (range_with_len a (b + 1 - a)) items in
      let long = length-range_with_len a (b + 1 - a) in
      omega (arith, end.1)
