-- A set's numbers are, in order, all numbers that it has.
use Rattle.std.proofs.Common.{◌≡◌, ℕ, zero, suc, ◌+◌, ◌<◌, ◌≤◌, Bool, true, false, cond, ◌||◌, eqb, List, [], ◌∷◌, ◌++◌, sym, refl, ap, ◌∙◌, ⊎_elim, append_assoc, append-nil, arith, eq-eqb, ne_eqb, Less}
use Rattle.std.specs.List.{flat_map, list_any, AllByRecursion}
use Rattle.std.specs.List.Sorted.{IsStrictlySortedBy}
use Rattle.std.specs.Ordering.{nat_cmp, is_eq}
use Rattle.std.proofs.lemmas.List.Concat.{flat_map-append}
use Rattle.std.proofs.lemmas.Map.Keys.{sorted_head, sorted_tail}
use Rattle.std.proofs.lemmas.Bool.{cases_eq}
use Rattle.std.proofs.lemmas.Bool.Decides.{nat_tests}
use Rattle.domain.specs.Lines.{gathered}

gathered_front : (f : ℕ → List ℕ) (n : ℕ) → gathered f (suc n) ≡ f 0 ++ gathered (λ k. f (suc k)) n
unfolding gathered
gathered_front f zero = sym (append-nil (f 0))
gathered_front f (suc n) = ap (λ t. t ++ f (suc n)) (gathered_front f n) ∙ append_assoc (f 0) (gathered (λ k. f (suc k)) n) (f (suc n))

no_parts : (f : ℕ → List ℕ) → gathered f 0 ≡ []
unfolding gathered
no_parts f = refl

-- the parts of parts
pub parts_of_parts : (row : ℕ → List ℕ) (has : ℕ → Bool) (n : ℕ) → flat_map row (gathered (λ k. cond (has k) (k ∷ []) []) n) ≡ gathered (λ k. cond (has k) (row k) []) n
unfolding gathered
parts_of_parts row has zero = refl
parts_of_parts row has (suc n) =
    flat_map-append row (gathered (λ k. cond (has k) (k ∷ []) []) n) (cond (has n) (n ∷ []) [])
    ∙ ap (λ t. t ++ flat_map row (cond (has n) (n ∷ []) [])) (parts_of_parts row has n)
    ∙ ap (λ t. gathered (λ k. cond (has k) (row k) []) n ++ t) (one (has n)) where
      one : (b : Bool) → flat_map row (cond b (n ∷ []) []) ≡ cond b (row n) []
      one true = append-nil (row n)
      one false = refl

either : (a b : Bool) → (a || b) ≡ true → (a ≡ false) → b ≡ true
either true b e f = cc
either false b e f = e

or_right : (a b : Bool) → b ≡ true → (a || b) ≡ true
or_right true b e = refl
or_right false b e = e

not_true : (b : Bool) → (b ≡ true → ⊥) → b ≡ false
not_true true n = absurd (n refl)
not_true false n = refl

-- a set has what is equal to a number of its list
is_equal : (k x : ℕ) → is_eq (nat_cmp k x) ≡ eqb k x
is_equal k x = grind (arith, nat_tests)

pub has_is : (k : ℕ) (ks : List ℕ) → list_any (λ x. is_eq (nat_cmp k x)) ks ≡ list_any (eqb k) ks
has_is k [] = refl
has_is k (x ∷ xs) = ap (λ b. b || list_any (λ x. is_eq (nat_cmp k x)) xs) (is_equal k x) ∙ ap (λ b. eqb k x || b) (has_is k xs)

less : (x y : ℕ) → nat_cmp x y ≡ Less → x < y
less x y e = grind (arith, nat_tests)

-- a number of an ascending list is above what stands before the list
above : (x k : ℕ) (ks : List ℕ) → AllByRecursion (λ y. nat_cmp x y ≡ Less) ks → list_any (eqb k) ks ≡ true → x < k
above x k [] h e = cc
above x k (y ∷ ys) h e =
    ⊎_elim
    (λ (s : k ≡ y). let l = less x y h.0 in omega (arith, s, l))
    (λ (s : k ≡ y → ⊥). above x k ys h.1 (either (eqb k y) (list_any (eqb k) ys) e (ne_eqb k y s)))
    (cases_eq k y)

pub in_order : (n low : ℕ) (ks : List ℕ) (f : ℕ → List ℕ) → IsStrictlySortedBy nat_cmp ks → ((k : ℕ) → list_any (eqb k) ks ≡ true → (low ≤ k) × (k < low + n)) → ((k : ℕ) → f k ≡ cond (list_any (eqb (low + k)) ks) ((low + k) ∷ []) []) → ks ≡ gathered f n
in_order zero low [] f up bound is = sym (no_parts f)
in_order zero low (x ∷ xs) f up bound is = let b = bound x (ap (λ t. t || list_any (eqb x) xs) (eq-eqb x x refl)) in absurd (omega arith)
in_order (suc n) low [] f up bound is =
    let rest = in_order n (suc low) [] (λ k. f (suc k)) up (λ k h. cc) (λ k. is (suc k)) in
    rest ∙ sym (gathered_front f n ∙ ap (λ t. t ++ gathered (λ k. f (suc k)) n) (is 0))
in_order (suc n) low (x ∷ xs) f up bound is =
    let head = sorted_head nat_cmp x xs up in
    let at_x = bound x (ap (λ t. t || list_any (eqb x) xs) (eq-eqb x x refl)) in
    let next : (k : ℕ) → low + suc k ≡ suc low + k = λ k. omega arith in
    ⊎_elim
    (λ (e : low ≡ x).
    let zero_is : low + 0 ≡ x = omega (arith, e) in
    let first : f 0 ≡ x ∷ [] = is 0 ∙ ap (λ m. cond (list_any (eqb m) (x ∷ xs)) (m ∷ []) []) zero_is ∙ ap (λ b. cond (b || list_any (eqb x) xs) (x ∷ []) []) (eq-eqb x x refl) in
    let rest = in_order n (suc low) xs (λ k. f (suc k)) (sorted_tail nat_cmp x xs up) (λ k h. let a = above x k xs head h in let b = bound k (or_right (eqb k x) (list_any (eqb k) xs) h) in (omega (arith, a, e), omega (arith, b.1))) (λ k. is (suc k) ∙ ap (λ m. cond (list_any (eqb m) (x ∷ xs)) (m ∷ []) []) (next k) ∙ ap (λ b. cond (b || list_any (eqb (suc low + k)) xs) ((suc low + k) ∷ []) []) (ne_eqb (suc low + k) x (λ s. absurd (omega (arith, s, e))))) in
    ap (λ t. x ∷ t) rest ∙ sym (gathered_front f n ∙ ap (λ t. t ++ gathered (λ k. f (suc k)) n) first))
    (λ (e : low ≡ x → ⊥).
    let out : list_any (eqb low) (x ∷ xs) ≡ false = ap (λ b. b || list_any (eqb low) xs) (ne_eqb low x e) ∙ not_true (list_any (eqb low) xs) (λ h. let a = above x low xs head h in absurd (omega (arith, a, at_x.0))) in
    let zero_is : low + 0 ≡ low = omega arith in
    let first : f 0 ≡ [] = is 0 ∙ ap (λ m. cond (list_any (eqb m) (x ∷ xs)) (m ∷ []) []) zero_is ∙ ap (λ b. cond b (low ∷ []) []) out in
    let rest = in_order n (suc low) (x ∷ xs) (λ k. f (suc k)) up (λ k h. let b = bound k h in let apart : k ≡ low → ⊥ = λ s. let z = sym h ∙ ap (λ m. list_any (eqb m) (x ∷ xs)) s ∙ out in cc z in (omega (arith, b.0, apart), omega (arith, b.1))) (λ k. is (suc k) ∙ ap (λ m. cond (list_any (eqb m) (x ∷ xs)) (m ∷ []) []) (next k)) in
    rest ∙ sym (gathered_front f n ∙ ap (λ t. t ++ gathered (λ k. f (suc k)) n) first))
    (cases_eq low x)
