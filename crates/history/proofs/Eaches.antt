-- The entries of all Settlement Periods, in one pass: those in force, and those of a day.
use Rattle.std.proofs.Common.{◌≡◌, ℕ, ◌+◌, ◌<◌, ◌≤◌, Bool, true, false, cond, List, [], ◌∷◌, ◌++◌, length, get_or, take, set, replicate, Some, None, Option, sym, refl, ap, ◌∙◌, subst, ⊎_elim, arith}
use lib.ListN.{length-replicate}
use Rattle.std.proofs.lemmas.List.{get_or-set_same, get_or-set_other, get_or-replicate, get_or_past, take_more, length-take-le}
use Rattle.std.proofs.lemmas.Bool.{cases_eq, cases_lt, and_right, and_left}
use Rattle.std.proofs.lemmas.Bool.Decides.{nat_tests}
use Rattle.std.specs.Option.{option_or}
use Rattle.domain.specs.Limits.{periods}
use Rattle.history.specs.Latest.{or_else}
use Rattle.history.specs.Entries.{is_on, is_due, of_period, for_period, found}
use Rattle.history.proofs.Finding.{found_push}
use Rattle.history.proofs.Sofar.{SoFar, is_later, so_far_took, so_far_kept}
use Rattle.history.specs.declared.Dated.{Dated}

module _ {T : Type 0} (t : List (Dated T)) (i : ℕ) (x : Dated T) (d : ℕ) (within : i < length t) (is : x ≡ get_or t i x) (bests : List (Option (ℕ × ℕ))) (inv : (k : ℕ) → k < periods → SoFar (found (take i t) (k + 1)) d (get_or bests k None)) where
  -- a period that the entry is not due for keeps its best
  other : (k : ℕ) → k < periods → is_due (k + 1) d x ≡ false → (b : Option (ℕ × ℕ)) → b ≡ get_or bests k None → SoFar (found (take (i + 1) t) (k + 1)) d b
  other k h miss b eb = so_far_kept t i x (k + 1) d within is (get_or bests k None) (inv k h) (and_left _ _ miss) eb

  -- the entry is of no period, or after the day
  pub each_passed : for_period d x ≡ false → (k : ℕ) → k < periods → SoFar (found (take (i + 1) t) (k + 1)) d (get_or bests k None)
  each_passed miss k h =
      let undue : is_due (k + 1) d x ≡ false = grind (arith, nat_tests) in
      other k h undue _ refl

  -- it is due for the period j + 1
  module _ (j : ℕ) (at : x.subject ≡ j + 1) (due : for_period d x ≡ true) where
    apart : (k : ℕ) → (k ≡ j → ⊥) → is_due (k + 1) d x ≡ false
    apart k miss = let unlike : x.subject ≡ k + 1 → ⊥ = λ e. miss (omega arith) in grind (arith, nat_tests)

    pub each_kept : is_later (get_or bests j None) x.day ≡ false → (k : ℕ) → k < periods → SoFar (found (take (i + 1) t) (k + 1)) d (get_or bests k None)
    each_kept miss k h =
        ⊎_elim
        (λ (e : k ≡ j). so_far_kept t i x (k + 1) d within is (get_or bests k None) (inv k h) (and_right _ _ (ap (λ (n : ℕ). is_later (get_or bests n None) x.day) e ∙ miss)) refl)
        (λ (e : k ≡ j → ⊥). other k h (apart k e) _ refl)
        (cases_eq k j)

    pub each_took : is_later (get_or bests j None) x.day ≡ true → j < length bests → (k : ℕ) → k < periods → SoFar (found (take (i + 1) t) (k + 1)) d (get_or (set bests j (Some (i, x.day))) k None)
    each_took later lb k h =
        let new : ℕ × ℕ = (i, x.day) in
        ⊎_elim
        (λ (e : k ≡ j).
        let on : is_due (k + 1) d x ≡ true = grind (arith, nat_tests) in
        so_far_took t i x (k + 1) d within is (get_or bests k None) (inv k h) on (ap (λ (n : ℕ). is_later (get_or bests n None) x.day) e ∙ later) (ap (λ (n : ℕ). get_or (set bests j (Some new)) n None) e ∙ get_or-set_same bests j (Some new) None lb))
        (λ (e : k ≡ j → ⊥). other k h (apart k e) _ (get_or-set_other bests j k (Some new) None e))
        (cases_eq k j)

-- nothing stands in an array of nothing
pub none_at : {A : Type 0} (n k : ℕ) → get_or (replicate {A = Option A} n None) k None ≡ None
none_at {A} n k =
    ⊎_elim
    (λ (l : k < n). get_or-replicate n k None None l)
    (λ (l : n ≤ k). get_or_past (replicate n None) k None (omega (arith, length-replicate {A = Option A} n None)))
    (cases_lt k n)

-- before the first entry nothing is in force
pub none_yet : (f : ℕ → Option ℕ) (d k n : ℕ) → ((e : ℕ) → f e ≡ None) → SoFar f d (get_or (replicate n None) k None)
none_yet f d k n none =
    let P : Option (ℕ × ℕ) → Type 0 = SoFar f d in
    subst P (sym (none_at n k)) (λ e m. none e)

-- the first entries of a day, one entry more: `found` is what was found before it
module _ {T : Type 0} (t : List (Dated T)) (i : ℕ) (x : Dated T) (d : ℕ) (within : i < length t) (is : x ≡ get_or t i x) (at : List (Option ℕ)) (inv : (k : ℕ) → k < periods → get_or at k None ≡ found (take i t) (k + 1) d) where
  found_more : (k : ℕ) → found (take (i + 1) t) (k + 1) d ≡ or_else (found (take i t) (k + 1) d) (cond (is_on (k + 1) d x) (Some i) None)
  found_more k =
      ap (λ (u : List (Dated T)). found u (k + 1) d) (take_more t i x within ∙ ap (λ (y : Dated T). take i t ++ y ∷ []) (sym is))
      ∙ found_push (take i t) x (k + 1) d
      ∙ ap (λ (n : ℕ). or_else (found (take i t) (k + 1) d) (cond (is_on (k + 1) d x) (Some n) None)) (length-take-le i t (omega arith))

  same_or : (o p : Option ℕ) → option_or o p ≡ or_else o p
  same_or None p = refl
  same_or (Some n) p = refl

  or_nothing : (o : Option ℕ) → o ≡ or_else o None
  or_nothing None = refl
  or_nothing (Some n) = refl

  -- a period that the entry is not of
  off : (k : ℕ) → k < periods → is_on (k + 1) d x ≡ false → get_or at k None ≡ found (take (i + 1) t) (k + 1) d
  off k h miss =
      inv k h ∙ or_nothing (found (take i t) (k + 1) d) ∙ sym (found_more k ∙ ap (λ (b : Bool). or_else (found (take i t) (k + 1) d) (cond b (Some i) None)) miss)

  pub found_passed : of_period d x ≡ false → (k : ℕ) → k < periods → get_or at k None ≡ found (take (i + 1) t) (k + 1) d
  found_passed miss k h = let unlike : is_on (k + 1) d x ≡ false = grind (arith, nat_tests) in off k h unlike

  pub found_here : (j : ℕ) → x.subject ≡ j + 1 → of_period d x ≡ true → j < length at → (k : ℕ) → k < periods → get_or (set at j (option_or (get_or at j None) (Some i))) k None ≡ found (take (i + 1) t) (k + 1) d
  found_here j at_j on l k h =
      ⊎_elim
      (λ (e : k ≡ j).
      let here : is_on (k + 1) d x ≡ true = grind (arith, nat_tests) in
      ap (λ (n : ℕ). get_or (set at j (option_or (get_or at j None) (Some i))) n None) e
      ∙ get_or-set_same at j (option_or (get_or at j None) (Some i)) None l
      ∙ ap (λ (n : ℕ). option_or (get_or at n None) (Some i)) (sym e)
      ∙ ap (λ (o : Option ℕ). option_or o (Some i)) (inv k h)
      ∙ same_or (found (take i t) (k + 1) d) (Some i)
      ∙ sym (found_more k ∙ ap (λ (b : Bool). or_else (found (take i t) (k + 1) d) (cond b (Some i) None)) here))
      (λ (e : k ≡ j → ⊥).
      let unlike : x.subject ≡ k + 1 → ⊥ = λ s. e (omega arith) in
      let there : is_on (k + 1) d x ≡ false = grind (arith, nat_tests) in
      get_or-set_other at j k (option_or (get_or at j None) (Some i)) None e ∙ off k h there)
      (cases_eq k j)
