-- Where the first entry of a subject and a day stands.
use Rattle.std.proofs.Common.{arith, ◌≡◌, ℕ, zero, suc, ◌+◌, ◌<◌, Bool, true, false, cond, eqb, List, [], ◌∷◌, ◌++◌, length, get_or, take, Some, None, Option, sym, refl, ap, ◌∙◌, ⊎_elim}
use Rattle.std.specs.Option.{option_map}
use Rattle.std.specs.List.{position, position_from, slice_get}
use Rattle.std.proofs.lemmas.List.{take_more}
use Rattle.std.proofs.lemmas.Iterator.Adapters.{position_from-zero}
use Rattle.std.proofs.lemmas.Bool.{and_parts, eqb-true, cases_Bool}
use Rattle.history.specs.Latest.{or_else}
use Rattle.history.specs.Entries.{is_on, found}
use Rattle.history.proofs.Latests.{some_is_not_none}
use Rattle.history.specs.declared.Dated.{Dated}

mapped_or_else : {A B : Type 0} (f : A → B) (o p : Option A) → option_map f (or_else o p) ≡ or_else (option_map f o) (option_map f p)
mapped_or_else f None p = refl
mapped_or_else f (Some x) p = refl

mapped_cond : {A B : Type 0} (f : A → B) (b : Bool) (x : A) → option_map f (cond b (Some x) None) ≡ cond b (Some (f x)) None
mapped_cond f true x = refl
mapped_cond f false x = refl

-- what is not found first is found in the rest, if at all
not_first : (b : Bool) (o : Option ℕ) → cond b (Some 0) o ≡ None → b ≡ false
not_first true o h = absurd (some_is_not_none {x = 0} refl h)
not_first false o h = refl

mapped_none : {A B : Type 0} (f : A → B) (o : Option A) → option_map f o ≡ None → o ≡ None
mapped_none f None h = refl
mapped_none f (Some x) h = absurd (some_is_not_none {x = f x} refl h)

module _ {T : Type 0} where
  pub is_off : (s d : ℕ) (x : Dated T) → (x.subject ≡ s → x.day ≡ d → ⊥) → is_on s d x ≡ false
  is_off s d x apart =
      ⊎_elim
      (λ (h : is_on s d x ≡ true). let p = and_parts (eqb x.subject s) (eqb x.day d) h in absurd (apart (eqb-true x.subject s p.0) (eqb-true x.day d p.1)))
      (λ (h : is_on s d x ≡ false). h)
      (cases_Bool (is_on s d x))

  -- one entry more at the end
  pub found_push : (t : List (Dated T)) (x : Dated T) (s d : ℕ) → found (t ++ x ∷ []) s d ≡ or_else (found t s d) (cond (is_on s d x) (Some (length t)) None)
  unfolding found
  found_push [] x s d = refl
  found_push (y ∷ t) x s d =
      elim (is_on s d y) as (λ b. cond b (Some 0) (option_map suc (found (t ++ x ∷ []) s d)) ≡ or_else (cond b (Some 0) (option_map suc (found t s d))) (cond (is_on s d x) (Some (suc (length t))) None)) [ true ↦ refl | false ↦ ap (option_map suc) (found_push t x s d) ∙ mapped_or_else suc (found t s d) (cond (is_on s d x) (Some (length t)) None) ∙ ap (or_else (option_map suc (found t s d))) (mapped_cond suc (is_on s d x) (length t)) ]

  -- a search that has passed one entry more
  pub found_more : (t : List (Dated T)) (i : ℕ) (x : Dated T) (s d : ℕ) → i < length t → x ≡ get_or t i x → found (take i t) s d ≡ None → is_on s d x ≡ false → found (take (i + 1) t) s d ≡ None
  found_more t i x s d within is none unlike =
      let more : take (i + 1) t ≡ take i t ++ x ∷ [] = take_more t i x within ∙ ap (λ (y : Dated T). take i t ++ y ∷ []) (sym is) in
      rw more (found_push (take i t) x s d ∙ rw (none, unlike) refl)

  -- nothing before the index i, and there an entry of that subject and day
  pub found_here : (t : List (Dated T)) (i : ℕ) (x : Dated T) (s d : ℕ) → slice_get t i ≡ Some x → found (take i t) s d ≡ None → is_on s d x ≡ true → found t s d ≡ Some i
  unfolding found
  found_here [] i x s d at none on = absurd (some_is_not_none at refl)
  found_here (y ∷ t) zero x s d at none on =
      let same : y ≡ x = cc in
      rw (same, on) refl
  found_here (y ∷ t) (suc i) x s d at none on =
      let off : is_on s d y ≡ false = not_first (is_on s d y) _ none in
      let rest : found (take i t) s d ≡ None = mapped_none suc (found (take i t) s d) (rw off at none) in
      rw off (ap (option_map suc) (found_here t i x s d at rest on))

  -- a search goes by position
  position_next : (p : Dated T → Bool) (n : ℕ) (t : List (Dated T)) → position_from p (n + 1) t ≡ option_map suc (position_from p n t)
  position_next p n [] = refl
  position_next p n (x ∷ t) =
      elim (p x) as (λ b. cond b (Some (n + 1)) (position_from p (n + 1 + 1) t) ≡ option_map suc (cond b (Some n) (position_from p (n + 1) t))) [ true ↦ ap Some (omega arith) | false ↦ position_next p (n + 1) t ]

  found_from : (t : List (Dated T)) (s d : ℕ) → found t s d ≡ position_from (is_on s d) 0 t
  unfolding found
  found_from [] s d = refl
  found_from (x ∷ t) s d =
      elim (is_on s d x) as (λ b. cond b (Some 0) (option_map suc (found t s d)) ≡ cond b (Some 0) (position_from (is_on s d) (0 + 1) t)) [ true ↦ refl | false ↦ ap (option_map suc) (found_from t s d) ∙ sym (position_next (is_on s d) 0 t) ]

  pub found_position : (t : List (Dated T)) (s d : ℕ) → found t s d ≡ position (is_on s d) t
  found_position t s d = found_from t s d ∙ sym (position_from-zero (is_on s d) t)
