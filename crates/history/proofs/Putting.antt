-- What is held, found and said after a put.
use Rattle.std.proofs.Common.{◌≡◌, ℕ, suc, ◌+◌, ◌-◌, ◌<◌, ◌≤◌, Bool, true, false, cond, ◌&&◌, eqb, leb, ◌⊎◌, List, [], ◌∷◌, ◌++◌, length, set, is_some, Some, None, Option, sym, refl, ap, ◌∙◌, inl, inr, arith}
use Rattle.std.specs.Option.{option_map}
use Rattle.std.specs.List.{slice_get}
use Rattle.std.proofs.lemmas.Bool.{cases_order, cases_eq, eq-eqb, ne_eqb, le-leb, lt-leb, and_right}
use Rattle.std.proofs.lemmas.Bool.Decides.{nat_tests}
use Rattle.history.specs.Latest.{or_else}
use Rattle.history.specs.Entries.{is_on, found, keyed}
use Rattle.history.specs.Puts.{put_one, put_all, on_day}
use Rattle.history.specs.declared.Dated.{Dated}
use Rattle.history.proofs.Finding.{is_off}
use Rattle.history.proofs.Keyed.{keyed_cons}

or_none_of : {A : Type 0} (b : Bool) (o : Option A) → or_else (cond b None None) o ≡ o
or_none_of true o = refl
or_none_of false o = refl

module _ {T : Type 0} where
  -- x replaces the entry that is found, or is added
  abbrev pub placed : List (Dated T) → Option ℕ → Dated T → List (Dated T)
  placed t (Some i) x = set t i x
  placed t None x = t ++ x ∷ []

  pub put_placed : (t : List (Dated T)) (x : Dated T) → put_one t x ≡ placed t (found t x.subject x.day) x
  unfolding put_one found
  put_placed [] x = refl
  put_placed (y ∷ t) x = go (is_on x.subject x.day y) (found t x.subject x.day) (put_placed t x)
    where
      go : (b : Bool) (o : Option ℕ) → put_one t x ≡ placed t o x → cond b (x ∷ t) (y ∷ put_one t x) ≡ placed (y ∷ t) (cond b (Some 0) (option_map suc o)) x
      go true o h = refl
      go false None h = ap (λ (l : List (Dated T)). y ∷ l) h
      go false (Some i) h = ap (λ (l : List (Dated T)). y ∷ l) h

  pub length_put : (t : List (Dated T)) (x : Dated T) → length (put_one t x) ≡ length t + cond (is_some (found t x.subject x.day)) 0 1
  unfolding put_one found
  length_put [] x = refl
  length_put (y ∷ t) x = go (is_on x.subject x.day y) (found t x.subject x.day) (length_put t x)
    where
      go : (b : Bool) (o : Option ℕ) → length (put_one t x) ≡ length t + cond (is_some o) 0 1 → length (cond b (x ∷ t) (y ∷ put_one t x)) ≡ suc (length t) + cond (is_some (cond b (Some 0) (option_map suc o))) 0 1
      go true o h = omega arith
      go false None h = omega arith
      go false (Some i) h = omega arith

  pub put_longer : (t : List (Dated T)) (x : Dated T) → length t ≤ length (put_one t x)
  put_longer t x = omega (arith, length_put t x)

  -- a put moves no entry of another subject or day
  pub found_put_other : (t : List (Dated T)) (x : Dated T) (s d : ℕ) → is_on s d x ≡ false → found (put_one t x) s d ≡ found t s d
  unfolding put_one found
  found_put_other [] x s d off = rw off refl
  found_put_other (y ∷ t) x s d off = go (is_on x.subject x.day y) refl (found_put_other t x s d off)
    where
      go : (b : Bool) → is_on x.subject x.day y ≡ b → found (put_one t x) s d ≡ found t s d → found (cond b (x ∷ t) (y ∷ put_one t x)) s d ≡ cond (is_on s d y) (Some 0) (option_map suc (found t s d))
      go true e below =
          let unlike : is_on s d y ≡ false = grind (arith, nat_tests) in
          rw (off, unlike) refl
      go false e below = ap (λ (o : Option ℕ). cond (is_on s d y) (Some 0) (option_map suc o)) below

  -- what the table says of each subject and day after a put
  pub keyed_put : (t : List (Dated T)) (x : Dated T) (s d : ℕ) → keyed (put_one t x) s d ≡ cond (is_on s d x) (Some x.entry) (keyed t s d)
  unfolding put_one
  keyed_put [] x s d = keyed_cons x [] s d
  keyed_put (y ∷ t) x s d = go (is_on x.subject x.day y) refl (is_on s d x) refl (keyed_put t x s d)
    where
      go : (b : Bool) → is_on x.subject x.day y ≡ b → (c : Bool) → is_on s d x ≡ c → keyed (put_one t x) s d ≡ cond (is_on s d x) (Some x.entry) (keyed t s d) → keyed (cond b (x ∷ t) (y ∷ put_one t x)) s d ≡ cond c (Some x.entry) (keyed (y ∷ t) s d)
      go true e true f below = keyed_cons x t s d ∙ rw f refl
      go true e false f below =
          let unlike : is_on s d y ≡ false = grind (arith, nat_tests) in
          keyed_cons x t s d ∙ rw f (sym (keyed_cons y t s d ∙ rw unlike refl))
      go false e true f below =
          let unlike : is_on s d y ≡ false = grind (arith, nat_tests) in
          keyed_cons y (put_one t x) s d ∙ rw unlike (below ∙ rw f refl)
      go false e false f below =
          keyed_cons y (put_one t x) s d ∙ ap (cond (is_on s d y) (Some y.entry)) (below ∙ rw f refl) ∙ sym (keyed_cons y t s d)

  pub keyed_put_here : (t : List (Dated T)) (x : Dated T) → keyed (put_one t x) x.subject x.day ≡ Some x.entry
  keyed_put_here t x =
      let on : is_on x.subject x.day x ≡ true = grind (arith, nat_tests) in
      keyed_put t x x.subject x.day ∙ rw on refl

  pub keyed_put_other : (t : List (Dated T)) (x : Dated T) (s d : ℕ) → is_on s d x ≡ false → keyed (put_one t x) s d ≡ keyed t s d
  keyed_put_other t x s d off = keyed_put t x s d ∙ rw off refl

  -- the puts of one day move no entry of another day, or of a subject that they leave out
  pub found_day_other : (items : List T) (t : List (Dated T)) (d s s' e : ℕ) → (e ≡ d → s ≤ s' → s' < s + length items → ⊥) → found (put_all t (on_day d s items)) s' e ≡ found t s' e
  unfolding on_day
  found_day_other [] t d s s' e apart = refl
  found_day_other (x ∷ xs) t d s s' e apart =
      let new : Dated T = record { subject = s; day = d; entry = x } in
      let off : is_on s' e new ≡ false = is_off s' e new (λ p q. apart (sym q) (omega arith) (omega arith)) in
      found_day_other xs (put_one t new) d (suc s) s' e (λ p l m. apart p (omega arith) (omega arith)) ∙ found_put_other t new s' e off

  -- nor do they change what the table says there
  pub keyed_day_other : (items : List T) (t : List (Dated T)) (d s s' e : ℕ) → (e ≡ d → s ≤ s' → s' < s + length items → ⊥) → keyed (put_all t (on_day d s items)) s' e ≡ keyed t s' e
  unfolding on_day
  keyed_day_other [] t d s s' e apart = refl
  keyed_day_other (x ∷ xs) t d s s' e apart =
      let new : Dated T = record { subject = s; day = d; entry = x } in
      let off : is_on s' e new ≡ false = is_off s' e new (λ p q. apart (sym q) (omega arith) (omega arith)) in
      keyed_day_other xs (put_one t new) d (suc s) s' e (λ p l m. apart p (omega arith) (omega arith)) ∙ keyed_put_other t new s' e off

  -- what the table says after the puts of one day
  pub keyed_day : (items : List T) (t : List (Dated T)) (d s s' e : ℕ) → keyed (put_all t (on_day d s items)) s' e ≡ or_else (cond (eqb e d && leb s s') (slice_get items (s' - s)) None) (keyed t s' e)
  unfolding on_day
  keyed_day [] t d s s' e = sym (or_none_of (eqb e d && leb s s') (keyed t s' e))
  keyed_day (x ∷ xs) t d s s' e =
      let new : Dated T = record { subject = s; day = d; entry = x } in
      keyed_day xs (put_one t new) d (suc s) s' e ∙ ap (or_else (cond (eqb e d && leb (suc s) s') (slice_get xs (s' - suc s)) None)) (keyed_put t new s' e) ∙ step (cases_order s s') (cases_eq e d)
    where
      step : (s ≡ s') ⊎ ((s < s') ⊎ (s' < s)) → (e ≡ d) ⊎ (e ≡ d → ⊥) → or_else (cond (eqb e d && leb (suc s) s') (slice_get xs (s' - suc s)) None) (cond (eqb s s' && eqb d e) (Some x) (keyed t s' e)) ≡ or_else (cond (eqb e d && leb s s') (slice_get (x ∷ xs) (s' - s)) None) (keyed t s' e)
      step (inl p) (inl q) =
          let day : eqb e d ≡ true = eq-eqb e d q in
          let day' : eqb d e ≡ true = eq-eqb d e (sym q) in
          let after : leb (suc s) s' ≡ false = lt-leb (suc s) s' (omega arith) in
          let here : eqb s s' ≡ true = eq-eqb s s' p in
          let from : leb s s' ≡ true = le-leb s s' (omega arith) in
          let zeroth : s' - s ≡ 0 = omega arith in
          rw (day, day', after, here, from, zeroth)
      step (inr (inl p)) (inl q) =
          let day : eqb e d ≡ true = eq-eqb e d q in
          let after : leb (suc s) s' ≡ true = le-leb (suc s) s' (omega arith) in
          let apart : eqb s s' ≡ false = ne_eqb s s' (λ h. omega arith) in
          let from : leb s s' ≡ true = le-leb s s' (omega arith) in
          let next : s' - s ≡ suc (s' - suc s) = omega arith in
          rw (day, after, apart, from, next)
      step (inr (inr p)) (inl q) =
          let day : eqb e d ≡ true = eq-eqb e d q in
          let after : leb (suc s) s' ≡ false = lt-leb (suc s) s' (omega arith) in
          let apart : eqb s s' ≡ false = ne_eqb s s' (λ h. omega arith) in
          let from : leb s s' ≡ false = lt-leb s s' (omega arith) in
          rw (day, after, apart, from)
      step p (inr q) =
          let day : eqb e d ≡ false = ne_eqb e d q in
          let apart : (eqb s s' && eqb d e) ≡ false = and_right (eqb s s') (eqb d e) (ne_eqb d e (λ h. q (sym h))) in
          rw (day, apart)

  -- the item k is the subject's that comes k after the first
  pub keyed_day_here : (items : List T) (t : List (Dated T)) (d s s' k : ℕ) (x : T) → s' ≡ s + k → slice_get items k ≡ Some x → keyed (put_all t (on_day d s items)) s' d ≡ Some x
  keyed_day_here items t d s s' k x is at =
      let day : eqb d d ≡ true = eq-eqb d d refl in
      let from : leb s s' ≡ true = le-leb s s' (omega arith) in
      let index : s' - s ≡ k = omega arith in
      keyed_day items t d s s' d ∙ rw (day, from, index, at) refl
