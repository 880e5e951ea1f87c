-- The first of some numbers that fails a check: looked for one by one.
use Rattle.std.proofs.Common.{◌≡◌, ◌||◌, List, [], ◌∷◌, length, get_or, is_some, ℕ, zero, suc, ◌+◌, ◌-◌, ◌<◌, ◌≤◌, Bool, true, false, cond, Some, None, Ok, Err, Option, Result, sym, refl, ap, ◌∙◌, ⊎_elim, arith}
use Rattle.domain.specs.declared.Fault.{Fault}
use Rattle.std.specs.List.{list_any, find, range_with_len, zip}
use Rattle.std.specs.Option.{option_map}
use denote.Ref.{Bor}
use Rattle.std.proofs.lemmas.Bool.{cases_eq}
use Rattle.history.specs.Latest.{or_else}
use Rattle.issuing.specs.First.{first_where, unless_found}

module _ (bad : ℕ → Bool) where
  pub first_none : first_where bad 0 ≡ None
  unfolding first_where
  first_none = refl

  step : (m : ℕ) → first_where bad (m + 1) ≡ or_else (first_where bad m) (cond (bad m) (Some m) None)
  unfolding first_where
  step m = ap (first_where bad) e
    where
      e : m + 1 ≡ suc m
      e = omega arith

  pub first_more : (m : ℕ) → first_where bad m ≡ None → bad m ≡ false → first_where bad (m + 1) ≡ None
  first_more m none good = step m ∙ rw (none, good) refl

  stays : (m k : ℕ) → first_where bad m ≡ None → bad m ≡ true → first_where bad (m + 1 + k) ≡ Some m
  stays m zero none is = ap (first_where bad) e ∙ step m ∙ rw (none, is) refl
    where
      e : m + 1 + 0 ≡ m + 1
      e = omega arith
  stays m (suc k) none is =
      ap (first_where bad) e ∙ step (m + 1 + k) ∙ ap (λ o. or_else o (cond (bad (m + 1 + k)) (Some (m + 1 + k)) None)) (stays m k none is)
    where
      e : m + 1 + suc k ≡ m + 1 + k + 1
      e = omega arith

  -- what is found after nothing was found before
  pub first_here : (m n : ℕ) → first_where bad m ≡ None → bad m ≡ true → m < n → first_where bad n ≡ Some m
  first_here m n none is within = ap (first_where bad) e ∙ stays m (n - (m + 1)) none is
    where
      e : n ≡ m + 1 + (n - (m + 1))
      e = omega arith

  or_none : (o : Option ℕ) (b : Bool) (m : ℕ) → or_else o (cond b (Some m) None) ≡ None → (o ≡ None) × (b ≡ false)
  or_none None true m h = let z : ◌≡◌ {A = ℕ} 0 1 = cc in absurd (omega arith)
  or_none None false m h = (refl, refl)
  or_none (Some i) b m h = let z : ◌≡◌ {A = ℕ} 0 1 = cc in absurd (omega arith)

  -- where nothing is found, each is good
  pub first_below : (n : ℕ) → first_where bad n ≡ None → (k : ℕ) → k < n → bad k ≡ false
  unfolding first_where
  first_below zero none k within = absurd (omega arith)
  first_below (suc n) none k within =
      let both = or_none (first_where bad n) (bad n) n none in
      ⊎_elim (λ (e : k ≡ n). ap bad e ∙ both.1) (λ (e : k ≡ n → ⊥). first_below n both.0 k (omega (arith, e))) (cases_eq k n)

  -- and the other way round
  pub first_all : (n : ℕ) → ((k : ℕ) → k < n → bad k ≡ false) → first_where bad n ≡ None
  unfolding first_where
  first_all zero good = refl
  first_all (suc n) good =
      rw (first_all n (λ k l. good k (omega arith)), good n (omega arith)) refl

-- the same search
pub first_same : (f g : ℕ → Bool) (n : ℕ) → ((k : ℕ) → k < n → f k ≡ g k) → first_where f n ≡ first_where g n
unfolding first_where
first_same f g zero same = refl
first_same f g (suc n) same =
    ap (λ o. or_else o (cond (f n) (Some n) None)) (first_same f g n (λ k l. same k (omega arith))) ∙ ap (λ b. or_else (first_where g n) (cond b (Some n) None)) (same n (omega arith))

-- the same search, from its first number on
front : (bad : ℕ → Bool) (n : ℕ) → first_where bad (suc n) ≡ cond (bad 0) (Some 0) (option_map suc (first_where (λ i. bad (suc i)) n))
unfolding first_where
front bad zero = refl
front bad (suc n) =
    ap (λ (o : Option ℕ). or_else o (cond (bad (suc n)) (Some (suc n)) None)) (front bad n) ∙ go (bad 0) (bad (suc n)) (first_where (λ i. bad (suc i)) n)
  where
    go : (b last : Bool) (o : Option ℕ) → or_else (cond b (Some 0) (option_map suc o)) (cond last (Some (suc n)) None) ≡ cond b (Some 0) (option_map suc (or_else o (cond last (Some n) None)))
    go true last o = refl
    go false true None = refl
    go false false None = refl
    go false last (Some i) = refl

module _ {X : Type 0} (test : X → Bool) (d : X) where
  -- whether anything is found in a list
  any_all : (xs : List X) (bad : ℕ → Bool) → ((i : ℕ) → i < length xs → bad i ≡ test (get_or xs i d)) → list_any test xs ≡ is_some (first_where bad (length xs))
  unfolding first_where
  any_all [] bad same = refl
  any_all (x ∷ xs) bad same =
      ap (λ (b : Bool). b || list_any test xs) (sym (same 0 (omega arith)))
      ∙ ap (λ (b : Bool). bad 0 || b) (any_all xs (λ i. bad (suc i)) (λ i h. same (suc i) (omega arith)))
      ∙ either (bad 0) (first_where (λ i. bad (suc i)) (length xs))
      ∙ sym (ap is_some (front bad (length xs)))
    where
      either : (b : Bool) (o : Option ℕ) → (b || is_some o) ≡ is_some (cond b (Some 0) (option_map suc o))
      either true o = refl
      either false None = refl
      either false (Some i) = refl

module _ {X : Type 0} (test : X → Bool) (xs : List X) (d : X) (bad : ℕ → Bool) (same : (i : ℕ) → i < length xs → bad i ≡ test (get_or xs i d)) where
  pub any_first : (n : ℕ) → length xs ≡ n → list_any test xs ≡ is_some (first_where bad n)
  any_first n size = any_all test d xs bad same ∙ ap (λ (k : ℕ). is_some (first_where bad k)) size

  -- the refusal where something is found, and none where nothing is
  pub any_answered : (n : ℕ) (fault : Fault) → length xs ≡ n → (r : Bool) → r ≡ list_any test xs → ◌≡◌ {A = Result Unit Fault} (cond r (Err fault) (Ok tt)) (unless_found (first_where bad n) (λ _. fault) (Ok tt))
  any_answered n fault size r is =
      ap (λ (b : Bool). cond b (Err fault) (Ok tt)) (is ∙ any_first n size) ∙ go (first_where bad n)
    where
      go : (o : Option ℕ) → ◌≡◌ {A = Result Unit Fault} (cond (is_some o) (Err fault) (Ok tt)) (unless_found o (λ _. fault) (Ok tt))
      go None = refl
      go (Some i) = refl

-- of the numbers from a on, each beside an item, the first that fails the check
found_beside : {X : Type 0} (test : ℕ × X → Bool) (d : X) (a n : ℕ) (xs : List X) (bad : ℕ → Bool) → n ≤ length xs → ((i : ℕ) → i < n → bad i ≡ test (a + i, get_or xs i d)) → option_map (λ (p : ℕ × X). p.0) (find test (zip (range_with_len a n) xs)) ≡ option_map (λ i. a + i) (first_where bad n)
unfolding first_where
found_beside test d a zero xs bad enough same = refl
found_beside test d a (suc n) [] bad enough same = absurd (omega arith)
found_beside {X} test d a (suc n) (x ∷ xs) bad enough same =
    let start : a + 0 ≡ a = omega arith in
    let first : bad 0 ≡ test (a, x) = same 0 (omega arith) ∙ ap (λ (k : ℕ). test (k, x)) start in
    let after : (i : ℕ) → i < n → bad (suc i) ≡ test (a + 1 + i, get_or xs i d) = λ i h. let k : a + suc i ≡ a + 1 + i = omega arith in same (suc i) (omega arith) ∙ ap (λ (j : ℕ). test (j, get_or xs i d)) k in
    go (test (a, x)) (find test (zip (range_with_len (a + 1) n) xs)) (first_where (λ i. bad (suc i)) n) (found_beside test d (a + 1) n xs (λ i. bad (suc i)) (omega arith) after) ∙ sym (ap (option_map (λ i. a + i)) (front bad n ∙ ap (λ (b : Bool). cond b (Some 0) (option_map suc (first_where (λ i. bad (suc i)) n))) first))
  where
    shift : (o : Option ℕ) → option_map (λ i. a + 1 + i) o ≡ option_map (λ i. a + i) (option_map suc o)
    shift None = refl
    shift (Some i) = ap Some (omega arith)

    go : (b : Bool) (p : Option (ℕ × X)) (o : Option ℕ) → option_map (λ (p : ℕ × X). p.0) p ≡ option_map (λ i. a + 1 + i) o → option_map (λ (p : ℕ × X). p.0) (cond b (Some (a, x)) p) ≡ option_map (λ i. a + i) (cond b (Some 0) (option_map suc o))
    go true p o e = ap Some (omega arith)
    go false p o e = e ∙ shift o

-- what a search that found r among them refuses
pub answered_beside : {X : Type 0} (test : ℕ × X → Bool) (d : X) (a n : ℕ) (xs : List X) (bad : ℕ → Bool) (fault f : ℕ → Fault) → n ≤ length xs → ((i : ℕ) → i < n → bad i ≡ test (a + i, get_or xs i d)) → ((i : ℕ) → f i ≡ fault (a + i)) → (r : Option (ℕ × Bor X)) → option_map (λ (p : ℕ × Bor X). (p.0, p.1.now)) r ≡ find test (zip (range_with_len a n) xs) → ◌≡◌ {A = Result Unit Fault} (unless_found (option_map (λ (p : ℕ × Bor X). p.0) r) fault (Ok tt)) (unless_found (first_where bad n) f (Ok tt))
answered_beside {X} test d a n xs bad fault f enough same number r is =
    ap (λ (o : Option ℕ). unless_found o fault (Ok tt)) (number_of r ∙ ap (option_map (λ (p : ℕ × X). p.0)) is ∙ found_beside test d a n xs bad enough same) ∙ refused (first_where bad n)
  where
    number_of : (r : Option (ℕ × Bor X)) → option_map (λ (p : ℕ × Bor X). p.0) r ≡ option_map (λ (p : ℕ × X). p.0) (option_map (λ (p : ℕ × Bor X). (p.0, p.1.now)) r)
    number_of None = refl
    number_of (Some p) = refl

    refused : (o : Option ℕ) → ◌≡◌ {A = Result Unit Fault} (unless_found (option_map (λ i. a + i) o) fault (Ok tt)) (unless_found o f (Ok tt))
    refused None = refl
    refused (Some i) = ap Err (sym (number i))
