-- The latest day that something was put on.
use Rattle.std.proofs.Common.{◌≡◌, ℕ, zero, suc, ◌<◌, ◌≤◌, ◌⊎◌, Some, None, Option, sym, refl, ap, ◌∙◌, inl, inr, ⊎_elim, arith}
use Rattle.std.proofs.lemmas.Bool.{cases_eq}
use Rattle.history.specs.Latest.{latest}

-- an option is one or the other
pub option_cases : {A : Type 0} (o : Option A) → (o ≡ None) ⊎ ((x : A) × (o ≡ Some x))
option_cases None = inl refl
option_cases (Some x) = inr (x, refl)

pub some_is_not_none : {A : Type 0} {o : Option A} {x : A} → o ≡ Some x → o ≡ None → ⊥
some_is_not_none p q = let z : ◌≡◌ {A = ℕ} 0 1 = cc in omega arith

module _ {A : Type 0} where
  -- what was put on the day D, and nothing since
  pub latest_is : (f : ℕ → Option A) (d D : ℕ) (x : A) → D ≤ d → f D ≡ Some x → ((e : ℕ) → D < e → e ≤ d → f e ≡ None) → latest f d ≡ Some x
  unfolding latest
  latest_is f zero D x h here none = ap f (omega arith) ∙ here
  latest_is f (suc d) D x h here none =
      ⊎_elim
      (λ (e : D ≡ suc d). let now : f (suc d) ≡ Some x = ap f (sym e) ∙ here in rw now refl)
      (λ (e : D ≡ suc d → ⊥). let now : f (suc d) ≡ None = none (suc d) (omega arith) (omega arith) in rw now (latest_is f d D x (omega arith) here (λ k l m. none k l (omega arith))))
      (cases_eq D (suc d))

  pub latest_none : (f : ℕ → Option A) (d : ℕ) → ((e : ℕ) → e ≤ d → f e ≡ None) → latest f d ≡ None
  unfolding latest
  latest_none f zero none = none zero (omega arith)
  latest_none f (suc d) none =
      let now : f (suc d) ≡ None = none (suc d) (omega arith) in
      rw now (latest_none f d (λ e h. none e (omega arith)))

  -- the day that it was put on
  pub latest_day : (f : ℕ → Option A) (d : ℕ) (x : A) → latest f d ≡ Some x → (D : ℕ) × (D ≤ d) × (f D ≡ Some x) × ((e : ℕ) → D < e → e ≤ d → f e ≡ None)
  unfolding latest
  latest_day f zero x h = (zero, omega arith, h, λ e l m. absurd (omega arith))
  latest_day f (suc d) x h =
      ⊎_elim
      (λ (n : f (suc d) ≡ None).
      let below : latest f d ≡ Some x = rw n at h in
      let at = latest_day f d x below in
      (at.0, omega arith, at.2, λ e l m. ⊎_elim (λ (q : e ≡ suc d). ap f q ∙ n) (λ (q : e ≡ suc d → ⊥). at.3 e l (omega arith)) (cases_eq e (suc d))))
      (λ (p : (y : A) × (f (suc d) ≡ Some y)).
      let same : f (suc d) ≡ Some x = p.1 ∙ (rw p.1 at h) in
      (suc d, omega arith, same, λ e l m. absurd (omega arith)))
      (option_cases (f (suc d)))

  pub latest_never : (f : ℕ → Option A) (d : ℕ) → latest f d ≡ None → (e : ℕ) → e ≤ d → f e ≡ None
  unfolding latest
  latest_never f zero h e l = ap f (omega arith) ∙ h
  latest_never f (suc d) h e l =
      ⊎_elim
      (λ (n : f (suc d) ≡ None).
      let below : latest f d ≡ None = rw n at h in
      ⊎_elim (λ (q : e ≡ suc d). ap f q ∙ n) (λ (q : e ≡ suc d → ⊥). latest_never f d below e (omega arith)) (cases_eq e (suc d)))
      (λ (p : (y : A) × (f (suc d) ≡ Some y)).
      let never : ◌≡◌ {A = Option A} (Some p.0) None = rw p.1 at h in
      absurd (some_is_not_none refl never))
      (option_cases (f (suc d)))

  -- the same was put on each day so far
  pub latest_same : (f g : ℕ → Option A) (d : ℕ) → ((e : ℕ) → e ≤ d → g e ≡ f e) → latest g d ≡ latest f d
  unfolding latest
  latest_same f g zero same = same zero (omega arith)
  latest_same f g (suc d) same =
      let now : g (suc d) ≡ f (suc d) = same (suc d) (omega arith) in
      let before : latest g d ≡ latest f d = latest_same f g d (λ e h. same e (omega arith)) in
      rw (now, before)

  -- the same was put on each day but D, and something after it
  pub latest_since : (f g : ℕ → Option A) (d D E : ℕ) (x : A) → D < E → E ≤ d → f E ≡ Some x → ((e : ℕ) → (e ≡ D → ⊥) → g e ≡ f e) → latest g d ≡ latest f d
  unfolding latest
  latest_since f g zero D E x l m at same = absurd (omega arith)
  latest_since f g (suc d) D E x l m at same =
      let now : g (suc d) ≡ f (suc d) = same (suc d) (λ h. omega arith) in
      ⊎_elim
      (λ (n : f (suc d) ≡ None).
      let apart : E ≡ suc d → ⊥ = λ q. some_is_not_none at (ap f q ∙ n) in
      let before : latest g d ≡ latest f d = latest_since f g d D E x l (omega arith) at same in
      rw (now, before))
      (λ (p : (y : A) × (f (suc d) ≡ Some y)). rw (now, p.1))
      (option_cases (f (suc d)))

-- what the latest stands for is the latest of what they stand for
pub latest_through : {A B : Type 0} (h : Option A → Option B) (f : ℕ → Option A) (d : ℕ) → h None ≡ None → ((e : ℕ) (x : A) → f e ≡ Some x → (y : B) × (h (f e) ≡ Some y)) → h (latest f d) ≡ latest (λ e. h (f e)) d
unfolding latest
latest_through h f zero none some = refl
latest_through {A} {B} h f (suc d) none some =
    ⊎_elim
    (λ (n : f (suc d) ≡ None).
    let before : h (latest f d) ≡ latest (λ e. h (f e)) d = latest_through h f d none some in
    rw (n, none, before))
    (λ (p : (x : A) × (f (suc d) ≡ Some x)).
    let q = some (suc d) p.0 p.1 in
    let r : h (Some p.0) ≡ Some q.0 = ap h (sym p.1) ∙ q.1 in
    rw (p.1, r))
    (option_cases (f (suc d)))
