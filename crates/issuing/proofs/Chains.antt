-- Checks one after the other: what comes behind those that are passed, and the first that is not.
use Rattle.std.proofs.Common.{◌≡◌, ℕ, Bool, true, false, is_some, Some, None, Ok, Err, Option, Result, sym, refl, ap, ◌∙◌, arith}
use Rattle.domain.specs.declared.Fault.{Fault}
use Rattle.domain.specs.Checks.{unless, and_then}
use Rattle.issuing.specs.First.{unless_found}

module _ {A : Type 0} (rest : Result A Fault) where
  -- a check that is passed, and one that is not
  pub past_unless : (b : Bool) (f : Fault) → b ≡ true → unless b f rest ≡ rest
  past_unless true f h = refl
  past_unless false f h = let z : ◌≡◌ {A = ℕ} 0 1 = cc in absurd (omega arith)

  pub stop_unless : (b : Bool) (f : Fault) → b ≡ false → unless b f rest ≡ Err f
  stop_unless true f h = let z : ◌≡◌ {A = ℕ} 0 1 = cc in absurd (omega arith)
  stop_unless false f h = refl

  pub past_found : (o : Option ℕ) (f : ℕ → Fault) → o ≡ None → unless_found o f rest ≡ rest
  past_found None f h = refl
  past_found (Some i) f h = let z : ◌≡◌ {A = ℕ} 0 1 = cc in absurd (omega arith)

  pub stop_found : (o : Option ℕ) (f : Fault) → is_some o ≡ true → unless_found o (λ _. f) rest ≡ Err f
  stop_found None f h = let z : ◌≡◌ {A = ℕ} 0 1 = cc in absurd (omega arith)
  stop_found (Some i) f h = refl

  -- what an accepted call says of its checks
  pub unless_ok : (b : Bool) (f : Fault) {x : A} → unless b f rest ≡ Ok x → (b ≡ true) × (rest ≡ Ok x)
  unless_ok true f h = (refl, h)
  unless_ok false f h = let z : ◌≡◌ {A = ℕ} 0 1 = cc in absurd (omega arith)

  pub found_ok : (o : Option ℕ) (f : ℕ → Fault) {x : A} → unless_found o f rest ≡ Ok x → (o ≡ None) × (rest ≡ Ok x)
  found_ok None f h = (refl, h)
  found_ok (Some i) f h = let z : ◌≡◌ {A = ℕ} 0 1 = cc in absurd (omega arith)

  -- x are some checks by themselves, and y the same with the rest behind them
  pub past : (x : Result Unit Fault) (y : Result A Fault) → y ≡ and_then x (λ _. rest) → Ok tt ≡ x → y ≡ rest
  past x y e h = e ∙ sym (ap (λ (r : Result Unit Fault). and_then r (λ _. rest)) h)

  pub stop : (x : Result Unit Fault) (y : Result A Fault) (f : Fault) → y ≡ and_then x (λ _. rest) → Err f ≡ x → y ≡ Err f
  stop x y f e h = e ∙ sym (ap (λ (r : Result Unit Fault). and_then r (λ _. rest)) h)

  -- checks before others
  pub unless_then : (b : Bool) (f : Fault) (r : Result Unit Fault) → unless b f (and_then r (λ _. rest)) ≡ and_then (unless b f r) (λ _. rest)
  unless_then true f r = refl
  unless_then false f r = refl

  pub found_then : (o : Option ℕ) (f : ℕ → Fault) (r : Result Unit Fault) → unless_found o f (and_then r (λ _. rest)) ≡ and_then (unless_found o f r) (λ _. rest)
  found_then None f r = refl
  found_then (Some i) f r = refl
