-- Parts of a list that has fewer elements than are asked for.
use Rattle.std.proofs.Common.{◌≡◌, ℕ, zero, suc, min, List, [], ◌∷◌, take, drop, length, sym, refl, ap, ◌∙◌, arith}

take_nil : {X : Type 0} (k : ℕ) → ◌≡◌ {A = List X} (take k []) []
take_nil zero = refl
take_nil (suc k) = refl

drop_nil : {X : Type 0} (k : ℕ) → ◌≡◌ {A = List X} (drop k []) []
drop_nil zero = refl
drop_nil (suc k) = refl

-- to take more than there is, is to take all
pub take_min : {X : Type 0} (n m : ℕ) (xs : List X) → m ≡ min n (length xs) → take m xs ≡ take n xs
take_min n m [] e = take_nil m ∙ sym (take_nil n)
take_min zero m (x ∷ xs) e = let z : m ≡ 0 = omega arith in ap (λ k. take k (x ∷ xs)) z
take_min (suc n) zero (x ∷ xs) e = absurd (omega arith)
take_min (suc n) (suc m) (x ∷ xs) e = ap (λ t. x ∷ t) (take_min n m xs (omega arith))

-- and behind that nothing is left
pub drop_min : {X : Type 0} (n m : ℕ) (xs : List X) → m ≡ min n (length xs) → drop m xs ≡ drop n xs
drop_min n m [] e = drop_nil m ∙ sym (drop_nil n)
drop_min zero m (x ∷ xs) e = let z : m ≡ 0 = omega arith in ap (λ k. drop k (x ∷ xs)) z
drop_min (suc n) zero (x ∷ xs) e = absurd (omega arith)
drop_min (suc n) (suc m) (x ∷ xs) e = drop_min n m xs (omega arith)
