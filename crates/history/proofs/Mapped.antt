-- What a map over an array gives, where the closure stays as it is.
use Rattle.std.proofs.Common.{◌≡◌, ℕ, zero, suc, ◌+◌, ◌<◌, List, get_or, sym, refl, ap, ◌∙◌, arith}
use Rattle.std.specs.Array.{MapsFrom, IsMapOf}
use Rattle.std.specs.Fn.{Called}
use denote.Param.Members.{Mut}

module _ {F A B : Type 0} (g : Mut F (A × Unit {0}) B) (f : F) (h : A → B) (gives : (x : A) (y : B) (q : F) → Called g f (x, tt) y q → (q ≡ f) × (y ≡ h x)) (xs : List A) (ys : List B) where
  -- from the index i on
  mapped_from : (i n : ℕ) (p : F) → p ≡ f → MapsFrom g p xs ys i n → (k : ℕ) → k < n → (d : A) (e : B) → get_or ys (i + k) e ≡ h (get_or xs (i + k) d)
  mapped_from i zero p same calls k within d e = absurd (omega arith)
  mapped_from i (suc n) p same (q, x, y, at, made, call, calls) zero within d e =
      let now : Called g f (x, tt) y q = rw same at call in
      let start : i + 0 ≡ i = omega arith in
      ap (λ (j : ℕ). get_or ys j e) start ∙ made.1 e ∙ (gives x y q now).1 ∙ ap h (sym (ap (λ (j : ℕ). get_or xs j d) start ∙ at.1 d))
  mapped_from i (suc n) p same (q, x, y, at, made, call, calls) (suc k) within d e =
      let now : Called g f (x, tt) y q = rw same at call in
      let next : i + suc k ≡ i + 1 + k = omega arith in
      ap (λ (j : ℕ). get_or ys j e) next ∙ mapped_from (i + 1) n q (gives x y q now).0 calls k (omega arith) d e ∙ ap h (sym (ap (λ (j : ℕ). get_or xs j d) next))

  -- the element at an index is the closure's answer
  pub mapped_at : (n : ℕ) → IsMapOf g f xs ys n → (k : ℕ) → k < n → (d : A) (e : B) → get_or ys k e ≡ h (get_or xs k d)
  mapped_at n made k within d e =
      let start : 0 + k ≡ k = omega arith in
      ap (λ (j : ℕ). get_or ys j e) (sym start) ∙ mapped_from 0 n f refl made.each k within d e ∙ ap (λ (j : ℕ). h (get_or xs j d)) start
