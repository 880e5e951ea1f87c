-- Sums below a number, and sums of the lines that a test picks.
use Rattle.std.proofs.Common.{◌≡◌, ℕ, zero, suc, ◌<◌, Bool, true, false, cond, List, [], ◌∷◌, ◌++◌, ℤ, pos, negsuc, ◌+ℤ◌, ◌-ℤ◌, sym, refl, ap, ◌∙◌, ⊎_elim, arith}
use lib.IntN.{+ℤ_idl, +ℤ_idr, +ℤ_assoc}
use Rattle.std.proofs.lemmas.Int.{ints}
use Rattle.std.proofs.lemmas.Bool.{cond-true, cond-false, eq-eqb, ne_eqb, cases_eq}
use Rattle.domain.specs.Checks.{is_zero}
use Rattle.domain.specs.Lines.{line_of, sent, slot_lines, gathered}
use Rattle.domain.specs.declared.Slot.{Slot}
use Rattle.domain.specs.declared.Line.{Line}
use Rattle.season.specs.Law.{sum_of}
use Rattle.season.specs.Sound.{sum_below}

-- the same values have the same sum
pub below_same : (f g : ℕ → ℤ) (n : ℕ) → ((k : ℕ) → k < n → f k ≡ g k) → sum_below f n ≡ sum_below g n
unfolding sum_below
below_same f g zero h = refl
below_same f g (suc n) h =
    ap (λ z. z +ℤ f n) (below_same f g n (λ k l. h k (omega arith))) ∙ ap (λ z. sum_below g n +ℤ z) (h n (omega arith))

swapped : (a b c d : ℤ) → (a +ℤ b) +ℤ (c +ℤ d) ≡ (a +ℤ c) +ℤ (b +ℤ d)
swapped a b c d = omega (arith, ints)

-- two sums are the sum of both
pub below_add : (f g : ℕ → ℤ) (n : ℕ) → sum_below f n +ℤ sum_below g n ≡ sum_below (λ k. f k +ℤ g k) n
unfolding sum_below
below_add f g zero = refl
below_add f g (suc n) =
    swapped (sum_below f n) (f n) (sum_below g n) (g n) ∙ ap (λ z. z +ℤ (f n +ℤ g n)) (below_add f g n)

-- zeros add up to zero
pub below_none : (f : ℕ → ℤ) (n : ℕ) → ((k : ℕ) → k < n → f k ≡ pos 0) → sum_below f n ≡ pos 0
unfolding sum_below
below_none f zero h = refl
below_none f (suc n) h =
    ap (λ z. z +ℤ f n) (below_none f n (λ k l. h k (omega arith))) ∙ ap (λ z. pos 0 +ℤ z) (h n (omega arith))

-- where all others are zero, one counts
pub below_one : (f : ℕ → ℤ) (n i : ℕ) → i < n → ((k : ℕ) → (k ≡ i → ⊥) → f k ≡ pos 0) → sum_below f n ≡ f i
unfolding sum_below
below_one f zero i l h = absurd (omega arith)
below_one f (suc n) i l h =
    ⊎_elim
    (λ (e : i ≡ n). ap (λ z. z +ℤ f n) (below_none f n (λ k b. h k (λ x. omega arith))) ∙ +ℤ_idl (f n) ∙ sym (ap f e))
    (λ (e : i ≡ n → ⊥). ap (λ z. sum_below f n +ℤ z) (h n (λ x. e (sym x))) ∙ +ℤ_idr (sum_below f n) ∙ below_one f n i (omega arith) h)
    (cases_eq i n)

-- the first value apart
pub below_front : (f : ℕ → ℤ) (n : ℕ) → sum_below f (suc n) ≡ f 0 +ℤ sum_below (λ k. f (suc k)) n
unfolding sum_below
below_front f zero = +ℤ_idl (f 0) ∙ sym (+ℤ_idr (f 0))
below_front f (suc n) =
    ap (λ z. z +ℤ f (suc n)) (below_front f n) ∙ +ℤ_assoc (f 0) (sum_below (λ k. f (suc k)) n) (f (suc n))

-- lines one after the other
pub sum_append : (picks : Line → Bool) (xs ys : List Line) → sum_of picks (xs ++ ys) ≡ sum_of picks xs +ℤ sum_of picks ys
unfolding sum_of
sum_append picks [] ys = sym (+ℤ_idl (sum_of picks ys))
sum_append picks (l ∷ xs) ys =
    ap (λ z. cond (picks l) l.volume (pos 0) +ℤ z) (sum_append picks xs ys)
    ∙ sym (+ℤ_assoc (cond (picks l) l.volume (pos 0)) (sum_of picks xs) (sum_of picks ys))

-- gathered lines, part by part
pub sum_gathered : (picks : Line → Bool) (f : ℕ → List Line) (n : ℕ) → sum_of picks (gathered f n) ≡ sum_below (λ k. sum_of picks (f k)) n
unfolding gathered sum_below sum_of
sum_gathered picks f zero = refl
sum_gathered picks f (suc n) =
    sum_append picks (gathered f n) (f n) ∙ ap (λ z. z +ℤ sum_of picks (f n)) (sum_gathered picks f n)

-- either way the same
pub cond_same : {A : Type 0} (b : Bool) (x : A) → cond b x x ≡ x
cond_same true x = refl
cond_same false x = refl

sent_by : (picks : Line → Bool) (l : Line) (z : ℤ) → l.volume ≡ z → sum_of picks (cond (is_zero z) [] (l ∷ [])) ≡ cond (picks l) z (pos 0)
unfolding sum_of
sent_by picks l (pos zero) e = sym (cond_same (picks l) (pos 0))
sent_by picks l (pos (suc n)) e = +ℤ_idr (cond (picks l) l.volume (pos 0)) ∙ ap (λ z. cond (picks l) z (pos 0)) e
sent_by picks l (negsuc n) e = +ℤ_idr (cond (picks l) l.volume (pos 0)) ∙ ap (λ z. cond (picks l) z (pos 0)) e

-- a line counts the same whether or not one of 0 is sent
sum_sent : (picks : Line → Bool) (l : Line) → sum_of picks (sent l) ≡ cond (picks l) l.volume (pos 0)
unfolding sent
sum_sent picks l = sent_by picks l l.volume refl

same_sum : (b : Bool) (v w : ℤ) → cond b (w -ℤ v) (pos 0) +ℤ cond b v (pos 0) ≡ cond b w (pos 0)
same_sum true v w = omega (arith, ints)
same_sum false v w = refl

moved_sum : (a b : Bool) (v w : ℤ) → (cond a (pos 0 -ℤ v) (pos 0) +ℤ cond b w (pos 0)) +ℤ cond a v (pos 0) ≡ cond b w (pos 0)
moved_sum true b v w = let z = cond b w (pos 0) in omega (arith, ints)
moved_sum false b v w = let z = cond b w (pos 0) in omega (arith, ints)

-- what a slot has for the suppliers that q picks
abbrev pub counted : (ℕ → Bool) → Slot → ℤ
counted q s = cond (q s.supplier) s.volume (pos 0)

-- the lines of one place, of which the test picks those of the suppliers that q picks
module _ (picks : Line → Bool) (q : ℕ → Bool) (day run period place : ℕ) (by : (s : ℕ) (z : ℤ) → picks (line_of day run period place s z) ≡ q s) where
  sum_line : (s : ℕ) (z : ℤ) → sum_of picks (sent (line_of day run period place s z)) ≡ cond (q s) z (pos 0)
  sum_line s z = sum_sent picks (line_of day run period place s z) ∙ ap (λ b. cond b z (pos 0)) (by s z)

  -- they lead from what the slot had to what it has
  pub sum_slot : (was is : Slot) → sum_of picks (slot_lines (line_of day run period place) was is) +ℤ counted q was ≡ counted q is
  unfolding slot_lines
  sum_slot was is =
      ⊎_elim
      (λ (e : was.supplier ≡ is.supplier).
      ap (λ ls. sum_of picks ls +ℤ counted q was) (cond-true _ _ _ (eq-eqb was.supplier is.supplier e))
      ∙ ap (λ z. z +ℤ counted q was) (sum_line is.supplier (is.volume -ℤ was.volume))
      ∙ ap (λ s. cond (q is.supplier) (is.volume -ℤ was.volume) (pos 0) +ℤ cond (q s) was.volume (pos 0)) e
      ∙ same_sum (q is.supplier) was.volume is.volume)
      (λ (e : was.supplier ≡ is.supplier → ⊥).
      ap (λ ls. sum_of picks ls +ℤ counted q was) (cond-false _ _ _ (ne_eqb was.supplier is.supplier e))
      ∙ ap (λ z. z +ℤ counted q was)
      (sum_append picks (sent (line_of day run period place was.supplier (pos 0 -ℤ was.volume))) (sent (line_of day run period place is.supplier is.volume))
      ∙ ap (λ z. z +ℤ sum_of picks (sent (line_of day run period place is.supplier is.volume))) (sum_line was.supplier (pos 0 -ℤ was.volume))
      ∙ ap (λ z. cond (q was.supplier) (pos 0 -ℤ was.volume) (pos 0) +ℤ z) (sum_line is.supplier is.volume))
      ∙ moved_sum (q was.supplier) (q is.supplier) was.volume is.volume)
      (cases_eq was.supplier is.supplier)
