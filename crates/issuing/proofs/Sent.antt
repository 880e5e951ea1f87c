-- One line, and the lines of one slot.
use Rattle.std.proofs.Common.{◌≡◌, ℕ, zero, suc, ◌-◌, ◌^◌, ◌≤◌, Bool, true, false, cond, not, eqb, List, [], ◌∷◌, ◌++◌, length, ℤ, pos, negsuc, ◌-ℤ◌, sym, refl, ap, ◌∙◌, arith, length-append, w32, SFits, to_z, of_z}
use mir.Val.{bool_byte}
use Rattle.std.proofs.lemmas.Int.{ints, to_z-of_z}
use Rattle.std.proofs.lemmas.Bool.{cond-true, cond-false, eq-eqb, ne_eqb}
use Rattle.domain.specs.declared.Slot.{Slot}
use Rattle.domain.specs.declared.Line.{Line}
use Rattle.domain.specs.Checks.{is_zero}
use Rattle.domain.specs.Lines.{sent, slot_lines, line_of}
use Rattle.rows.specs.Rows.{Tame}

tame_fits : (z : ℤ) → Tame z → SFits w32 z
tame_fits z m = omega (arith, ints)

less_fits : (a b : ℤ) → Tame a → Tame b → SFits w32 (a -ℤ b)
less_fits a b m n = omega (arith, ints)

zero_yes : (z : ℤ) → SFits w32 z → of_z w32 z ≡ 0 → is_zero z ≡ true
zero_yes (pos zero) f e = refl
zero_yes (pos (suc n)) f e = absurd (omega arith)
zero_yes (negsuc n) f e = absurd (omega (arith, f.sfits))

zero_no : (z : ℤ) → (of_z w32 z ≡ 0 → ⊥) → is_zero z ≡ false
zero_no (pos zero) e = absurd (e refl)
zero_no (pos (suc n)) e = refl
zero_no (negsuc n) e = refl

pub sent_none : (l : Line) → SFits w32 l.volume → of_z w32 l.volume ≡ 0 → sent l ≡ []
unfolding sent
sent_none l f e = cond-true (is_zero l.volume) [] (l ∷ []) (zero_yes l.volume f e)

pub sent_one : (l : Line) → (of_z w32 l.volume ≡ 0 → ⊥) → sent l ≡ l ∷ []
unfolding sent
sent_one l e = cond-false (is_zero l.volume) [] (l ∷ []) (zero_no l.volume e)

pub count_sent : (d r p q s : ℕ) (z : ℤ) → SFits w32 z → bool_byte (not (eqb (of_z w32 z) 0)) ≡ length (sent (line_of d r p q s z))
unfolding sent
count_sent d r p q s (pos zero) f = refl
count_sent d r p q s (pos (suc n)) f = ap (λ b. bool_byte (not b)) (ne_eqb (suc n) 0 (λ h. omega arith))
count_sent d r p q s (negsuc n) f =
    let e : eqb (2 ^ 32 - suc n) 0 ≡ false = ne_eqb (2 ^ 32 - suc n) 0 (λ h. omega (arith, f.sfits)) in
    ap (λ b. bool_byte (not b)) e

sent_most : (l : Line) → length (sent l) ≤ 1
unfolding sent
sent_most l = most (is_zero l.volume)
  where
    most : (b : Bool) → length {A = Line} (cond b [] (l ∷ [])) ≤ 1
    most true = omega arith
    most false = omega arith

-- a volume as the code holds it, to its bits and back
abbrev pub kept : ℤ → ℤ
kept z = to_z w32 (of_z w32 z)

kept_is : (z : ℤ) → Tame z → kept z ≡ z
kept_is z m = to_z-of_z w32 z (tame_fits z m)

less_bits : (a b : ℤ) → Tame a → Tame b → kept (kept a -ℤ kept b) ≡ a -ℤ b
less_bits a b m n =
    ap (λ z. kept (z -ℤ kept b)) (kept_is a m) ∙ ap (λ z. kept (a -ℤ z)) (kept_is b n) ∙ to_z-of_z w32 (a -ℤ b) (less_fits a b m n)

module _ (line : ℕ → ℤ → Line) (was next : Slot) where
  slot_same : was.supplier ≡ next.supplier → slot_lines line was next ≡ sent (line next.supplier (next.volume -ℤ was.volume))
  unfolding slot_lines
  slot_same e = cond-true _ _ _ (eq-eqb was.supplier next.supplier e)

  slot_moved : (was.supplier ≡ next.supplier → ⊥) → slot_lines line was next ≡ sent (line was.supplier (pos 0 -ℤ was.volume)) ++ sent (line next.supplier next.volume)
  unfolding slot_lines
  slot_moved e = cond-false _ _ _ (ne_eqb was.supplier next.supplier e)

  -- a slot takes at most two lines
  pub slot_most : length (slot_lines line was next) ≤ 2
  unfolding slot_lines
  slot_most = most (eqb was.supplier next.supplier)
    where
      a : List Line
      a = sent (line next.supplier (next.volume -ℤ was.volume))

      b : List Line
      b = sent (line was.supplier (pos 0 -ℤ was.volume))

      d : List Line
      d = sent (line next.supplier next.volume)

      most : (t : Bool) → length (cond t a (b ++ d)) ≤ 2
      most true = omega (arith, sent_most (line next.supplier (next.volume -ℤ was.volume)))
      most false =
          omega (arith, length-append b d, sent_most (line was.supplier (pos 0 -ℤ was.volume)), sent_most (line next.supplier next.volume))

  -- the lines as the code makes them
  pub same_bits : Tame was.volume → Tame next.volume → was.supplier ≡ next.supplier → sent (line next.supplier (kept (kept next.volume -ℤ kept was.volume))) ≡ slot_lines line was next
  same_bits k m e =
      ap (λ z. sent (line next.supplier z)) (less_bits next.volume was.volume m k) ∙ sym (slot_same e)

  pub moved_bits : Tame was.volume → Tame next.volume → (was.supplier ≡ next.supplier → ⊥) → sent (line was.supplier (kept (pos 0 -ℤ kept was.volume))) ++ sent (line next.supplier (kept next.volume)) ≡ slot_lines line was next
  moved_bits k m e =
      ap (λ z. sent (line was.supplier z) ++ sent (line next.supplier (kept next.volume))) (ap (λ z. kept (pos 0 -ℤ z)) (kept_is was.volume k) ∙ to_z-of_z w32 (pos 0 -ℤ was.volume) (omega (arith, ints)))
      ∙ ap (λ z. sent (line was.supplier (pos 0 -ℤ was.volume)) ++ sent (line next.supplier z)) (kept_is next.volume m)
      ∙ sym (slot_moved e)
