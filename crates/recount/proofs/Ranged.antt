-- The answer of a place is its share in the split, within the range.
use Rattle.std.proofs.Common.{◌≡◌, ℕ, ◌*◌, ◌≤◌, true, false, cond, ◌&&◌, get_or, ℤ, pos, Some, None, Option, refl, mul-le-mul_right, arith}
use Rattle.std.specs.Option.{unwrap_or}
use Rattle.std.proofs.lemmas.Bool.{cond_both}
use Rattle.rules.specs.Meaning.{Agreement, Meaning, in_range, answered}
use Rattle.recount.specs.Layers.{split}

module _ (m : Meaning) (t : Agreement) (p e i : ℕ) where
  -- no answer out of range
  pub answered_out : in_range p e ≡ false → pos 0 ≡ answered m t p e i
  answered_out out = grind arith

  -- in range the answer is the split's
  pub answered_split : (r : Option ℤ) → in_range p e ≡ true → r ≡ split m t p e i → unwrap_or r (pos 0) ≡ answered m t p e i
  answered_split r within is =
      rw (is, within) (cond_both (m.lawful t) (Some (get_or (m.shares t p e) i (pos 0))) None (λ (o : Option ℤ). unwrap_or o (pos 0) ≡ cond (m.lawful t && true) (get_or (m.shares t p e) i (pos 0)) (pos 0)) (λ h. rw h refl) (λ h. rw h refl))

-- a part of the energy e, in hundredths of a percent, is no more than all of it
pub part_le : (h e : ℕ) → h ≤ 10000 → h * e ≤ 10000 * e
part_le h e few = mul-le-mul_right e few
