-- No slot of a day that was issued is spoiled.
use Rattle.std.proofs.Common.{◌≡◌, ℕ, ◌<◌, ◌≤◌, Bool, true, false, cond, not, ◌&&◌, ◌||◌, eqb, leb, List, ℤ, pos, neg_ℤ, is_some, Some, None, Option, unwrap_or, ap, ◌∙◌, ⊎_elim, arith}
use lib.Signed.{lt_z}
use Rattle.std.proofs.lemmas.Int.{ints}
use Rattle.std.proofs.lemmas.Bool.Decides.{nat_tests}
use Rattle.std.proofs.lemmas.Bool.{cond_both, cond-false, or_from, and_left, and_right, and_parts, leb-true, eqb-false, cases_Bool}
use Rattle.domain.specs.Limits.{periods, most_kwh}
use Rattle.domain.specs.Checks.{spoiled_slot, reading_at, slot_at, is_zero}
use Rattle.domain.specs.declared.AllocationRow.{AllocationRow}
use Rattle.domain.specs.declared.Reading.{Reading}
use Rattle.domain.specs.declared.Slot.{Slot}
use Rattle.domain.specs.declared.terms.Terms.{Terms}
use Rattle.history.specs.declared.Dated.{Dated}
use Rattle.rules.specs.Meaning.{Meaning, Laws}
use Rattle.rows.specs.Rows.{Tame, share_of, agreement}
use Rattle.rows.proofs.Tamed.{tame_none, tame_answered}
use Rattle.issuing.specs.declared.Standing.{Standing}
use Rattle.issuing.specs.InForce.{is_ended, needs_holder, spoiled_holder}
use Rattle.issuing.specs.Issue.{row_on, next_slot, issued_after}
use Rattle.issuing.specs.Granted.{Granted}
use Rattle.issuing.proofs.After.{after_here}

-- a share is within what a meter can count
pub tame_share : (m : Meaning) → Laws m → (t : Terms) (row : Option AllocationRow) (period kwh place : ℕ) → Tame (share_of m t row period kwh place)
tame_share m laws t (Some row) period kwh place = tame_answered m laws (agreement t row) t.room period kwh place
tame_share m laws t None period kwh place =
    cond_both (leb kwh most_kwh && eqb place 0) _ _ Tame
    (λ both. let few : kwh ≤ most_kwh = leb-true kwh most_kwh (and_parts (leb kwh most_kwh) (eqb place 0) both).0 in
    record { low = omega (arith, ints); high = omega (arith, ints) })
    (λ _. tame_none)

-- a slot with such a volume, and with none where it names no supplier
pub sound_slot_lem : (s : Slot) → Tame s.volume → (s.supplier ≡ 0 → s.volume ≡ pos 0) → spoiled_slot s ≡ false
sound_slot_lem s tame none =
    let v = s.volume in
    let low : lt_z v (neg_ℤ (pos most_kwh)) ≡ false = grind (arith, ints) in
    let high : lt_z (pos most_kwh) v ≡ false = grind (arith, ints) in
    or_from (lt_z v (neg_ℤ (pos most_kwh)) || lt_z (pos most_kwh) v) (eqb s.supplier 0 && not (is_zero v)) (or_from _ _ low high) (⊎_elim
    (λ (e : eqb s.supplier 0 ≡ true). and_right (eqb s.supplier 0) (not (is_zero v)) (ap (λ (z : ℤ). not (is_zero z)) (none (grind (arith, nat_tests)))))
    (λ (e : eqb s.supplier 0 ≡ false). and_left (eqb s.supplier 0) (not (is_zero v)) e)
    (cases_Bool (eqb s.supplier 0)))

-- a place without a holder, though none is spoiled and none that is needed lacks, has no share
no_share : (m : Meaning) (t : Terms) (ended : Bool) (force : Option ℕ) (row : Option AllocationRow) (p kwh q : ℕ) → spoiled_holder (cond (needs_holder ended q) force None) ≡ false → (needs_holder ended q && not (is_some (cond (needs_holder ended q) force None))) ≡ false → unwrap_or (cond (needs_holder ended q) force None) 0 ≡ 0 → share_of m t (cond ended None row) p kwh q ≡ pos 0
no_share m t false None row p kwh q sound held none = let z : ◌≡◌ {A = ℕ} 0 1 = cc in absurd (omega arith)
no_share m t false (Some s) row p kwh q sound held none = absurd (eqb-false s 0 sound none)
no_share m t true force row p kwh q sound held none =
    ⊎_elim
    (λ (e : eqb q 0 ≡ true). absurd (needed force (rw e at sound) (rw e at held) (rw e at none)))
    (λ (e : eqb q 0 ≡ false). cond-false (leb kwh most_kwh && eqb q 0) (pos kwh) (pos 0) (and_right (leb kwh most_kwh) (eqb q 0) e))
    (cases_Bool (eqb q 0))
  where
    needed : (o : Option ℕ) → spoiled_holder o ≡ false → not (is_some o) ≡ false → unwrap_or o 0 ≡ 0 → ⊥
    needed None a b c = let z : ◌≡◌ {A = ℕ} 0 1 = cc in omega arith
    needed (Some s) a b c = eqb-false s 0 a c

module _ (m : Meaning) (t : Terms) (k : Standing) (holders : List (Dated ℕ)) (rows : List (Dated AllocationRow)) (readings : List Reading) (issued : List Slot) (room day run : ℕ) (laws : Laws m) (checks : Granted m t k holders rows readings issued room day run) where
  -- what a slot is to be is not spoiled
  pub next_sound : (p q : ℕ) → q < t.places → spoiled_slot (next_slot m t k holders rows readings day p q) ≡ false
  next_sound p q l =
      let kwh = (reading_at readings day p).kwh in
      sound_slot_lem (next_slot m t k holders rows readings day p q) (tame_share m laws t (row_on k rows day p) p kwh q) (λ none. no_share m t (is_ended k.ended day) _ _ p kwh q (checks.sound_holder q l) (checks.held q l) none)

  -- nor is any slot of the day after the issue
  pub after_sound : (p q : ℕ) → 1 ≤ p → p ≤ periods → q < t.places → spoiled_slot (slot_at t (issued_after m t k holders rows readings issued day) day p q) ≡ false
  after_sound p q low high l =
      ap spoiled_slot (after_here m t k holders rows readings issued day checks.is_day checks.slots p q low high l) ∙ next_sound p q l
