-- Spoiled slots, looked for place by place and period by period.
use Rattle.std.proofs.Common.{◌≡◌, ℕ, ◌+◌, ◌-◌, ◌*◌, ◌<◌, ◌≤◌, true, false, List, length, get_or, Some, None, Ok, Err, Option, sym, refl, ap, ◌∙◌, ⊎_elim, arith}
use Rattle.std.proofs.lemmas.Bool.{cases_lt}
use Rattle.std.proofs.lemmas.Nat.{mul-le}
use Rattle.domain.specs.Limits.{periods}
use Rattle.domain.specs.Slots.{issued_slot, issued_slots}
use Rattle.domain.specs.Checks.{slot_at, spoiled_slot, no_volume}
use Rattle.domain.specs.declared.Line.{Line}
use Rattle.domain.specs.declared.Slot.{Slot}
use Rattle.domain.specs.declared.Table.TheVariants.{Issued}
use Rattle.domain.specs.declared.Fault.{Fault}
use Rattle.domain.specs.declared.Fault.TheVariants.{Spoiled}
use Rattle.domain.specs.declared.terms.Terms.{Terms}
use Rattle.issuing.specs.First.{first_where}
use Rattle.issuing.specs.Slots.{slot_of_day, spoiled_place, spoiled_before, counted}
use Rattle.issuing.proofs.Firsts.{first_all, first_below, first_here, first_more, first_none}

-- what a count says
pub count_passed : (spoiled : Option ℕ) (ls : List Line) (n : ℕ) → Ok n ≡ counted spoiled ls → (spoiled ≡ None) × (n ≡ length ls)
count_passed None ls n h = (refl, (cc))
count_passed (Some i) ls n h = let z : ◌≡◌ {A = ℕ} 0 1 = cc in absurd (omega arith)

pub count_all : (spoiled : Option ℕ) (ls : List Line) (n : ℕ) → spoiled ≡ None → n ≡ length ls → Ok n ≡ counted spoiled ls
count_all None ls n none h = ap Ok h
count_all (Some i) ls n none h = let z : ◌≡◌ {A = ℕ} 0 1 = cc in absurd (omega arith)

-- a slot that was refused is one of those that are looked for
refused : (here all : Option ℕ) (ls more : List Line) (e : Fault) → (all ≡ None → here ≡ None) → Err e ≡ counted here ls → Err e ≡ counted all more
refused None all ls more e clear h = let z : ◌≡◌ {A = ℕ} 0 1 = cc in absurd (omega arith)
refused (Some i) None ls more e clear h = let n = clear refl in let z : ◌≡◌ {A = ℕ} 0 1 = cc in absurd (omega arith)
refused (Some i) (Some k) ls more e clear h = h

-- the slot of a place in a period is one of the day's slots
pub day_slot : (t : Terms) (issued : List Slot) (day p q : ℕ) → 1 ≤ p → slot_of_day t issued day ((p - 1) * t.places + q) ≡ slot_at t issued day p q
day_slot t issued day p q h =
    let n = t.places in
    let e : (day * 48 + 0) * n + 0 + ((p - 1) * n + q) ≡ (day * 48 + (p - 1)) * n + q = omega arith in
    ap (λ (i : ℕ). get_or issued i no_volume) e

-- a turn of the loop over the places of a period: k is where the slot stands
module _ (t : Terms) (issued : List Slot) (day p q k : ℕ) (at : k ≡ issued_slot t.places day p q) (clear : spoiled_place t issued day p q ≡ None) where
  pub place_more : spoiled_slot (get_or issued k no_volume) ≡ false → spoiled_place t issued day p (q + 1) ≡ None
  place_more good =
      first_more (λ i. spoiled_slot (slot_at t issued day p i)) q clear (ap (λ (i : ℕ). spoiled_slot (get_or issued i no_volume)) (sym at) ∙ good)

  pub place_refused : (ls : List Line) → spoiled_slot (get_or issued k no_volume) ≡ true → q < t.places → Err (Spoiled Issued) ≡ counted (spoiled_place t issued day p t.places) ls
  place_refused ls bad within =
      ap (λ (o : Option ℕ). counted o ls) (sym (first_here (λ i. spoiled_slot (slot_at t issued day p i)) q t.places clear (ap (λ (i : ℕ). spoiled_slot (get_or issued i no_volume)) (sym at) ∙ bad) within))

-- no slot stands before a day's first period
pub day_start : (t : Terms) (issued : List Slot) (day : ℕ) → spoiled_before t issued day (0 * t.places) ≡ None
day_start t issued day =
    let none : 0 * t.places ≡ 0 = omega arith in
    ap (first_where (λ i. spoiled_slot (slot_of_day t issued day i))) none ∙ first_none (λ i. spoiled_slot (slot_of_day t issued day i))

-- a turn of the loop over the periods of a day
module _ (t : Terms) (issued : List Slot) (day p : ℕ) (low : 1 ≤ p) where
  -- where no slot of the day is spoiled, none of the period is
  period_clear : (m n : ℕ) → (p - 1) * t.places + n ≤ m → spoiled_before t issued day m ≡ None → spoiled_place t issued day p n ≡ None
  period_clear m n within clear =
      first_all (λ q. spoiled_slot (slot_at t issued day p q)) n (λ q l. ap spoiled_slot (sym (day_slot t issued day p q low)) ∙ first_below (λ i. spoiled_slot (slot_of_day t issued day i)) m clear ((p - 1) * t.places + q) (omega arith))

  pub period_more : spoiled_before t issued day ((p - 1) * t.places) ≡ None → spoiled_place t issued day p t.places ≡ None → spoiled_before t issued day ((p + 1 - 1) * t.places) ≡ None
  period_more before here =
      let r = p - 1 in
      let n = t.places in
      let next : p + 1 - 1 ≡ r + 1 = omega arith in
      let m : (p + 1 - 1) * n ≡ r * n + n = ap (λ (x : ℕ). x * n) next ∙ omega arith in
      first_all (λ i. spoiled_slot (slot_of_day t issued day i)) ((p + 1 - 1) * t.places) (λ k l. ⊎_elim
      (λ (b : k < (p - 1) * t.places). first_below (λ i. spoiled_slot (slot_of_day t issued day i)) ((p - 1) * t.places) before k b)
      (λ (b : (p - 1) * t.places ≤ k).
      let q = k - (p - 1) * t.places in
      let e : k ≡ (p - 1) * t.places + q = omega arith in
      ap (λ (i : ℕ). spoiled_slot (slot_of_day t issued day i)) e ∙ ap spoiled_slot (day_slot t issued day p q low) ∙ first_below (λ i. spoiled_slot (slot_at t issued day p i)) t.places here q (omega arith))
      (cases_lt k ((p - 1) * t.places)))

  pub period_refused : p ≤ periods → (ls more : List Line) (e : Fault) → Err e ≡ counted (spoiled_place t issued day p t.places) ls → Err e ≡ counted (spoiled_before t issued day (issued_slots t.places 1)) more
  period_refused high ls more e =
      let m : (p - 1 + 1) * t.places ≤ 48 * t.places = mul-le (p - 1 + 1) t.places 48 t.places (omega arith) (omega arith) in
      refused (spoiled_place t issued day p t.places) (spoiled_before t issued day (issued_slots t.places 1)) ls more e (period_clear (issued_slots t.places 1) t.places (omega arith))
