-- The slots of a draft, which a plan made.
use Rattle.std.proofs.Common.{◌≡◌, ℕ, ◌+◌, ◌-◌, ◌*◌, ◌<◌, ◌≤◌, ◌&&◌, eqb, leb, List, length, get_or, Some, None, Option, arith}
use Rattle.std.proofs.lemmas.Bool.{cond_both, and_parts}
use Rattle.std.proofs.lemmas.Bool.Decides.{nat_tests}
use Rattle.std.proofs.lemmas.Int.{ints}
use Rattle.domain.specs.Limits.{periods, most_kwh}
use Rattle.std.proofs.lemmas.Nat.{mul-le}
use Rattle.domain.specs.Slots.{reading_slot}
use Rattle.domain.specs.Checks.{reading_at, slot_at}
use Rattle.domain.specs.declared.AllocationRow.{AllocationRow}
use Rattle.domain.specs.declared.Slot.{Slot}
use Rattle.domain.specs.declared.terms.Terms.{Terms}
use Rattle.rules.specs.Meaning.{Meaning, Laws}
use Rattle.rows.specs.Rows.{Tame, agreement, share_of}
use Rattle.rows.proofs.Tamed.{tame_none, tame_answered}
use Rattle.issuing.specs.declared.plan.Plan.{Plan}
use Rattle.issuing.specs.Days.{filled_before}
use Rattle.issuing.specs.Plans.{planned}
use Rattle.issuing.proofs.Periods.{days_here}

-- the laws keep a share within what a meter can count
tame_share : (m : Meaning) → Laws m → (t : Terms) (row : Option AllocationRow) (period kwh place : ℕ) → Tame (share_of m t row period kwh place)
tame_share m laws t (Some row) period kwh place = tame_answered m laws (agreement t row) (omega (arith, t.room)) period kwh place
tame_share m laws t None period kwh place =
    cond_both (leb kwh most_kwh && eqb place 0) _ _ Tame
    (λ both. let parts = and_parts (leb kwh most_kwh) (eqb place 0) both in
    let few : kwh ≤ most_kwh = grind (arith, nat_tests) in
    record { low = omega (arith, ints); high = omega (arith, ints) })
    (λ _. tame_none)

pub tame_planned : {R : Type 0} (m : Meaning) → Laws m → (p : Plan R) (period place : ℕ) → Tame (planned m p period place).volume
tame_planned m laws p period place =
    tame_share m laws p.order.terms (get_or p.sheet.now.rows (period - 1) None) period (reading_at p.order.readings.now p.order.day period).kwh place

-- a draft that was filled has the slots as they are to be
pub drafted : (t : Terms) (next : ℕ → ℕ → Slot) (blank draft : List Slot) → draft ≡ filled_before t.places next 0 periods blank → 48 * 8 ≤ length blank → (p : ℕ) → 1 ≤ p → p ≤ periods → (q : ℕ) → q < t.places → slot_at t draft 0 p q ≡ next p q
drafted t next blank draft is room p low high q l =
    let n = t.places in
    let cells : reading_slot 0 (periods + 1) * n ≤ 48 * 8 = mul-le (reading_slot 0 (periods + 1)) n 48 8 (omega arith) (omega (arith, t.few)) in
    rw is (days_here n next 0 periods blank (omega (arith, cells, room)) p q low high l)
