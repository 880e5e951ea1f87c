-- What an issue answers, and that what was looked up leads to what is in force.
use Rattle.std.proofs.Common.{◌≡◌, ℕ, zero, suc, ◌+◌, ◌-◌, ◌*◌, ◌<◌, ◌≤◌, false, not, ◌&&◌, ◌||◌, eqb, leb, List, length, get_or, ℤ, pos, neg_ℤ, None, Ok, Err, Option, Result, unwrap_or, sym, refl, ap, ◌∙◌, arith}
use lib.Signed.{lt_z}
use Rattle.std.proofs.lemmas.Bool.{le-leb, lt-leb, leb-true, or_parts}
use Rattle.std.proofs.lemmas.Int.{ints}
use Rattle.std.proofs.lemmas.Nat.{mul-add-lt}
use Rattle.domain.specs.Limits.{periods, most_kwh}
use Rattle.domain.specs.Slots.{reading_slot, issued_slots}
use Rattle.domain.specs.Checks.{unless, spoiled_slot, reading_at, slot_at, is_zero}
use Rattle.domain.specs.Lines.{line_of, slot_lines}
use Rattle.domain.specs.declared.Line.{Line}
use Rattle.domain.specs.declared.AllocationRow.{AllocationRow}
use Rattle.domain.specs.declared.Reading.{Reading}
use Rattle.domain.specs.declared.Slot.{Slot}
use Rattle.domain.specs.declared.Fault.{Fault}
use Rattle.domain.specs.declared.Fault.TheVariants.{JournalTooShort}
use Rattle.domain.specs.declared.terms.Terms.{Terms}
use Rattle.history.specs.declared.Dated.{Dated}
use Rattle.rules.specs.Meaning.{Meaning}
use Rattle.rows.specs.Rows.{Tame, share_of}
use Rattle.issuing.specs.declared.Order.{Order}
use Rattle.issuing.specs.declared.Standing.{Standing}
use Rattle.issuing.specs.declared.sheet.Sheet.{Sheet}
use Rattle.issuing.specs.Posted.{filled}
use Rattle.issuing.specs.Slots.{slot_of_day, spoiled_before}
use Rattle.issuing.specs.Days.{place_lines, period_lines, lines_of, filled_before}
use Rattle.issuing.specs.Plans.{slot_by, TamePeriod}
use Rattle.issuing.specs.Known.{OnDay}
use Rattle.issuing.specs.Issue.{supplier_on, row_on, next_slot, day_lines, issued_after, issue_answer}
use Rattle.issuing.specs.Granted.{Granted}
use Rattle.issuing.proofs.Chains.{past_unless, stop_unless, unless_ok}
use Rattle.issuing.proofs.Stages.{granted}
use Rattle.issuing.proofs.Firsts.{first_below}
use Rattle.issuing.proofs.Passed.{day_slot}
use Rattle.issuing.proofs.Gathered.{gathered_same, filled_same}

-- a slot that is not spoiled holds a volume within what a meter can count
pub tame_slot : (s : Slot) → spoiled_slot s ≡ false → Tame s.volume
tame_slot s h =
    let v = s.volume in
    let bounds = or_parts _ _ (or_parts (lt_z v (neg_ℤ (pos most_kwh)) || lt_z (pos most_kwh) v) (eqb s.supplier 0 && not (is_zero v)) h).0 in
    let low : lt_z v (neg_ℤ (pos most_kwh)) ≡ false = bounds.0 in
    let high : lt_z (pos most_kwh) v ≡ false = bounds.1 in
    record { low = grind (arith, ints); high = grind (arith, ints) }

-- the same lines and slots, where each slot is to be the same
module _ (t : Terms) (f g : ℕ → ℕ → Slot) (day run : ℕ) (alike : (p q : ℕ) → 1 ≤ p → p ≤ periods → q < t.places → f p q ≡ g p q) where
  pub lines_alike : (issued : List Slot) → lines_of t issued f day run ≡ lines_of t issued g day run
  lines_alike issued =
      gathered_same (λ i. period_lines t issued f day run (i + 1) t.places) (λ i. period_lines t issued g day run (i + 1) t.places) periods (λ i h. gathered_same (place_lines t issued f day run (i + 1)) (place_lines t issued g day run (i + 1)) t.places (λ q l. ap (slot_lines (line_of day run (i + 1) q) (slot_at t issued day (i + 1) q)) (alike (i + 1) q (omega arith) (omega arith) l)))

  pub slots_alike : (m : ℕ) → m ≤ periods → (issued : List Slot) → filled_before t.places f day m issued ≡ filled_before t.places g day m issued
  unfolding filled_before
  slots_alike zero h issued = refl
  slots_alike (suc i) h issued =
      ap (filled (f (i + 1)) (reading_slot day (i + 1) * t.places) t.places) (slots_alike i (omega arith) issued) ∙ filled_same (f (i + 1)) (g (i + 1)) (reading_slot day (i + 1) * t.places) t.places (filled_before t.places g day i issued) (λ q l. alike (i + 1) q (omega arith) (omega arith) l)

-- what an accepted issue grants: each check, room for its lines, and their number
pub accepted : (m : Meaning) (t : Terms) (k : Standing) (holders : List (Dated ℕ)) (rows : List (Dated AllocationRow)) (readings : List Reading) (issued : List Slot) (room day run n : ℕ) → issue_answer m t k holders rows readings issued room day run ≡ Ok n → Granted m t k holders rows readings issued room day run × (k.lines + length (day_lines m t k holders rows readings issued day run) ≤ room) × (n ≡ length (day_lines m t k holders rows readings issued day run))
accepted m t k holders rows readings issued room day run n h =
    let g = granted m t k holders rows readings issued room day run _ h in
    let l = unless_ok _ (leb (k.lines + length (day_lines m t k holders rows readings issued day run)) room) (JournalTooShort (k.lines + length (day_lines m t k holders rows readings issued day run))) g.1 in
    (g.0, leb-true _ _ l.0, (cc))

-- an order, and what its issue answers
module _ {R : Type 0} (m : Meaning) (o : Order R) (issued : List Slot) where
  abbrev due : List Line
  due = day_lines m o.terms o.standing o.holders.now o.rows.now o.readings.now issued o.day o.run

  -- what comes behind the checks: the journal's room
  abbrev pub ending : ℕ → Result ℕ Fault
  ending room =
      unless (leb (o.standing.lines + length due) room) (JournalTooShort (o.standing.lines + length due)) (Ok (length due))

  -- where no slot of the day is spoiled, each has a volume that a meter counts
  pub tame_before : spoiled_before o.terms issued o.day (issued_slots o.terms.places 1) ≡ None → (p : ℕ) → 1 ≤ p → p ≤ periods → TamePeriod o.terms issued o.day p
  tame_before clear p low high q l =
      tame_slot _ (ap spoiled_slot (sym (day_slot o.terms issued o.day p q low)) ∙ first_below (λ i. spoiled_slot (slot_of_day o.terms issued o.day i)) (issued_slots o.terms.places 1) clear ((p - 1) * o.terms.places + q) (omega (arith, mul-add-lt (p - 1) o.terms.places q 48 (omega arith) l)))

  -- a sheet with what is in force
  module _ (sheet : Sheet) (known : OnDay m o.terms o.standing o.holders.now o.rows.now o.day sheet) where
    -- the slots as the plan has them
    abbrev next : ℕ → ℕ → Slot
    next = slot_by m o.terms sheet o.readings.now o.day

    by_sheet : (p q : ℕ) → 1 ≤ p → p ≤ periods → q < o.terms.places → next p q ≡ next_slot m o.terms o.standing o.holders.now o.rows.now o.readings.now o.day p q
    by_sheet p q low high l =
        let back : p - 1 + 1 ≡ p = omega arith in
        let row : get_or sheet.rows (p - 1) None ≡ row_on o.standing o.rows.now o.day p = known.splits (p - 1) (omega arith) ∙ ap (row_on o.standing o.rows.now o.day) back in
        let e = (reading_at o.readings.now o.day p).kwh in
        ap (λ (h : Option ℕ). slot_of (unwrap_or h 0) (share_of m o.terms (get_or sheet.rows (p - 1) None) p e q)) (known.suppliers q l) ∙ ap (λ (r : Option AllocationRow). slot_of (unwrap_or (supplier_on o.standing o.holders.now o.day q) 0) (share_of m o.terms r p e q)) row
      where
        slot_of : ℕ → ℤ → Slot
        slot_of s v = record { supplier = s; volume = v }

    pub lines_same : lines_of o.terms issued next o.day o.run ≡ due
    lines_same =
        lines_alike o.terms next (next_slot m o.terms o.standing o.holders.now o.rows.now o.readings.now o.day) o.day o.run by_sheet issued

    pub slots_same : filled_before o.terms.places next o.day periods issued ≡ issued_after m o.terms o.standing o.holders.now o.rows.now o.readings.now issued o.day
    slots_same =
        slots_alike o.terms next (next_slot m o.terms o.standing o.holders.now o.rows.now o.readings.now o.day) o.day 0 by_sheet periods (omega arith) issued

    module _ (room new : ℕ) (count : new ≡ length (lines_of o.terms issued next o.day o.run)) where
      counted : new ≡ length due
      counted = count ∙ ap length lines_same

      -- no room for the lines
      pub refused_room : room < o.standing.lines + new → Err (JournalTooShort (o.standing.lines + new)) ≡ ending room
      refused_room short =
          ap (λ (n : ℕ). Err (JournalTooShort (o.standing.lines + n))) counted ∙ sym (stop_unless _ (leb (o.standing.lines + length due) room) _ (lt-leb _ _ (rw counted at short)))

      pub sends : o.standing.lines + new ≤ room → Ok new ≡ ending room
      sends fits =
          ap Ok counted ∙ sym (past_unless _ (leb (o.standing.lines + length due) room) _ (le-leb _ _ (rw counted at fits)))
