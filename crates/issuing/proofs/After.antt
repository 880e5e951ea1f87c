-- What the slots hold after a day is issued: that day's what they are to be, and the others what they held.
use Rattle.std.proofs.Common.{◌≡◌, ℕ, zero, suc, ◌+◌, ◌*◌, ◌<◌, ◌≤◌, List, ◌++◌, length, take, drop, sym, refl, ap, ◌∙◌, ⊎_elim, arith, length-append, length-drop}
use Rattle.std.proofs.lemmas.List.{append_assoc, take_at, length-take-le}
use Rattle.std.proofs.lemmas.Nat.{mul-le, mul-add-lt}
use Rattle.std.proofs.lemmas.Bool.{cases_lt}
use Rattle.domain.specs.Limits.{periods}
use Rattle.domain.specs.Slots.{reading_slot, issued_slot, issued_slots}
use Rattle.domain.specs.Checks.{slot_at, no_volume}
use Rattle.domain.specs.declared.AllocationRow.{AllocationRow}
use Rattle.domain.specs.declared.Reading.{Reading}
use Rattle.domain.specs.declared.Slot.{Slot}
use Rattle.domain.specs.declared.Line.{Line}
use Rattle.domain.specs.declared.terms.Terms.{Terms}
use Rattle.history.specs.declared.Dated.{Dated}
use Rattle.rules.specs.Meaning.{Meaning}
use Rattle.issuing.specs.declared.Standing.{Standing}
use Rattle.issuing.specs.Posted.{posted}
use Rattle.issuing.specs.Days.{filled_before}
use Rattle.issuing.specs.Issue.{next_slot, issued_after}
use Rattle.issuing.proofs.Gathered.{get_or_filled_above, get_or_filled_below}
use Rattle.issuing.proofs.Periods.{length_days, days_here}

-- the journal's front, with the new lines behind it
pub take-posted : (j : List Line) (at : ℕ) (ls : List Line) → at ≤ length j → take (at + length ls) (posted j at ls) ≡ take at j ++ ls
unfolding posted
take-posted j at ls h =
    ap (take (at + length ls)) (sym (append_assoc (take at j) ls (drop (at + length ls) j))) ∙ take_at (take at j ++ ls) (drop (at + length ls) j) (at + length ls) (length-append (take at j) ls ∙ ap (λ (n : ℕ). n + length ls) (length-take-le at j h))

pub length-posted : (j : List Line) (at : ℕ) (ls : List Line) → at + length ls ≤ length j → length (posted j at ls) ≡ length j
unfolding posted
length-posted j at ls h =
    omega (arith, length-append (take at j) (ls ++ drop (at + length ls) j), length-append ls (drop (at + length ls) j), length-take-le at j (omega arith), length-drop (at + length ls) j)

module _ (t : Terms) (next : ℕ → ℕ → Slot) (day : ℕ) (issued : List Slot) where
  here : day < t.days → length issued ≡ issued_slots t.places t.days → (m : ℕ) → m ≤ periods → (p q : ℕ) → 1 ≤ p → p ≤ m → q < t.places → slot_at t (filled_before t.places next day m issued) day p q ≡ next p q
  here within size m most p q low high l =
      let n = t.places in
      let rows : reading_slot day (m + 1) * n ≤ (t.days * 48) * n = mul-le (reading_slot day (m + 1)) n (t.days * 48) n (omega arith) (omega arith) in
      days_here n next day m issued (omega (arith, rows, size)) p q low high l

  other : (m : ℕ) → m ≤ periods → (d p q : ℕ) → (d ≡ day → ⊥) → 1 ≤ p → p ≤ periods → q < t.places → slot_at t (filled_before t.places next day m issued) d p q ≡ slot_at t issued d p q
  unfolding filled_before
  other zero most d p q apart low high l = refl
  other (suc i) most d p q apart low high l =
      let n = t.places in
      let r = reading_slot day (i + 1) in
      let u = filled_before n next day i issued in
      ⊎_elim
      (λ (b : d < day). get_or_filled_below (next (i + 1)) (r * n) n u (issued_slot n d p q) no_volume (omega (arith, mul-add-lt (reading_slot d p) n q r (omega arith) l)))
      (λ (b : day ≤ d). get_or_filled_above (next (i + 1)) (r * n) n u (issued_slot n d p q) no_volume (omega (arith, mul-le (r + 1) n (reading_slot d p) n (omega (arith, apart)) (omega arith))))
      (cases_lt d day)
      ∙ other i (omega arith) d p q apart low high l

module _ (m : Meaning) (t : Terms) (k : Standing) (holders : List (Dated ℕ)) (rows : List (Dated AllocationRow)) (readings : List Reading) (issued : List Slot) (day : ℕ) where
  -- the day's slots are what they are to be
  pub after_here : day < t.days → length issued ≡ issued_slots t.places t.days → (p q : ℕ) → 1 ≤ p → p ≤ periods → q < t.places → slot_at t (issued_after m t k holders rows readings issued day) day p q ≡ next_slot m t k holders rows readings day p q
  after_here within size p q low high l =
      here t (next_slot m t k holders rows readings day) day issued within size periods (omega arith) p q low high l

  -- the slots of another day are as they were
  pub after_other : (d p q : ℕ) → (d ≡ day → ⊥) → 1 ≤ p → p ≤ periods → q < t.places → slot_at t (issued_after m t k holders rows readings issued day) d p q ≡ slot_at t issued d p q
  after_other d p q apart low high l =
      other t (next_slot m t k holders rows readings day) day issued periods (omega arith) d p q apart low high l

  -- the table keeps its size
  pub length-after : length (issued_after m t k holders rows readings issued day) ≡ length issued
  length-after = length_days t.places (next_slot m t k holders rows readings day) day periods issued
