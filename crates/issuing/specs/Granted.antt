-- What an accepted issue grants.
use Rattle.std.specs.Prelude.{◌≡◌, ℕ, ◌<◌, ◌≤◌, true, false, List, length}
use Rattle.domain.specs.Limits.{periods}
use Rattle.domain.specs.Slots.{reading_slots, issued_slots}
use Rattle.domain.specs.Checks.{spoiled_reading, spoiled_slot, reading_at, slot_at}
use Rattle.domain.specs.declared.AllocationRow.{AllocationRow}
use Rattle.domain.specs.declared.Reading.{Reading}
use Rattle.domain.specs.declared.Slot.{Slot}
use Rattle.domain.specs.declared.terms.Terms.{Terms}
use Rattle.history.specs.declared.Dated.{Dated}
use Rattle.rules.specs.Meaning.{Meaning}
use Rattle.issuing.specs.declared.Standing.{Standing}
use Rattle.issuing.specs.InForce.{spoiled_holder, spoiled_row}
use Rattle.issuing.specs.Slots.{is_empty}
use Rattle.issuing.specs.Issue.{is_run, supplier_on, row_on, lacks_holder}

-- each check of an issue, passed
pub record Granted (m : Meaning) (t : Terms) (k : Standing) (holders : List (Dated ℕ)) (rows : List (Dated AllocationRow)) (readings : List Reading) (issued : List Slot) (room day run : ℕ) : Type 0 where
  pub is_day : day < t.days
  pub in_run : is_run run ≡ true
  pub meter : length readings ≡ reading_slots t.days
  pub slots : length issued ≡ issued_slots t.places t.days
  pub registered : k.holders ≤ length holders
  pub sound_holder : (q : ℕ) → q < t.places → spoiled_holder (supplier_on k holders day q) ≡ false
  pub scheduled : k.rows ≤ length rows
  pub sound_row : (p : ℕ) → 1 ≤ p → p ≤ periods → spoiled_row m t (row_on k rows day p) ≡ false
  pub sound_reading : (p : ℕ) → 1 ≤ p → p ≤ periods → spoiled_reading (reading_at readings day p) ≡ false
  pub sound_slot : (p q : ℕ) → 1 ≤ p → p ≤ periods → q < t.places → spoiled_slot (slot_at t issued day p q) ≡ false
  pub journal : k.lines ≤ room
  pub not_closed : k.closed ≡ false
  pub read : (p : ℕ) → 1 ≤ p → p ≤ periods → is_empty (reading_at readings day p) ≡ false
  pub held : (q : ℕ) → q < t.places → lacks_holder k holders day q ≡ false
