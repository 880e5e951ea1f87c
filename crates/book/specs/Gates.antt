-- The gate's minute itself is still in time, and any later one is not.
use Rattle.std.specs.Prelude.{◌≡◌, ℕ, ◌<◌, ◌≤◌, true, List, length, Some, None, Ok, Err}
use Rattle.domain.specs.Limits.{periods}
use Rattle.domain.specs.Slots.{gate}
use Rattle.domain.specs.Checks.{is_day, is_supplier}
use Rattle.domain.specs.declared.Fault.TheVariants.{AfterGate}
use Rattle.domain.specs.declared.AllocationRow.{AllocationRow}
use Rattle.domain.specs.declared.terms.Terms.{Terms}
use Rattle.history.specs.declared.Dated.{Dated}
use Rattle.rules.specs.Meaning.{Meaning}
use Rattle.book.specs.Kept.{Kept}
use Rattle.book.specs.Sharing.{primary_on, end_answer, rows_allowed, schedule_admit}

-- the minute of the gate is in time, and no later one is
pub record GateKept : Type 0 where
  -- who holds place 0 that day may still end the sharing at the gate
  pub end_at_gate : (t : Terms) (k : Kept) (holders : List (Dated ℕ)) (sender day : ℕ) → is_supplier sender ≡ true → is_day t day ≡ true → primary_on k holders day ≡ Ok (Some sender) → k.ended ≡ None → end_answer t k holders sender day (gate day) ≡ Ok tt
  -- after it nobody may
  pub end_late : (t : Terms) (k : Kept) (holders : List (Dated ℕ)) (sender day moment : ℕ) → is_supplier sender ≡ true → is_day t day ≡ true → gate day < moment → end_answer t k holders sender day moment ≡ Err (AfterGate (gate day))
  -- the same of a day's rows, where the rule allows them
  pub schedule_at_gate : (m : Meaning) (t : Terms) (k : Kept) (holders : List (Dated ℕ)) (rows : List (Dated AllocationRow)) (sender day : ℕ) (schedule : List AllocationRow) → is_supplier sender ≡ true → is_day t day ≡ true → length schedule ≡ periods → rows_allowed m t 1 schedule ≡ Ok tt → primary_on k holders day ≡ Ok (Some sender) → k.rows ≤ length rows → k.ended ≡ None → schedule_admit m t k holders rows sender day (gate day) schedule ≡ Ok tt
  -- after it no rows are accepted
  pub schedule_late : (m : Meaning) (t : Terms) (k : Kept) (holders : List (Dated ℕ)) (rows : List (Dated AllocationRow)) (sender day moment : ℕ) (schedule : List AllocationRow) → is_supplier sender ≡ true → is_day t day ≡ true → length schedule ≡ periods → rows_allowed m t 1 schedule ≡ Ok tt → gate day < moment → schedule_admit m t k holders rows sender day moment schedule ≡ Err (AfterGate (gate day))
