-- The checks of an issue, stage by stage.
use Rattle.std.proofs.Common.{◌≡◌, ℕ, ◌+◌, ◌-◌, ◌*◌, ◌<◌, ◌≤◌, Bool, not, leb, List, length, take, is_some, None, Ok, Err, Result, sym, ap, ◌∙◌, arith}
use Rattle.std.proofs.lemmas.Bool.{le-leb, lt-leb, leb-true, ltb-true, eqb-true, not-true}
use Rattle.std.proofs.lemmas.Nat.{mul-add-lt}
use Rattle.domain.specs.Limits.{periods}
use Rattle.domain.specs.Slots.{issued_slots}
use Rattle.domain.specs.Checks.{unless, and_then, is_day, readings_fit, issued_fit, reading_at, spoiled_reading, spoiled_slot}
use Rattle.domain.specs.declared.AllocationRow.{AllocationRow}
use Rattle.domain.specs.declared.Reading.{Reading}
use Rattle.domain.specs.declared.Slot.{Slot}
use Rattle.domain.specs.declared.Table.TheVariants.{Holders, Rows, Readings, Issued, Journal}
use Rattle.domain.specs.declared.Fault.{Fault}
use Rattle.domain.specs.declared.Fault.TheVariants.{ArgumentOutsideLimits, AnotherSize, Spoiled, DayClosed, ReadingMissing, HolderMissing}
use Rattle.domain.specs.declared.terms.Terms.{Terms}
use Rattle.history.specs.declared.Dated.{Dated}
use Rattle.rules.specs.Meaning.{Meaning}
use Rattle.issuing.specs.declared.Order.{Order}
use Rattle.issuing.specs.declared.Standing.{Standing}
use Rattle.issuing.specs.First.{first_where, unless_found}
use Rattle.issuing.specs.InForce.{is_ended, spoiled_holder, spoiled_row}
use Rattle.issuing.specs.Slots.{is_empty, slot_of_day}
use Rattle.issuing.specs.Sheets.{bad_holder, bad_row, HolderSpoiled, RowSpoiled}
use Rattle.issuing.specs.Issue.{is_run, supplier_on, row_on, lacks_holder, call_checked, in_force_checked, standing_checked, issue_checked}
use Rattle.issuing.specs.Granted.{Granted}
use Rattle.issuing.proofs.Chains.{past_unless, stop_unless, past_found, stop_found, unless_ok, found_ok, unless_then, found_then}
use Rattle.issuing.proofs.Firsts.{first_below}
use Rattle.issuing.proofs.Passed.{day_slot}

-- what was looked up for an order, in the table's words
module _ {R : Type 0} (m : Meaning) (o : Order R) (hs : List (Dated ℕ)) (front : hs ≡ take o.standing.holders o.holders.now) (room : o.standing.holders ≤ length o.holders.now) where
  abbrev ended : Bool
  ended = is_ended o.standing.ended o.day

  abbrev checked : Result Unit Fault
  checked = in_force_checked m o.terms o.standing o.holders.now o.rows.now o.day (Ok tt)

  bad_holder_lem : bad_holder o.terms.places hs ended o.day ≡ first_where (λ q. spoiled_holder (supplier_on o.standing o.holders.now o.day q)) o.terms.places
  bad_holder_lem = ap (λ (u : List (Dated ℕ)). bad_holder o.terms.places u ended o.day) front

  pub holder_refused : (e : Fault) → HolderSpoiled o.terms.places hs ended o.day e → Err e ≡ checked
  holder_refused e h =
      ap Err h.is ∙ sym (past_unless _ (leb o.standing.holders (length o.holders.now)) (Spoiled Holders) (le-leb _ _ room) ∙ stop_found _ _ (Spoiled Holders) (ap is_some (sym bad_holder_lem) ∙ h.found))

  module _ (none : bad_holder o.terms.places hs ended o.day ≡ None) where
    pub rows_short : length o.rows.now < o.standing.rows → (e : Fault) → e ≡ Spoiled Rows → Err e ≡ checked
    rows_short short e is =
        ap Err is ∙ sym (past_unless _ (leb o.standing.holders (length o.holders.now)) (Spoiled Holders) (le-leb _ _ room) ∙ past_found _ _ (λ _. Spoiled Holders) (sym bad_holder_lem ∙ none) ∙ stop_unless _ (leb o.standing.rows (length o.rows.now)) (Spoiled Rows) (lt-leb _ _ short))

    pub row_refused : (rs : List (Dated AllocationRow)) → rs ≡ take o.standing.rows o.rows.now → o.standing.rows ≤ length o.rows.now → (e : Fault) → RowSpoiled m o.terms rs ended o.day e → Err e ≡ checked
    row_refused rs behind space e h =
        let bad_row_lem : bad_row m o.terms rs ended o.day ≡ first_where (λ i. spoiled_row m o.terms (row_on o.standing o.rows.now o.day (i + 1))) periods = ap (λ (u : List (Dated AllocationRow)). bad_row m o.terms u ended o.day) behind in
        ap Err h.is ∙ sym (past_unless _ (leb o.standing.holders (length o.holders.now)) (Spoiled Holders) (le-leb _ _ room) ∙ past_found _ _ (λ _. Spoiled Holders) (sym bad_holder_lem ∙ none) ∙ past_unless _ (leb o.standing.rows (length o.rows.now)) (Spoiled Rows) (le-leb _ _ space) ∙ stop_found _ _ (Spoiled Rows) (ap is_some (sym bad_row_lem) ∙ h.found))

-- each stage before what comes behind it
module _ {A : Type 0} (rest : Result A Fault) where
  pub call_then : (t : Terms) (readings : List Reading) (issued : List Slot) (day run : ℕ) (r : Result Unit Fault) → call_checked t readings issued day run (and_then r (λ _. rest)) ≡ and_then (call_checked t readings issued day run r) (λ _. rest)
  call_then t readings issued day run r =
      ap (λ (x : Result A Fault). unless (is_day t day) (ArgumentOutsideLimits 1) (unless (is_run run) (ArgumentOutsideLimits 2) (unless (readings_fit t readings) (AnotherSize Readings) x))) (unless_then rest (issued_fit t issued) (AnotherSize Issued) r)
      ∙ ap (λ (x : Result A Fault). unless (is_day t day) (ArgumentOutsideLimits 1) (unless (is_run run) (ArgumentOutsideLimits 2) x)) (unless_then rest (readings_fit t readings) (AnotherSize Readings) (unless (issued_fit t issued) (AnotherSize Issued) r))
      ∙ ap (λ (x : Result A Fault). unless (is_day t day) (ArgumentOutsideLimits 1) x) (unless_then rest (is_run run) (ArgumentOutsideLimits 2) (unless (readings_fit t readings) (AnotherSize Readings) (unless (issued_fit t issued) (AnotherSize Issued) r)))
      ∙ unless_then rest (is_day t day) (ArgumentOutsideLimits 1) (unless (is_run run) (ArgumentOutsideLimits 2) (unless (readings_fit t readings) (AnotherSize Readings) (unless (issued_fit t issued) (AnotherSize Issued) r)))

  pub force_then : (m : Meaning) (t : Terms) (k : Standing) (holders : List (Dated ℕ)) (rows : List (Dated AllocationRow)) (day : ℕ) (r : Result Unit Fault) → in_force_checked m t k holders rows day (and_then r (λ _. rest)) ≡ and_then (in_force_checked m t k holders rows day r) (λ _. rest)
  force_then m t k holders rows day r =
      ap (λ (x : Result A Fault). unless (leb k.holders (length holders)) (Spoiled Holders) (unless_found (first_where (λ q. spoiled_holder (supplier_on k holders day q)) t.places) (λ _. Spoiled Holders) (unless (leb k.rows (length rows)) (Spoiled Rows) x))) (found_then rest (first_where (λ i. spoiled_row m t (row_on k rows day (i + 1))) periods) (λ _. Spoiled Rows) r)
      ∙ ap (λ (x : Result A Fault). unless (leb k.holders (length holders)) (Spoiled Holders) (unless_found (first_where (λ q. spoiled_holder (supplier_on k holders day q)) t.places) (λ _. Spoiled Holders) x)) (unless_then rest (leb k.rows (length rows)) (Spoiled Rows) (unless_found (first_where (λ i. spoiled_row m t (row_on k rows day (i + 1))) periods) (λ _. Spoiled Rows) r))
      ∙ ap (λ (x : Result A Fault). unless (leb k.holders (length holders)) (Spoiled Holders) x) (found_then rest (first_where (λ q. spoiled_holder (supplier_on k holders day q)) t.places) (λ _. Spoiled Holders) (unless (leb k.rows (length rows)) (Spoiled Rows) (unless_found (first_where (λ i. spoiled_row m t (row_on k rows day (i + 1))) periods) (λ _. Spoiled Rows) r)))
      ∙ unless_then rest (leb k.holders (length holders)) (Spoiled Holders) (unless_found (first_where (λ q. spoiled_holder (supplier_on k holders day q)) t.places) (λ _. Spoiled Holders) (unless (leb k.rows (length rows)) (Spoiled Rows) (unless_found (first_where (λ i. spoiled_row m t (row_on k rows day (i + 1))) periods) (λ _. Spoiled Rows) r)))

  pub standing_then : (k : Standing) (room day : ℕ) (r : Result Unit Fault) → standing_checked k room day (and_then r (λ _. rest)) ≡ and_then (standing_checked k room day r) (λ _. rest)
  standing_then k room day r =
      ap (λ (x : Result A Fault). unless (leb k.lines room) (Spoiled Journal) x) (unless_then rest (not k.closed) (DayClosed day) r)
      ∙ unless_then rest (leb k.lines room) (Spoiled Journal) (unless (not k.closed) (DayClosed day) r)

before : (p : ℕ) → 1 ≤ p → p - 1 + 1 ≡ p
before p h = omega arith

module _ (m : Meaning) (t : Terms) (k : Standing) (holders : List (Dated ℕ)) (rows : List (Dated AllocationRow)) (readings : List Reading) (issued : List Slot) (room day run : ℕ) where
  -- what the checks grant once they are passed
  pub granted : {A : Type 0} (rest : Result A Fault) {x : A} → issue_checked m t k holders rows readings issued room day run rest ≡ Ok x → Granted m t k holders rows readings issued room day run × (rest ≡ Ok x)
  granted rest {x} h =
      let h1 = unless_ok _ (is_day t day) (ArgumentOutsideLimits 1) h in
      let h2 = unless_ok _ (is_run run) (ArgumentOutsideLimits 2) h1.1 in
      let h3 = unless_ok _ (readings_fit t readings) (AnotherSize Readings) h2.1 in
      let h4 = unless_ok _ (issued_fit t issued) (AnotherSize Issued) h3.1 in
      let h5 = unless_ok _ (leb k.holders (length holders)) (Spoiled Holders) h4.1 in
      let h6 = found_ok _ (first_where (λ q. spoiled_holder (supplier_on k holders day q)) t.places) (λ _. Spoiled Holders) h5.1 in
      let h7 = unless_ok _ (leb k.rows (length rows)) (Spoiled Rows) h6.1 in
      let h8 = found_ok _ (first_where (λ i. spoiled_row m t (row_on k rows day (i + 1))) periods) (λ _. Spoiled Rows) h7.1 in
      let h9 = found_ok _ (first_where (λ i. spoiled_reading (reading_at readings day (i + 1))) periods) (λ _. Spoiled Readings) h8.1 in
      let h10 = found_ok _ (first_where (λ i. spoiled_slot (slot_of_day t issued day i)) (issued_slots t.places 1)) (λ _. Spoiled Issued) h9.1 in
      let h11 = unless_ok _ (leb k.lines room) (Spoiled Journal) h10.1 in
      let h12 = unless_ok _ (not k.closed) (DayClosed day) h11.1 in
      let h13 = found_ok _ (first_where (λ i. is_empty (reading_at readings day (i + 1))) periods) (λ i. ReadingMissing (i + 1)) h12.1 in
      let h14 = found_ok _ (first_where (lacks_holder k holders day) t.places) HolderMissing h13.1 in (
        record {
          is_day = ltb-true _ _ h1.0;
          in_run = h2.0;
          meter = eqb-true _ _ h3.0;
          slots = eqb-true _ _ h4.0;
          registered = leb-true _ _ h5.0;
          sound_holder = first_below _ t.places h6.0;
          scheduled = leb-true _ _ h7.0;
          sound_row = λ p low high. ap (λ (i : ℕ). spoiled_row m t (row_on k rows day i)) (sym (before p low)) ∙ first_below (λ i. spoiled_row m t (row_on k rows day (i + 1))) periods h8.0 (p - 1) (omega arith);
          sound_reading = λ p low high. ap (λ (i : ℕ). spoiled_reading (reading_at readings day i)) (sym (before p low)) ∙ first_below (λ i. spoiled_reading (reading_at readings day (i + 1))) periods h9.0 (p - 1) (omega arith);
          sound_slot = λ p q low high within. ap spoiled_slot (sym (day_slot t issued day p q low)) ∙ first_below (λ i. spoiled_slot (slot_of_day t issued day i)) (issued_slots t.places 1) h10.0 ((p - 1) * t.places + q) (omega (arith, mul-add-lt (p - 1) t.places q 48 (omega arith) within));
          journal = leb-true _ _ h11.0;
          not_closed = not-true _ h12.0;
          read = λ p low high. ap (λ (i : ℕ). is_empty (reading_at readings day i)) (sym (before p low)) ∙ first_below (λ i. is_empty (reading_at readings day (i + 1))) periods h13.0 (p - 1) (omega arith);
          held = first_below _ t.places h14.0;
        },
        h14.1,
      )
