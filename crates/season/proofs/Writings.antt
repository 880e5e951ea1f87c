-- An accepted issue writes into the tables what the plain book writes down.
use Rattle.std.proofs.Common.{◌≡◌, ℕ, suc, ◌-◌, ◌<◌, ◌≤◌, Bool, true, false, cond, not, ◌&&◌, ◌||◌, eqb, leb, [], length, get_or, take, drop, ℤ, pos, is_some, Some, None, Option, unwrap_or, sym, refl, ap, ◌∙◌, ⊎_elim, add-one, arith}
use Rattle.std.proofs.lemmas.Option.{slice_get-get_or}
use Rattle.std.proofs.lemmas.Bool.{cond-true, le-leb, and_from, and_parts, not-false, both_ways, eq-eqb, lt-ltb, or_left, or_right, cases_Bool}
use Rattle.std.proofs.lemmas.Bool.Decides.{nat_tests}
use Rattle.domain.specs.Limits.{periods, most_kwh}
use Rattle.domain.specs.Checks.{is_day, is_period, reading_at, slot_at}
use Rattle.domain.specs.Lines.{line_of, slot_lines}
use Rattle.domain.specs.declared.AllocationRow.{AllocationRow}
use Rattle.domain.specs.declared.Reading.{Reading}
use Rattle.domain.specs.declared.Slot.{Slot}
use Rattle.domain.specs.declared.terms.Terms.{Terms}
use Rattle.rules.specs.Meaning.{Meaning, in_range}
use Rattle.rows.specs.Rows.{agreement, allowed, share_of, zeros}
use Rattle.history.specs.Latest.{latest}
use Rattle.history.specs.Entries.{in_force, entry_at}
use Rattle.history.proofs.Keyed.{in_force_agrees}
use Rattle.history.proofs.Latests.{latest_through}
use Rattle.issuing.specs.declared.Standing.{Standing}
use Rattle.issuing.specs.InForce as force
use Rattle.issuing.specs.Slots.{is_empty}
use Rattle.issuing.specs.InForce.{spoiled_row}
use Rattle.issuing.specs.Issue.{supplier_on, row_on, next_slot, day_lines, lacks_holder}
use Rattle.issuing.specs.Granted.{Granted}
use Rattle.issuing.proofs.Gathered.{gathered_same}
use Rattle.book.specs.Issues.{standing_of}
use Rattle.season.specs.Plain.{Plain, has_ended, holds, row_of, in_use, shares_of, writes, slot_of, issue_lines}
use Rattle.season.specs.Granted.{Ready}
use Rattle.season.specs.Steps.{State}
use Rattle.season.proofs.Agrees.{Agrees, ReadAs, slot_below}

-- the two ways to say who needs a holder
who_needs : (e z : Bool) (x : Option ℕ) → cond (not e || z) x None ≡ cond (e && not z) None x
who_needs true true x = refl
who_needs true false x = refl
who_needs false true x = refl
who_needs false false x = refl

same_end : (o : Option ℕ) (day : ℕ) → force.is_ended o day ≡ has_ended o day
same_end None day = refl
same_end (Some end) day = refl

-- a slot that is not empty holds the kWh that were read
read_kwh : (r : Reading) (o : Option ℕ) → ReadAs r o → is_empty r ≡ false → r.kwh ≡ unwrap_or o 0
read_kwh r None q some = absurd (both_ways (eqb r.quality 0) some (eq-eqb r.quality 0 q))
read_kwh r (Some kwh) e some = e

-- the answer of a rule that allows the row is the meaning's share
share_is : (t : Terms) (m : Meaning) (row : Option AllocationRow) (period kwh place : ℕ) → is_period period ≡ true → kwh ≤ most_kwh → spoiled_row m t row ≡ false → share_of m t row period kwh place ≡ shares_of t m row period kwh place
share_is t m None period kwh place within few sound = ap (λ (c : Bool). cond (c && eqb place 0) (pos kwh) (pos 0)) (le-leb kwh most_kwh few)
share_is t m (Some row) period kwh place within few sound =
    let lawful = (and_parts (m.lawful (agreement t row)) _ (not-false (allowed m t row) sound)).0 in
    let range : in_range period kwh ≡ true = grind (arith, nat_tests) in
    cond-true (m.lawful (agreement t row) && in_range period kwh) (get_or (m.shares (agreement t row) period kwh) place (pos 0)) (pos 0) (and_from (m.lawful (agreement t row)) (in_range period kwh) lawful range)

-- the periods of a day are those from 1 to 48
period_of : (i : ℕ) → i < periods → is_period (suc i) ≡ true
period_of i here = and_from (leb 1 (suc i)) (leb (suc i) periods) (le-leb 1 (suc i) (omega arith)) (le-leb (suc i) periods (omega arith))

abbrev no_row : AllocationRow
no_row = record { method = 0; balance = 0; nominations = [] }

abbrev slot_with : ℕ → ℤ → Slot
slot_with s v = record { supplier = s; volume = v }

module _ (t : Terms) (m : Meaning) (st : State) (b : Plain) (h : Agrees t st b) (day run : ℕ) (g : Granted m t (standing_of st.kept day) st.holders st.rows st.readings st.issued (length st.journal) day run) where
  abbrev k : Standing
  k = standing_of st.kept day

  ends : force.is_ended st.kept.ended day ≡ has_ended b.ended day
  ends = ap (λ (o : Option ℕ). force.is_ended o day) h.ended ∙ same_end b.ended day

  -- the holder in force is the plain book's
  holder_is : (q : ℕ) → supplier_on k st.holders day q ≡ holds b day q
  holder_is q =
      let hs = take st.kept.holders st.holders in
      let found = in_force_agrees hs b.registered q day (λ e _. h.registered q e) in
      ap (λ (e : Bool). cond (not e || eqb q 0) (entry_at hs (in_force hs q day)) None) ends
      ∙ ap (λ (o : Option ℕ). cond (not (has_ended b.ended day) || eqb q 0) o None) found
      ∙ who_needs (has_ended b.ended day) (eqb q 0) (latest (b.registered q) day)

  -- so is the row
  row_is : (p : ℕ) → is_period p ≡ true → row_on k st.rows day p ≡ in_use b day p
  row_is p within =
      let rs = take st.kept.rows st.rows in
      let found = in_force_agrees rs (λ s e. row_of s (b.scheduled e)) p day (λ e _. h.scheduled p e within) in
      let through = latest_through (row_of p) b.scheduled day refl (λ e xs said. (get_or xs (p - 1) no_row, ap (row_of p) said ∙ slice_get-get_or xs (p - 1) no_row (slot_below p (length xs) (h.full e xs said) within))) in
      ap (λ (e : Bool). cond e None (entry_at rs (in_force rs p day))) ends
      ∙ ap (λ (o : Option AllocationRow). cond (has_ended b.ended day) None o) (found ∙ sym through)

  least : (p : ℕ) → is_period p ≡ true → 1 ≤ p
  least p within = grind (arith, nat_tests)

  most : (p : ℕ) → is_period p ≡ true → p ≤ periods
  most p within = grind (arith, nat_tests)

  this_day : is_day t day ≡ true
  this_day = lt-ltb day t.days g.is_day

  -- and the kWh
  pub kwh_is : (p : ℕ) → is_period p ≡ true → (reading_at st.readings day p).kwh ≡ unwrap_or (b.read day p) 0
  kwh_is p within = read_kwh (reading_at st.readings day p) (b.read day p) (h.read day p this_day within) (g.read p (least p within) (most p within))

  -- which a meter can count
  few : (p : ℕ) → is_period p ≡ true → (reading_at st.readings day p).kwh ≤ most_kwh
  few p within = let sound = g.sound_reading p (least p within) (most p within) in grind (arith, nat_tests)

  -- so each slot is to hold what the plain book writes down
  pub next_is : (p : ℕ) → is_period p ≡ true → (q : ℕ) → next_slot m t k st.holders st.rows st.readings day p q ≡ slot_of (Some (writes t m b day p)) q
  next_is p within q =
      let kwh = (reading_at st.readings day p).kwh in
      let row = row_on k st.rows day p in
      let share : share_of m t row p kwh q ≡ shares_of t m (in_use b day p) p (unwrap_or (b.read day p) 0) q =
      share_is t m row p kwh q within (few p within) (g.sound_row p (least p within) (most p within))
      ∙ ap (λ (r : Option AllocationRow). shares_of t m r p kwh q) (row_is p within)
      ∙ ap (λ (e : ℕ). shares_of t m (in_use b day p) p e q) (kwh_is p within) in
      ap (λ (o : Option ℕ). slot_with (unwrap_or o 0) (share_of m t row p kwh q)) (holder_is q)
      ∙ ap (λ (z : ℤ). slot_with (unwrap_or (holds b day q) 0) z) share

  -- and the lines are the plain book's
  pub lines_are : day_lines m t k st.holders st.rows st.readings st.issued day run ≡ issue_lines t m b day run
  lines_are =
      gathered_same _ _ periods (λ i here.
      let within = period_of i here in
      gathered_same _ _ t.places (λ q there.
      ap (λ (p : ℕ). slot_lines (line_of day run p q) (slot_at t st.issued day p q) (next_slot m t k st.holders st.rows st.readings day p q)) (add-one i)
      ∙ ap (λ (s : Slot). slot_lines (line_of day run (suc i) q) s (next_slot m t k st.holders st.rows st.readings day (suc i) q)) (h.slots day (suc i) q this_day within there)
      ∙ ap (λ (s : Slot). slot_lines (line_of day run (suc i) q) (slot_of (b.written day (suc i)) q) s) (next_is (suc i) within q)))

  -- a place needs a holder, and from the end day on place 0 does
  needs : (q : ℕ) → (has_ended b.ended day ≡ true → q ≡ 0) → force.needs_holder (force.is_ended st.kept.ended day) q ≡ true
  needs q first =
      ⊎_elim
      (λ (e : has_ended b.ended day ≡ true). or_right (not (force.is_ended st.kept.ended day)) (eqb q 0) (eq-eqb q 0 (first e)))
      (λ (e : has_ended b.ended day ≡ false). or_left (not (force.is_ended st.kept.ended day)) (eqb q 0) (ap not (ends ∙ e)))
      (cases_Bool (has_ended b.ended day))

  -- each period can be split
  pub ready : (p : ℕ) → is_period p ≡ true → Ready t m b day p
  ready p within = record {
    counted = let same = kwh_is p within in omega (arith, few p within);
    lawful = λ row used.
        let sound : spoiled_row m t (Some row) ≡ false = sym (ap (spoiled_row m t) (row_is p within ∙ used)) ∙ g.sound_row p (least p within) (most p within) in
        (and_parts (m.lawful (agreement t row)) (zeros (drop t.places row.nominations)) (not-false (allowed m t row) sound)).0;
    held = λ q here ended none.
        let lacks : lacks_holder k st.holders day q ≡ true = and_from (force.needs_holder (force.is_ended st.kept.ended day) q) (not (is_some (supplier_on k st.holders day q))) (needs q ended) (ap (λ (o : Option ℕ). not (is_some o)) (holder_is q ∙ none)) in
        both_ways (lacks_holder k st.holders day q) (g.held q here) lacks;
  }
