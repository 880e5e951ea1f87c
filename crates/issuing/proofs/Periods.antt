-- The lines and slots of a day, place by place and period by period.
use Rattle.std.proofs.Common.{◌≡◌, subst, sym, ◌-◌, ℕ, zero, suc, ◌+◌, ◌*◌, ◌<◌, ◌≤◌, List, length, get_or, set, Ok, Option, refl, ap, ◌∙◌, ⊎_elim, arith, w64, Fits}
use Rattle.std.proofs.lemmas.Nat.{mul-le, mul-add-lt}
use Rattle.std.proofs.lemmas.Bool.{cases_eq}
use Rattle.domain.specs.Slots.{reading_slot, issued_slot}
use Rattle.domain.specs.Checks.{slot_at, no_volume}
use Rattle.domain.specs.Limits.{periods}
use Rattle.domain.specs.Lines.{line_of, slot_lines, gathered}
use Rattle.domain.specs.declared.Line.{Line}
use Rattle.domain.specs.declared.Slot.{Slot}
use Rattle.domain.specs.declared.terms.Terms.{Terms}
use Rattle.rows.specs.Rows.{Tame}
use Rattle.issuing.specs.Posted.{posted, filled}
use Rattle.issuing.specs.Slots.{counted}
use Rattle.issuing.specs.Days.{place_lines, period_lines, lines_before, lines_of, filled_before}
use Rattle.issuing.proofs.Gathered.{length_gathered_more, gathered_most, gathered_same, filled_more, length-filled, get_or-filled, get_or_filled_above, get_or_filled_below, turn_count, turn_room, turn_end, turn_journal}
use Rattle.issuing.proofs.Passed.{count_passed}
use Rattle.issuing.proofs.Sent.{slot_most}

module _ (t : Terms) (next : ℕ → ℕ → Slot) (day run : ℕ) where
  -- one place of a period: k is where its slot stands, new what it is to be
  module _ (issued : List Slot) (p q k : ℕ) (new : Slot) (at : k ≡ issued_slot t.places day p q) (is : new ≡ next p q) where
    pub count_step : (n r : ℕ) → n ≡ length (period_lines t issued next day run p q) → r ≡ length (slot_lines (line_of day run p q) (get_or issued k no_volume) new) → n + r ≡ length (period_lines t issued next day run p (q + 1))
    count_step n r e h =
        omega (arith, e, h ∙ ap (λ (i : ℕ). length (slot_lines (line_of day run p q) (get_or issued i no_volume) new)) at ∙ ap (λ (s : Slot). length (slot_lines (line_of day run p q) (slot_at t issued day p q) s)) is, length_gathered_more (place_lines t issued next day run p) q)

    -- the places before it are filled, and its slot is as it was
    module _ (u : List Slot) (came : u ≡ filled (next p) (reading_slot day p * t.places) q issued) where
      pub turn_read : get_or u k no_volume ≡ slot_at t issued day p q
      turn_read =
          ap (λ (v : List Slot). get_or v k no_volume) came ∙ ap (λ (i : ℕ). get_or (filled (next p) (reading_slot day p * t.places) q issued) i no_volume) at ∙ get_or_filled_above (next p) (reading_slot day p * t.places) q issued (issued_slot t.places day p q) no_volume (omega arith)

      pub turn_lines : slot_lines (line_of day run p q) (get_or u k no_volume) new ≡ place_lines t issued next day run p q
      turn_lines =
          ap (λ (s : Slot). slot_lines (line_of day run p q) s new) turn_read ∙ ap (slot_lines (line_of day run p q) (slot_at t issued day p q)) is

      pub turn_slots : set u k new ≡ filled (next p) (reading_slot day p * t.places) (q + 1) issued
      turn_slots =
          ap (λ (v : List Slot). set v k new) came ∙ ap (λ (i : ℕ). set (filled (next p) (reading_slot day p * t.places) q issued) i new) at ∙ ap (set (filled (next p) (reading_slot day p * t.places) q issued) (issued_slot t.places day p q)) is ∙ filled_more (next p) (reading_slot day p * t.places) q issued

  pub period_most : (issued : List Slot) (p m : ℕ) → length (period_lines t issued next day run p m) ≤ 2 * m
  period_most issued p m =
      gathered_most (place_lines t issued next day run p) 2 m (λ q. slot_most (line_of day run p q) (slot_at t issued day p q) (next p q))

  pub day_most : (issued : List Slot) (m : ℕ) → length (lines_before t issued next day run m) ≤ (2 * t.places) * m
  day_most issued m =
      gathered_most (λ i. period_lines t issued next day run (i + 1) t.places) (2 * t.places) m (λ i. period_most issued (i + 1) t.places)

-- where the next period begins
pub base_more : (n day i : ℕ) → reading_slot day (i + 1 + 1) * n ≡ reading_slot day (i + 1) * n + n
base_more n day i =
    let e : reading_slot day (i + 1 + 1) ≡ reading_slot day (i + 1) + 1 = omega arith in
    let r = reading_slot day (i + 1) in
    let m : (r + 1) * n ≡ r * n + n = omega arith in
    ap (λ (x : ℕ). x * n) e ∙ m

module _ (n : ℕ) (next : ℕ → ℕ → Slot) (day : ℕ) where
  pub days_none : (issued : List Slot) → filled_before n next day 0 issued ≡ issued
  unfolding filled_before
  days_none issued = refl

  pub days_more : (i : ℕ) (issued : List Slot) → filled (next (i + 1)) (reading_slot day (i + 1) * n) n (filled_before n next day i issued) ≡ filled_before n next day (i + 1) issued
  unfolding filled_before
  days_more i issued = ap (λ k. filled_before n next day k issued) e
    where
      e : suc i ≡ i + 1
      e = omega arith

  pub length_days : (i : ℕ) (issued : List Slot) → length (filled_before n next day i issued) ≡ length issued
  unfolding filled_before
  length_days zero issued = refl
  length_days (suc i) issued =
      length-filled (next (i + 1)) (reading_slot day (i + 1) * n) n (filled_before n next day i issued) ∙ length_days i issued

  -- what later periods hold is as it was
  pub days_above : (i : ℕ) (issued : List Slot) (k : ℕ) (d : Slot) → reading_slot day (i + 1) * n ≤ k → get_or (filled_before n next day i issued) k d ≡ get_or issued k d
  unfolding filled_before
  days_above zero issued k d h = refl
  days_above (suc i) issued k d h =
      let e : suc i + 1 ≡ i + 1 + 1 = omega arith in
      let f = ap (λ (x : ℕ). reading_slot day x * n) e ∙ base_more n day i in
      get_or_filled_above (next (i + 1)) (reading_slot day (i + 1) * n) n (filled_before n next day i issued) k d (omega (arith, f)) ∙ days_above i issued k d (omega (arith, f))

  -- what the periods before hold is what it is to be
  pub days_here : (m : ℕ) (issued : List Slot) → reading_slot day (m + 1) * n ≤ length issued → (p q : ℕ) → 1 ≤ p → p ≤ m → q < n → get_or (filled_before n next day m issued) (issued_slot n day p q) no_volume ≡ next p q
  unfolding filled_before
  days_here zero issued room p q low high l = absurd (omega arith)
  days_here (suc i) issued room p q low high l =
      let r = reading_slot day (i + 1) in
      let u = filled_before n next day i issued in
      let e : suc i + 1 ≡ i + 1 + 1 = omega arith in
      let f = ap (λ (x : ℕ). reading_slot day x * n) e ∙ base_more n day i in
      let wide : r * n + n ≤ length u = omega (arith, f, room, length_days i issued) in
      let before : r * n ≤ length issued = omega (arith, f, room) in
      ⊎_elim
      (λ (h : p ≡ i + 1). ap (λ (x : ℕ). get_or (filled (next (i + 1)) (r * n) n u) (issued_slot n day x q) no_volume) h ∙ get_or-filled (next (i + 1)) (r * n) n u q no_volume l wide ∙ sym (ap (λ (x : ℕ). next x q) h))
      (λ (h : p ≡ i + 1 → ⊥).
      get_or_filled_below (next (i + 1)) (r * n) n u (issued_slot n day p q) no_volume (omega (arith, mul-add-lt (reading_slot day p) n q r (omega (arith, h)) l)) ∙ days_here i issued before p q low (omega (arith, h)) l)
      (cases_eq p (i + 1))

  -- a period more is filled, counted from 1
  pub period_filled : (p : ℕ) → 1 ≤ p → (issued u v : List Slot) → u ≡ filled_before n next day (p - 1) issued → v ≡ filled (next p) (reading_slot day p * n) n u → v ≡ filled_before n next day (p + 1 - 1) issued
  period_filled p low issued u v came filled_now =
      let again : p ≡ p - 1 + 1 = omega arith in
      let after : p - 1 + 1 ≡ p + 1 - 1 = omega arith in
      filled_now ∙ ap (λ (i : ℕ). filled (next i) (reading_slot day i * n) n u) again ∙ ap (filled (next (p - 1 + 1)) (reading_slot day (p - 1 + 1) * n) n) came ∙ days_more (p - 1) issued ∙ ap (λ (i : ℕ). filled_before n next day i issued) after

module _ (t : Terms) (next : ℕ → ℕ → Slot) (day run i : ℕ) (issued u : List Slot) (came : u ≡ filled_before t.places next day i issued) where
  pub later_slot : (q : ℕ) → slot_at t u day (i + 1) q ≡ slot_at t issued day (i + 1) q
  later_slot q =
      ap (λ (v : List Slot). slot_at t v day (i + 1) q) came ∙ days_above t.places next day i issued (issued_slot t.places day (i + 1) q) no_volume (omega arith)

  -- the lines of the next period are those of the table as it was
  pub later_lines : period_lines t u next day run (i + 1) t.places ≡ period_lines t issued next day run (i + 1) t.places
  later_lines =
      gathered_same (place_lines t u next day run (i + 1)) (place_lines t issued next day run (i + 1)) t.places (λ q h. ap (λ (s : Slot). slot_lines (line_of day run (i + 1) q) s (next (i + 1) q)) (later_slot q))

  pub later_tame : ((q : ℕ) → q < t.places → Tame (slot_at t issued day (i + 1) q).volume) → (q : ℕ) → q < t.places → Tame (slot_at t u day (i + 1) q).volume
  later_tame h q l = rw (later_slot q) (h q l)

-- one period more, counted from 1
module _ (t : Terms) (next : ℕ → ℕ → Slot) (day run : ℕ) (issued : List Slot) (p : ℕ) (low : 1 ≤ p) where
  abbrev lines : ℕ → List Line
  lines i = period_lines t issued next day run (i + 1) t.places

  again : p ≡ p - 1 + 1
  again = omega arith

  after : p - 1 + 1 ≡ p + 1 - 1
  after = omega arith

  pub period_count : (n r : ℕ) → n ≡ length (lines_before t issued next day run (p - 1)) → r ≡ length (period_lines t issued next day run p t.places) → n + r ≡ length (lines_before t issued next day run (p + 1 - 1))
  period_count n r e h =
      turn_count lines (p - 1) n r e (h ∙ ap (λ (k : ℕ). length (period_lines t issued next day run k t.places)) again) ∙ ap (λ (k : ℕ). length (gathered lines k)) after

  -- the count of a period added to those before it fits its type
  pub period_fits : (n r : ℕ) (spoiled : Option ℕ) → n ≡ length (lines_before t issued next day run (p - 1)) → Ok r ≡ counted spoiled (period_lines t issued next day run p t.places) → p ≤ periods → Fits w64 (n + r)
  period_fits n r spoiled e h high =
      let b : (2 * t.places) * (p + 1 - 1) ≤ 16 * 48 = mul-le (2 * t.places) (p + 1 - 1) 16 48 (omega (arith, t.few)) (omega arith) in
      omega (arith, period_count n r e (count_passed spoiled (period_lines t issued next day run p t.places) r h).1, day_most t next day run issued (p + 1 - 1))

  -- its lines are sent from `end` on, from a table that the periods before it have filled
  module _ (at end : ℕ) (u : List Slot) (ended : end ≡ at + length (lines_before t issued next day run (p - 1))) (came : u ≡ filled_before t.places next day (p - 1) issued) where
    abbrev sent_now : List Line
    sent_now = period_lines t u next day run p t.places

    sent_is : sent_now ≡ lines (p - 1)
    sent_is =
        ap (λ (k : ℕ). period_lines t u next day run k t.places) again ∙ later_lines t next day run (p - 1) issued u came

    pub period_tame : ((q : ℕ) → q < t.places → Tame (slot_at t issued day p q).volume) → (q : ℕ) → q < t.places → Tame (slot_at t u day p q).volume
    period_tame =
        let P : ℕ → Type 0 = λ k. ((q : ℕ) → q < t.places → Tame (slot_at t issued day k q).volume) → (q : ℕ) → q < t.places → Tame (slot_at t u day k q).volume in
        subst P (sym again) (later_tame t next day run (p - 1) issued u came)

    pub period_room : (room : ℕ) → p ≤ periods → at + length (lines_of t issued next day run) ≤ room → end + length sent_now ≤ room
    period_room room high fits =
        turn_room lines (p - 1) periods at end room sent_now sent_is ended (omega arith) fits

    pub period_sent : (j k m : List Line) (r : ℕ) (v : List Slot) → at ≤ length j → k ≡ posted j at (lines_before t issued next day run (p - 1)) → r ≡ end + length sent_now → m ≡ posted k end sent_now → v ≡ filled (next p) (reading_slot day p * t.places) t.places u → (r ≡ at + length (lines_before t issued next day run (p + 1 - 1))) × (m ≡ posted j at (lines_before t issued next day run (p + 1 - 1))) × (v ≡ filled_before t.places next day (p + 1 - 1) issued)
    period_sent j k m r v within before more sent filled_now =
        let P : ℕ → Type 0 = λ i. (r ≡ at + length (lines_before t issued next day run i)) × (m ≡ posted j at (lines_before t issued next day run i)) in
        let lined = subst P after (turn_end lines (p - 1) at end r sent_now sent_is ended more, turn_journal lines (p - 1) at end sent_now j k m within sent_is ended before sent) in
        (lined.0, lined.1, period_filled t.places next day p low issued u v came filled_now)
