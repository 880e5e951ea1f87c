-- Each call keeps tables and plain book in agreement, and so does every list of calls.
use Rattle.std.proofs.Common.{◌≡◌, ℕ, ◌+◌, ◌<◌, ◌≤◌, Bool, true, cond, List, [], ◌∷◌, ◌++◌, length, take, is_ok, Some, Ok, Err, Option, Result, sym, refl, ap, ◌∙◌, ⊎_elim, arith}
use Rattle.std.proofs.lemmas.Bool.{cases_eq, eq-eqb, ne_eqb, false≢true}
use Rattle.std.proofs.lemmas.Bool.Decides.{nat_tests}
use Rattle.domain.specs.Limits.{periods}
use Rattle.domain.specs.Checks.{settled, is_day, is_period, slot_at}
use Rattle.domain.specs.declared.Line.{Line}
use Rattle.domain.specs.declared.Fault.{Fault}
use Rattle.domain.specs.declared.terms.Terms.{Terms}
use Rattle.rules.specs.Meaning.{Meaning}
use Rattle.domain.specs.declared.Slot.{Slot}
use Rattle.issuing.specs.Granted as Grants
use Rattle.issuing.specs.Posted.{posted}
use Rattle.issuing.specs.Issue.{day_lines, issued_after}
use Rattle.issuing.proofs.Answered.{accepted}
use Rattle.issuing.proofs.After.{take-posted, length-posted, after_here, after_other, length-after}
use Rattle.book.specs.Issues.{standing_of, after_issue, issue_verdict, slots_issued, journal_sent}
use Rattle.season.specs.declared.Call.{Call}
use Rattle.season.specs.declared.Call.TheVariants as call
use Rattle.season.specs.Plain.{Plain, Written, slot_of, writes, issue_lines, plain_step, plain_run}
use Rattle.season.specs.Plain as plain
use Rattle.season.specs.Granted.{Granted, AllGranted}
use Rattle.season.specs.Steps.{State, registered, scheduled, read, ended, issued, accepts, step, run, told}
use Rattle.season.proofs.Agrees.{Agrees, agrees_register, agrees_schedule, agrees_reading, agrees_end}
use Rattle.season.proofs.Writings.{next_is, lines_are, ready}

module _ (t : Terms) (m : Meaning) (st : State) (b : Plain) (h : Agrees t st b) (day run : ℕ) where
  -- the slots of the day hold what is written down now, and those of other days what they held
  slots_after : Grants.Granted m t (standing_of st.kept day) st.holders st.rows st.readings st.issued (length st.journal) day run → (d p q : ℕ) → is_day t d ≡ true → is_period p ≡ true → q < t.places → slot_at t (issued_after m t (standing_of st.kept day) st.holders st.rows st.readings st.issued day) d p q ≡ slot_of ((plain.issued t m b day run).written d p) q
  slots_after g d p q isd isp within =
      let k = standing_of st.kept day in
      let new : List Slot = issued_after m t k st.holders st.rows st.readings st.issued day in
      let least : 1 ≤ p = grind (arith, nat_tests) in
      let most : p ≤ periods = grind (arith, nat_tests) in
      let wrote : ℕ → Option Written = λ x. cond (is_period x) (Some (writes t m b day x)) (b.written day x) in
      ⊎_elim
      (λ (e : d ≡ day).
      ap (λ (x : ℕ). slot_at t new x p q) e
      ∙ after_here m t k st.holders st.rows st.readings st.issued day g.is_day h.issued_size p q least most within
      ∙ next_is t m st b h day run g p isp q
      ∙ sym (ap (λ (c : Bool). slot_of (cond c (Some (writes t m b day p)) (b.written day p)) q) isp)
      ∙ sym (ap (λ (c : Bool). slot_of (cond c wrote (b.written d) p) q) (eq-eqb d day e)))
      (λ (e : d ≡ day → ⊥).
      after_other m t k st.holders st.rows st.readings st.issued day d p q e least most within
      ∙ h.slots d p q isd isp within
      ∙ sym (ap (λ (c : Bool). slot_of (cond c wrote (b.written d) p) q) (ne_eqb d day e)))
      (cases_eq d day)

  pub agrees_issue : (r : Result ℕ Fault) → r ≡ issued t m st day run → Agrees t (record {
    kept = after_issue r day run st.kept;
    holders = st.holders;
    rows = st.rows;
    readings = st.readings;
    issued = settled r (slots_issued m t st.kept st.holders st.rows st.readings st.issued st.journal day run) st.issued;
    journal = settled r (journal_sent m t st.kept st.holders st.rows st.readings st.issued st.journal day run) st.journal;
  }) (plain_step t m b (call.Issue day run) (is_ok r))
  unfolding issue_verdict slots_issued journal_sent
  agrees_issue (Err f) e = h
  agrees_issue (Ok n) e =
      let k = standing_of st.kept day in
      let lines = day_lines m t k st.holders st.rows st.readings st.issued day run in
      let a = accepted m t k st.holders st.rows st.readings st.issued (length st.journal) day run n (sym e) in
      let g = a.0 in
      let size = length-posted st.journal st.kept.lines lines a.1 in
      record {
        holders_room = h.holders_room;
        rows_room = h.rows_room;
        lines_room = omega (arith, a.1, a.2, size);
        readings_size = h.readings_size;
        issued_size = length-after m t k st.holders st.rows st.readings st.issued day ∙ h.issued_size;
        registered = h.registered;
        scheduled = h.scheduled;
        full = h.full;
        read = h.read;
        ended = h.ended;
        slots = slots_after g;
        lines =
            ap (λ (x : ℕ). take (st.kept.lines + x) (posted st.journal st.kept.lines lines)) a.2
            ∙ take-posted st.journal st.kept.lines lines h.lines_room
            ∙ ap (λ (xs : List Line). xs ++ lines) h.lines
            ∙ ap (λ (xs : List Line). b.lines ++ xs) (lines_are t m st b h day run g);
      }

  -- and what it split could be split
  pub granted_issue : (r : Result ℕ Fault) → r ≡ issued t m st day run → Granted t m b (call.Issue day run) (is_ok r)
  unfolding issue_verdict
  granted_issue (Err f) e refused = absurd (false≢true refused)
  granted_issue (Ok n) e refused =
      let a = accepted m t (standing_of st.kept day) st.holders st.rows st.readings st.issued (length st.journal) day run n (sym e) in
      ready t m st b h day run a.0

module _ (t : Terms) (m : Meaning) where
  pub agrees_step : (st : State) (b : Plain) → Agrees t st b → (c : Call) → Agrees t (step t m st c) (plain_step t m b c (accepts t m st c))
  agrees_step st b h (call.Register place day supplier) = agrees_register t m st b h place day supplier (registered t m st place day supplier) refl
  agrees_step st b h (call.Schedule sender day moment rows) = agrees_schedule t m st b h sender day moment rows (scheduled t m st sender day moment rows.now) refl
  agrees_step st b h (call.Reading day period quality kwh) = agrees_reading t m st b h day period quality kwh (read t m st day period quality kwh) refl
  agrees_step st b h (call.End sender day moment) = agrees_end t m st b h sender day moment (ended t m st sender day moment) refl
  agrees_step st b h (call.Issue day run) = agrees_issue t m st b h day run (issued t m st day run) refl

  pub granted_step : (st : State) (b : Plain) → Agrees t st b → (c : Call) → Granted t m b c (accepts t m st c)
  granted_step st b h (call.Register place day supplier) = tt
  granted_step st b h (call.Schedule sender day moment rows) = tt
  granted_step st b h (call.Reading day period quality kwh) = tt
  granted_step st b h (call.End sender day moment) = tt
  granted_step st b h (call.Issue day run) = granted_issue t m st b h day run (issued t m st day run) refl

  -- so does every list of calls, and all its issues are granted
  pub agrees_run : (st : State) (b : Plain) → Agrees t st b → (cs : List Call) → Agrees t (run t m st cs) (plain_run t m b (told t m st cs)) × AllGranted t m b (told t m st cs)
  unfolding told
  agrees_run st b h [] = (h, tt)
  agrees_run st b h (c ∷ cs) =
      let rest = agrees_run (step t m st c) (plain_step t m b c (accepts t m st c)) (agrees_step st b h c) cs in
      (rest.0, (granted_step st b h c, rest.1))
