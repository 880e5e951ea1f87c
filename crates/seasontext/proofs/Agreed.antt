-- Every line of a season keeps the notes even with the lines that were sent.
use Rattle.std.proofs.Common.{◌≡◌, ℕ, zero, suc, ◌+◌, ◌<◌, ◌≤◌, Bool, true, false, cond, not, ◌&&◌, ◌||◌, eqb, List, [], ◌∷◌, length, get_or, replicate, ℤ, pos, Some, None, Ok, Err, codes, Option, Result, sym, refl, ap, ◌∙◌, subst, ⊎_elim, arith}
use lib.ListN.{length-replicate}
use lib.Signed.{lt_z}
use Rattle.std.proofs.lemmas.List.{get_or-replicate, get_or_past}
use Rattle.std.proofs.lemmas.Bool.{cases_lt, eq-eqb, eqb-true, and_parts}
use Rattle.std.proofs.lemmas.Int.{ints}
use Rattle.domain.specs.Slots.{reading_slot, reading_slots, issued_slots}
use Rattle.domain.specs.Checks.{unless, no_reading, no_volume, issued_fit}
use Rattle.domain.specs.declared.AllocationRow.{AllocationRow}
use Rattle.domain.specs.declared.Fault.{Fault}
use Rattle.domain.specs.declared.Fault.TheVariants.{AnotherSize}
use Rattle.domain.specs.declared.Table.TheVariants.{Readings, Issued}
use Rattle.domain.specs.declared.Line.{Line}
use Rattle.domain.specs.declared.terms.Terms.{Terms}
use Rattle.files.specs.declared.records.Intro.{Intro}
use Rattle.history.specs.declared.Dated.{Dated}
use Rattle.rules.specs.House.{house}
use Rattle.book.specs.Kept.{opened}
use Rattle.book.specs.Readings.{blank_answer}
use Rattle.season.specs.declared.Call.{Call}
use Rattle.season.specs.declared.Call.TheVariants as call
use Rattle.season.specs.declared.Accepted.{Accepted}
use Rattle.season.specs.Plain.{Plain, nothing_yet, plain_step}
use Rattle.season.specs.Steps.{issued}
use Rattle.season.specs.Outcomes.{issued_by, state_of}
use Rattle.season.proofs.Agrees.{Agrees}
use Rattle.season.proofs.Replaying.{agrees_start}
use Rattle.season.proofs.Runs.{law_start, sound_start}
use Rattle.seasonlines.specs.Lists.{figures_in}
use Rattle.seasonlines.specs.declared.Entry.{Entry}
use Rattle.seasonlines.specs.declared.Entry.TheVariants as entry
use Rattle.seasonlines.specs.declared.Request.{Request}
use Rattle.seasonlines.specs.declared.Request.TheVariants as request
use Rattle.seasonlines.specs.declared.Faulty.{Faulty}
use Rattle.seasonlines.specs.declared.Faulty.TheVariants as faulty
use Rattle.seasonlines.specs.declared.Slip.{Slip}
use Rattle.seasonlines.specs.declared.Slip.TheVariants.{TablesLate}
use Rattle.seasontext.specs.declared.desk.Draft.{Draft}
use Rattle.season.specs.Lent.{lent}
use Rattle.seasontext.specs.Runs.{Run, slipped, answered, told, stepped, came_of, called, noted, issued_day, volume_asked, statement_asked, read_all, closed_by, closed, drafted, row_put, row_faulty, tables_of, tables_put, within, asked, entered, line_done, with_draft}
use Rattle.seasontext.specs.Seasons.{start_of, run_lines, entry_in}
use Rattle.seasontext.specs.Sums.{agree_text}
use Rattle.seasontext.specs.Agreeing.{SeasonsAgree}
use Rattle.seasontext.proofs.Evens.{Even, notes_by, even_step, even_issue, evenly}

-- an open book and blank tables, with nothing noted
module _ (t : Terms) (holders : List (Dated ℕ)) (rows : List (Dated AllocationRow)) (journal : List Line) where
  abbrev r : ℕ
  r = reading_slots t.days

  abbrev i : ℕ
  i = issued_slots t.places t.days

  accepted_blank : blank_answer t (replicate r no_reading) (replicate i no_volume) ≡ Ok tt
  accepted_blank =
      ap (λ b. unless b (AnotherSize Readings) (unless (issued_fit t (replicate i no_volume)) (AnotherSize Issued) (Ok tt))) (eq-eqb _ _ (length-replicate r no_reading)) ∙ ap (λ b. unless b (AnotherSize Issued) (Ok tt)) (eq-eqb _ _ (length-replicate i no_volume))

  agrees_blank : Agrees t (state_of opened holders rows (replicate r no_reading) (replicate i no_volume) journal) nothing_yet
  agrees_blank =
      let P : ℕ → Type 0 = λ n. Agrees t (state_of opened holders rows (replicate n no_reading) (replicate (length (replicate i no_volume)) no_volume) journal) nothing_yet in
      let Q : ℕ → Type 0 = λ n. Agrees t (state_of opened holders rows (replicate r no_reading) (replicate n no_volume) journal) nothing_yet in
      subst Q (length-replicate i no_volume) (subst P (length-replicate r no_reading) (agrees_start t holders rows (replicate r no_reading) (replicate i no_volume) journal accepted_blank))

  none_noted : (n k : ℕ) → get_or (replicate {A = Option ℕ} n None) k None ≡ None
  none_noted n k =
      ⊎_elim
      (λ (l : k < n). get_or-replicate n k None None l)
      (λ (l : n ≤ k). get_or_past (replicate n None) k None (omega (arith, length-replicate {A = Option ℕ} n None)))
      (cases_lt k n)

  even_blank : Even t (state_of opened holders rows (replicate r no_reading) (replicate i no_volume) journal) (replicate r None)
  even_blank = record {
    plain = nothing_yet;
    agrees = agrees_blank;
    law = (law_start, sound_start t);
    size = length-replicate r None;
    notes = λ d p isd isp. none_noted r (reading_slot d p);
  }

-- tables as they are opened
record Blank (s : Run) : Type 0 where
  kept : s.state.kept ≡ opened
  readings : s.state.readings ≡ replicate (reading_slots s.terms.days) no_reading
  issued : s.state.issued ≡ replicate (issued_slots s.terms.places s.terms.days) no_volume
  notes : s.split ≡ replicate (reading_slots s.terms.days) None

-- a season as it should be: notes and lines are even, and before the first call the tables are blank
record Good (s : Run) : Type 0 where
  even : Even s.terms s.state s.split
  blank : s.calls ≡ 0 → Blank s

no_first : {X : Type 0} (n : ℕ) → n + 1 ≡ 0 → X
no_first n e = absurd (omega arith)

good_slipped : (number : ℕ) (slip : Slip) (s : Run) → Good s → Good (slipped number slip s)
unfolding slipped
good_slipped number slip s h = record {
  even = h.even;
  blank = λ e. let b = h.blank e in record { kept = b.kept; readings = b.readings; issued = b.issued; notes = b.notes };
}

good_draft : (draft : Option Draft) (s : Run) → Good s → Good (with_draft draft s)
good_draft draft s h = record {
  even = h.even;
  blank = λ e. let b = h.blank e in record { kept = b.kept; readings = b.readings; issued = b.issued; notes = b.notes };
}

-- a question
good_answered : (accepted : Bool) (text : List ℕ) (s : Run) → Even s.terms s.state s.split → Good (answered accepted text s)
unfolding answered
good_answered accepted text s h = record { even = h; blank = λ e. no_first s.calls e }

good_told : (first : ℕ) (came : Result Accepted Fault) (s : Run) → Even s.terms s.state s.split → Good (told first came s)
unfolding told
good_told first came s h = good_answered _ _ s h

-- a call that writes nothing down
good_called : (c : Call) (s : Run) → ((b : Plain) (accepted : Bool) → (plain_step s.terms house b c accepted).written ≡ b.written) → Good s → Good (called c s)
unfolding called stepped
good_called c s same h = good_told _ _ _ (even_step s.terms s.state s.split h.even c same)

-- an issue
even_noted : (day run : ℕ) (s : Run) (h : Even s.terms s.state s.split) (r : Result ℕ Fault) → Even s.terms (stepped (call.Issue day run) s).state (notes_by s.terms s.state s.split h day run r) → Even (noted (issued_by r) day (stepped (call.Issue day run) s)).terms (noted (issued_by r) day (stepped (call.Issue day run) s)).state (noted (issued_by r) day (stepped (call.Issue day run) s)).split
unfolding noted stepped
even_noted day run s h (Ok n) e = e
even_noted day run s h (Err f) e = e

good_issued : (day run : ℕ) (s : Run) → Good s → Good (issued_day day run s)
unfolding issued_day came_of stepped
good_issued day run s h =
    good_told _ _ _ (even_noted day run s h.even (issued s.terms house s.state day run) (even_issue s.terms s.state s.split h.even day run))

either : (f : Bool → Plain → Plain) → ((b : Plain) → (f true b).written ≡ b.written) → ((b : Plain) → (f false b).written ≡ b.written) → (b : Plain) (accepted : Bool) → (f accepted b).written ≡ b.written
either f given left b true = given b
either f given left b false = left b

good_register : (place day supplier : ℕ) (s : Run) → Good s → Good (called (call.Register place day supplier) s)
good_register place day supplier s h =
    good_called (call.Register place day supplier) s (either (λ a b. plain_step s.terms house b (call.Register place day supplier) a) (λ b. refl) (λ b. refl)) h

good_reading : (day period quality kwh : ℕ) (s : Run) → Good s → Good (called (call.Reading day period quality kwh) s)
good_reading day period quality kwh s h =
    good_called (call.Reading day period quality kwh) s (either (λ a b. plain_step s.terms house b (call.Reading day period quality kwh) a) (λ b. refl) (λ b. refl)) h

good_end : (sender day moment : ℕ) (s : Run) → Good s → Good (called (call.End sender day moment) s)
good_end sender day moment s h =
    good_called (call.End sender day moment) s (either (λ a b. plain_step s.terms house b (call.End sender day moment) a) (λ b. refl) (λ b. refl)) h

good_read_all : (day quality : ℕ) (figures : List ℕ) (n : ℕ) (s : Run) → Good s → Good (read_all day quality figures n s)
unfolding read_all
good_read_all day quality figures zero s h = h
good_read_all day quality figures (suc n) s h = good_reading day (suc n) quality (get_or figures n 0) _ (good_read_all day quality figures n s h)

good_volume : (day period place : ℕ) (s : Run) → Good s → Good (volume_asked day period place s)
unfolding volume_asked
good_volume day period place s h = good_answered _ _ s h.even

good_statement : (first count : ℕ) (s : Run) → Good s → Good (statement_asked first count s)
unfolding statement_asked
good_statement first count s h = good_answered _ _ s h.even

good_closed : (draft : Option Draft) (s : Run) → Good s → Good (closed_by draft s)
unfolding closed_by
good_closed None s h = h
good_closed (Some d) s h =
    good_called _ (with_draft None s) (either (λ a b. plain_step s.terms house b (call.Schedule d.intro.sender d.intro.day d.intro.moment (lent d.rows)) a) (λ b. refl) (λ b. refl)) (good_draft None s h)

good_drafted : (intro : Intro) (s : Run) → Good s → Good (drafted intro s)
unfolding drafted
good_drafted intro s h = good_draft _ s h

good_row : (number : ℕ) (draft : Option Draft) (from to : ℕ) (row : AllocationRow) (s : Run) → Good s → Good (row_put number draft from to row s)
unfolding row_put
good_row number None from to row s h = good_slipped number _ s h
good_row number (Some d) from to row s h = good_draft _ s h

good_faulty : (number : ℕ) (draft : Option Draft) (slip : Slip) (s : Run) → Good s → Good (row_faulty number draft slip s)
unfolding row_faulty
good_faulty number None slip s h = good_slipped number _ s h
good_faulty number (Some d) slip s h = good_slipped number slip s h

-- tables of other sizes, before the first call
good_sized : (holders rows journal : ℕ) (s : Run) → Blank s → Good (tables_of holders rows journal s)
unfolding tables_of
good_sized holders rows journal s b =
    record { even = rw (b.kept, b.readings, b.issued, b.notes) (even_blank s.terms _ _ _); blank = λ e. record { kept = b.kept; readings = b.readings; issued = b.issued; notes = b.notes } }

good_tables : (number holders rows journal : ℕ) (s : Run) (first : Bool) → first ≡ (eqb s.calls 0 && not s.sized) → Good s → Good (cond first (tables_of holders rows journal s) (slipped number TablesLate s))
good_tables number holders rows journal s true e h =
    good_sized holders rows journal s (h.blank (eqb-true s.calls 0 (and_parts (eqb s.calls 0) (not s.sized) (sym e)).0))
good_tables number holders rows journal s false e h = good_slipped number TablesLate s h

good_tables_put : (number holders rows journal : ℕ) (s : Run) → Good s → Good (tables_put number holders rows journal s)
unfolding tables_put
good_tables_put number holders rows journal s h = good_tables number holders rows journal s _ refl h

-- whatever is asked
good_asked : (r : Request) (s : Run) → Good s → Good (asked r s)
good_asked (request.Register place day supplier) s h = good_register place day supplier s h
good_asked (request.Reading day period quality kwh) s h = good_reading day period quality kwh s h
good_asked (request.Readings day quality figures) s h = good_read_all day quality (figures_in figures) (length (figures_in figures)) s h
good_asked (request.End sender day moment) s h = good_end sender day moment s h
good_asked (request.Issue day run) s h = good_issued day run s h
good_asked (request.Volume day period place) s h = good_volume day period place s h
good_asked (request.Statement first count) s h = good_statement first count s h

-- whatever a line says
good_entered : (number : ℕ) (e : Result (Option Entry) Faulty) (s : Run) → Good s → Good (entered number e s)
good_entered number (Ok None) s h = h
good_entered number (Ok (Some (entry.Terms places days capacity))) s h = good_slipped number _ s h
good_entered number (Ok (Some (entry.Tables holders rows journal))) s h = good_tables_put number holders rows journal s h
good_entered number (Ok (Some (entry.Schedule sender day moment))) s h = good_drafted _ s h
good_entered number (Ok (Some (entry.Row from to row))) s h = good_row number s.draft from to row s h
good_entered number (Ok (Some (entry.Ask r))) s h = good_asked r s h
good_entered number (Err (faulty.Row slip)) s h = good_faulty number s.draft slip s h
good_entered number (Err (faulty.Line slip)) s h = good_slipped number slip s h

good_before : (inside : Bool) (s : Run) → Good s → Good (cond inside s (closed s))
good_before true s h = h
good_before false s h = good_closed s.draft s h

good_line : (number : ℕ) (e : Result (Option Entry) Faulty) (s : Run) → Good s → Good (line_done number e s)
unfolding line_done
good_line number e s h = good_entered number e _ (good_before (within e) s h)

good_lines : (number : ℕ) (s : Run) (lines : List (List ℕ)) → Good s → Good (run_lines number s lines)
unfolding run_lines
good_lines number s [] h = h
good_lines number s (l ∷ ls) h = good_lines (number + 1) _ ls (good_line number (entry_in l) s h)

good_start : (holders journal : ℕ) (t : Terms) (quiet : Bool) (text : List ℕ) → Good (start_of holders journal t quiet text)
unfolding start_of
good_start holders journal t quiet text = record {
  even = even_blank t _ _ _;
  blank = λ e. record { kept = refl; readings = refl; issued = refl; notes = refl };
}

-- equal sums are said to agree
same_agrees : (x y : ℤ) → y ≡ x → agree_text x y ≡ codes "agrees"
same_agrees x y e =
    let low : lt_z x y ≡ false = grind (arith, ints) in
    let high : lt_z y x ≡ false = grind (arith, ints) in
    ap (λ b. cond (b || lt_z y x) (codes "differs") (codes "agrees")) low ∙ ap (λ b. cond b (codes "differs") (codes "agrees")) high

pub seasons_agree : SeasonsAgree
seasons_agree holders journal t quiet text number lines =
    let s = run_lines number (start_of holders journal t quiet text) lines in
    let h = (good_closed s.draft s (good_lines number _ lines (good_start holders journal t quiet text))).even in
    record {
      sums = evenly (closed s).terms (closed s).state (closed s).split h;
      says = λ day period kwh isp noted. same_agrees (pos kwh) _ (evenly (closed s).terms (closed s).state (closed s).split h day period kwh isp noted);
    }
