-- A turn of a replay, its start and its end.
use Rattle.std.proofs.Common.{◌≡◌, ℕ, suc, ◌+◌, ◌<◌, ◌≤◌, Bool, List, [], ◌∷◌, ◌++◌, length, get_or, take, drop, set, replicate, is_ok, Ok, Err, Result, sym, refl, ap, ◌∙◌, subst, ⊎_elim, arith}
use lib.ListN.{length-replicate}
use Rattle.std.proofs.lemmas.List.{append_assoc, take_more, drop_more, set_at, length-take-le, get_or-replicate, get_or_past}
use Rattle.std.proofs.lemmas.List.Sums.{fold_more}
use Rattle.std.proofs.lemmas.Bool.{cases_lt, eqb-true}
use Rattle.domain.specs.Slots.{reading_slot, issued_slot, reading_slots, issued_slots}
use Rattle.domain.specs.Checks.{no_reading, no_volume, readings_fit, issued_fit}
use Rattle.domain.specs.declared.AllocationRow.{AllocationRow}
use Rattle.domain.specs.declared.Reading.{Reading}
use Rattle.domain.specs.declared.Slot.{Slot}
use Rattle.domain.specs.declared.Line.{Line}
use Rattle.domain.specs.declared.Fault.{Fault}
use Rattle.domain.specs.declared.Fault.TheVariants.{AnotherSize}
use Rattle.domain.specs.declared.Table.TheVariants.{Readings, Issued}
use Rattle.domain.specs.declared.terms.Terms.{Terms}
use Rattle.rules.specs.Meaning.{Meaning, Laws}
use Rattle.history.specs.declared.Dated.{Dated}
use Rattle.history.proofs.Keyed.{keyed_nil}
use Rattle.book.specs.Readings.{blank_answer}
use Rattle.season.specs.declared.Call.{Call}
use Rattle.season.specs.declared.Call.TheVariants as call
use Rattle.season.specs.declared.Accepted.{Accepted}
use Rattle.season.specs.Plain.{nothing_yet, plain_run}
use Rattle.season.specs.Law.{Adds}
use Rattle.season.specs.Steps.{State, registered, scheduled, read, ended, issued, accepts, step, run, told}
use Rattle.season.specs.Outcomes.{done_by, scheduled_by, issued_by, heard, start_of, outcome, outcomes}
use Rattle.season.specs.Replays.{Replayed}
use Rattle.season.proofs.Agrees.{Agrees, unless_ok}
use Rattle.season.proofs.Turns.{agrees_run}
use Rattle.season.proofs.Runs.{law_run, law_start, sound_start}

-- slots of a blanked table are empty
blank_at : {X : Type 0} (n i : ℕ) (x : X) → get_or (replicate n x) i x ≡ x
blank_at n i x =
    ⊎_elim
    (λ (h : i < n). get_or-replicate n i x x h)
    (λ (h : n ≤ i). get_or_past (replicate n x) i x (omega (arith, length-replicate n x)))
    (cases_lt i n)

-- an open book and blanked tables agree with a plain book in which nothing has happened
pub agrees_start : (t : Terms) (holders : List (Dated ℕ)) (rows : List (Dated AllocationRow)) (readings : List Reading) (slots : List Slot) (journal : List Line) → blank_answer t readings slots ≡ Ok tt → Agrees t (start_of holders rows readings slots journal) nothing_yet
agrees_start t holders rows readings slots journal e =
    let a = unless_ok (readings_fit t readings) (AnotherSize Readings) _ tt e in
    let c = unless_ok (issued_fit t slots) (AnotherSize Issued) _ tt a.1 in
    record {
      holders_room = omega arith;
      rows_room = omega arith;
      lines_room = omega arith;
      readings_size = length-replicate (length readings) no_reading ∙ eqb-true (length readings) (reading_slots t.days) a.0;
      issued_size = length-replicate (length slots) no_volume ∙ eqb-true (length slots) (issued_slots t.places t.days) c.0;
      registered = λ q d. keyed_nil q d;
      scheduled = λ p d within. keyed_nil p d;
      full = λ d xs said. absurd cc;
      read = λ d p isd isp. ap (λ (r : Reading). r.quality) (blank_at (length readings) (reading_slot d p) no_reading);
      ended = refl;
      slots = λ d p q isd isp within. blank_at (length slots) (issued_slot t.places d p q) no_volume;
      lines = refl;
    }

done_ok : {A : Type 0} (r : Result A Fault) → is_ok (done_by r) ≡ is_ok r
done_ok (Ok x) = refl
done_ok (Err f) = refl

scheduled_ok : (r : Result ℕ Fault) (notice : List ℕ) → is_ok (scheduled_by r notice) ≡ is_ok r
scheduled_ok (Ok n) notice = refl
scheduled_ok (Err f) notice = refl

issued_ok : (r : Result ℕ Fault) → is_ok (issued_by r) ≡ is_ok r
issued_ok (Ok n) = refl
issued_ok (Err f) = refl

module _ (t : Terms) (m : Meaning) where
  -- the outcome says whether the call was accepted
  outcome_says : (st : State) (c : Call) → is_ok (outcome t m st c) ≡ accepts t m st c
  outcome_says st (call.Register place day supplier) = done_ok (registered t m st place day supplier)
  outcome_says st (call.Schedule sender day moment rows) = scheduled_ok (scheduled t m st sender day moment rows.now) _
  outcome_says st (call.Reading day period quality kwh) = done_ok (read t m st day period quality kwh)
  outcome_says st (call.End sender day moment) = done_ok (ended t m st sender day moment)
  outcome_says st (call.Issue day run) = issued_ok (issued t m st day run)

  heard_told : (st : State) (cs : List Call) (rest : List (Result Accepted Fault)) → heard cs (outcomes t m st cs ++ rest) ≡ told t m st cs
  unfolding heard outcomes told
  heard_told st [] rest = refl
  heard_told st (c ∷ cs) rest =
      ap (λ (b : Bool). (c, b) ∷ heard cs (outcomes t m (step t m st c) cs ++ rest)) (outcome_says st c)
      ∙ ap (λ (xs : List (Call × Bool)). (c, accepts t m st c) ∷ xs) (heard_told (step t m st c) cs rest)

  outcomes_push : (s : State) (xs : List Call) (c : Call) → outcomes t m s (xs ++ (c ∷ [])) ≡ outcomes t m s xs ++ (outcome t m (run t m s xs) c ∷ [])
  unfolding outcomes
  outcomes_push s [] c = refl
  outcomes_push s (x ∷ xs) c = ap (λ (os : List (Result Accepted Fault)). outcome t m s x ∷ os) (outcomes_push (step t m s x) xs c)

  length-outcomes : (s : State) (xs : List Call) → length (outcomes t m s xs) ≡ length xs
  unfolding outcomes
  length-outcomes s [] = refl
  length-outcomes s (x ∷ xs) = ap suc (length-outcomes (step t m s x) xs)

  -- a replay keeps the law
  pub replayed : Laws m → (st : State) (cs : List Call) (was came : List (Result Accepted Fault)) (end : State) → Agrees t st nothing_yet → end ≡ run t m st cs → came ≡ outcomes t m st cs ++ drop (length cs) was → Replayed t m st cs was end came
  replayed laws st cs was came end h e o =
      let run-so = agrees_run t m st nothing_yet h cs in
      let said : heard cs came ≡ told t m st cs = ap (heard cs) o ∙ heard_told st cs (drop (length cs) was) in
      let adds = (law_run t m laws nothing_yet (told t m st cs) run-so.1 (law_start, sound_start t)).0 in
      let sent : take end.kept.lines end.journal ≡ (plain_run t m nothing_yet (told t m st cs)).lines = ap (λ (s : State). take s.kept.lines s.journal) e ∙ run-so.0.lines in
      let P : List (Call × Bool) → Type 0 = λ x. Adds (plain_run t m nothing_yet x) (take end.kept.lines end.journal) in
      let Q : List Line → Type 0 = λ x. Adds (plain_run t m nothing_yet (told t m st cs)) x in
      record {
        state = e;
        outcomes = o;
        lines = sent ∙ sym (ap (λ (x : List (Call × Bool)). (plain_run t m nothing_yet x).lines) said);
        adds = subst P (sym said) (subst Q (sym sent) adds);
      }

-- a turn of the loop
module _ {R : Type 0} (meaning : R → Meaning) (t : Terms) (rule : R) (st : State) (cs : List Call) where
  pub turn_state : (i : ℕ) (d : Call) (tl : Terms) (rl : R) (was is : State) → i < length cs → tl ≡ t → rl ≡ rule → was ≡ run t (meaning rule) st (take i cs) → is ≡ step tl (meaning rl) was (get_or cs i d) → is ≡ run t (meaning rule) st (take (i + 1) cs)
  turn_state i d tl rl was is h f e w x = cc (fold_more (step t (meaning rule)) st cs i d h)

  pub turn_outcomes : (i : ℕ) (d : Call) (tl : Terms) (rl : R) (was : State) (y : Result Accepted Fault) (old os : List (Result Accepted Fault)) → i < length cs → i < length old → tl ≡ t → rl ≡ rule → was ≡ run t (meaning rule) st (take i cs) → y ≡ outcome tl (meaning rl) was (get_or cs i d) → os ≡ outcomes t (meaning rule) st (take i cs) ++ drop i old → set os i y ≡ outcomes t (meaning rule) st (take (i + 1) cs) ++ drop (i + 1) old
  turn_outcomes i d tl rl was y old os h k f e w z o =
      let m = meaning rule in
      let front = outcomes t m st (take i cs) in
      let full : length front ≡ i = length-outcomes t m st (take i cs) ∙ length-take-le i cs (omega arith) in
      let call = get_or cs i d in
      let next : outcomes t m st (take (i + 1) cs) ≡ front ++ (outcome t m (run t m st (take i cs)) call ∷ []) = ap (outcomes t m st) (take_more cs i d h) ∙ outcomes_push t m st (take i cs) call in
      let after = set_at front (get_or old i y) (drop (i + 1) old) y i full in
      cc (next, after, drop_more old i y k, append_assoc front (y ∷ []) (drop (i + 1) old))

  -- the end of the loop, with terms, rule, start and calls as they were given
  module _ (tl : Terms) (rl : R) (from : State) (made : List Call) (f : tl ≡ t) (e : rl ≡ rule) (s : from ≡ st) (k : made ≡ cs) where
    pub end_state : (end : State) → end ≡ run tl (meaning rl) from made → end ≡ run t (meaning rule) st cs
    end_state end x = cc

    pub end_outcomes : (came was : List (Result Accepted Fault)) (i : ℕ) → i ≡ length made → came ≡ outcomes tl (meaning rl) from made ++ drop i was → came ≡ outcomes t (meaning rule) st cs ++ drop (length cs) was
    end_outcomes came was i here x = cc

-- before the first call there is no outcome
pub no_outcomes : (t : Terms) (m : Meaning) (st : State) → outcomes t m st [] ≡ []
unfolding outcomes
no_outcomes t m st = refl
