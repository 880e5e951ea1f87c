-- In every season the kWh noted for a half hour are those that its last issue split, so that its lines add up to them.
use Rattle.std.proofs.Common.{◌≡◌, ℕ, zero, suc, ◌+◌, ◌-◌, ◌*◌, ◌<◌, ◌≤◌, Bool, true, cond, List, length, get_or, take, pos, is_ok, Some, None, Ok, Err, Option, Result, sym, refl, ap, ◌∙◌, ⊎_elim, arith}
use Rattle.std.proofs.lemmas.List.{length-set, get_or-set_same, get_or-set_other, get_or_past}
use Rattle.std.proofs.lemmas.Bool.{cases_eq, cases_lt, eq-eqb, ne_eqb, lt-ltb}
use Rattle.std.proofs.lemmas.Bool.Decides.{nat_tests}
use Rattle.domain.specs.Limits.{periods}
use Rattle.domain.specs.Slots.{reading_slot, reading_slots, slots_of_day}
use Rattle.domain.specs.Checks.{is_day, is_period, no_reading}
use Rattle.domain.specs.declared.Fault.{Fault}
use Rattle.domain.specs.declared.Reading.{Reading}
use Rattle.domain.specs.declared.terms.Terms.{Terms}
use Rattle.rules.specs.House.{house}
use Rattle.rules.specs.Housed.{house_laws}
use Rattle.issuing.proofs.Answered.{accepted}
use Rattle.book.specs.Issues.{standing_of, issue_verdict}
use Rattle.season.specs.declared.Call.{Call}
use Rattle.season.specs.declared.Call.TheVariants as call
use Rattle.season.specs.Law.{sum_of, of_period, kwh_of}
use Rattle.season.specs.Plain.{Plain, Written, writes, plain_step}
use Rattle.season.specs.Steps.{State, issued, accepts, step}
use Rattle.season.proofs.Agrees.{Agrees}
use Rattle.season.proofs.Writings.{kwh_is}
use Rattle.season.proofs.Turns.{agrees_step, granted_step}
use Rattle.season.proofs.Runs.{Kept, law_step}
use Rattle.seasontext.specs.Runs.{copied}

-- the kWh that were written down
abbrev pub split_of : Option Written → Option ℕ
split_of None = None
split_of (Some w) = Some w.kwh

-- what is noted is what was written down, in a plain book that agrees with the tables and whose lines add up
pub record Even (t : Terms) (st : State) (split : List (Option ℕ)) : Type 0 where
  pub plain : Plain
  pub agrees : Agrees t st plain
  pub law : Kept t plain
  pub size : length split ≡ reading_slots t.days
  pub notes : (day period : ℕ) → is_day t day ≡ true → is_period period ≡ true → get_or split (reading_slot day period) None ≡ split_of (plain.written day period)

-- a call that writes nothing down
module _ (t : Terms) (st : State) (split : List (Option ℕ)) (h : Even t st split) where
  pub even_step : (c : Call) → ((b : Plain) (accepted : Bool) → (plain_step t house b c accepted).written ≡ b.written) → Even t (step t house st c) split
  even_step c same = record {
    plain = plain_step t house h.plain c (accepts t house st c);
    agrees = agrees_step t house st h.plain h.agrees c;
    law = law_step t house house_laws h.plain c (accepts t house st c) (granted_step t house st h.plain h.agrees c) h.law;
    size = h.size;
    notes = λ d p isd isp. h.notes d p isd isp ∙ ap (λ w. split_of (w d p)) (sym (same h.plain (accepts t house st c)));
  }

-- the noted kWh of some slots
module _ (readings : List Reading) (first : ℕ) (split : List (Option ℕ)) where
  length-copied : (n : ℕ) → length (copied readings first n split) ≡ length split
  unfolding copied
  length-copied zero = refl
  length-copied (suc n) = length-set (copied readings first n split) (first + n) _ ∙ length-copied n

  copied_other : (n k : ℕ) → ((i : ℕ) → i < n → k ≡ first + i → ⊥) → get_or (copied readings first n split) k None ≡ get_or split k None
  unfolding copied
  copied_other zero k apart = refl
  copied_other (suc n) k apart =
      get_or-set_other (copied readings first n split) (first + n) k _ None (apart n (omega arith)) ∙ copied_other n k (λ i l. apart i (omega arith))

  copied_here : (n i : ℕ) → i < n → first + n ≤ length split → get_or (copied readings first n split) (first + i) None ≡ Some (get_or readings (first + i) no_reading).kwh
  unfolding copied
  copied_here zero i l room = absurd (omega arith)
  copied_here (suc n) i l room =
      ⊎_elim
      (λ (e : i ≡ n). ap (λ (k : ℕ). get_or (copied readings first (suc n) split) (first + k) None) e ∙ get_or-set_same (copied readings first n split) (first + n) _ None (omega (arith, length-copied n)) ∙ ap (λ (k : ℕ). Some (get_or readings (first + k) no_reading).kwh) (sym e))
      (λ (e : i ≡ n → ⊥). get_or-set_other (copied readings first n split) (first + n) (first + i) _ None (λ s. e (omega arith)) ∙ copied_here n i (omega (arith, e)) (omega arith))
      (cases_eq i n)

-- an issue
module _ (t : Terms) (st : State) (split : List (Option ℕ)) (h : Even t st split) (day run : ℕ) where
  -- the notes after it
  abbrev pub notes_by : Result ℕ Fault → List (Option ℕ)
  notes_by (Ok n) = copied st.readings (day * slots_of_day) periods split
  notes_by (Err f) = split

  abbrev after : Bool → Plain
  after accepted = plain_step t house h.plain (call.Issue day run) accepted

  notes_after : (r : Result ℕ Fault) → r ≡ issued t house st day run → (d p : ℕ) → is_day t d ≡ true → is_period p ≡ true → get_or (notes_by r) (reading_slot d p) None ≡ split_of ((after (is_ok r)).written d p)
  unfolding issue_verdict
  notes_after (Err f) e d p isd isp = h.notes d p isd isp
  notes_after (Ok n) e d p isd isp =
      let b = h.plain in
      let g = (accepted house t (standing_of st.kept day) st.holders st.rows st.readings st.issued (length st.journal) day run n (sym e)).0 in
      let least : 1 ≤ p = grind (arith, nat_tests) in
      let most : p ≤ periods = grind (arith, nat_tests) in
      let wrote : ℕ → Option Written = λ x. cond (is_period x) (Some (writes t house b day x)) (b.written day x) in
      ⊎_elim
      (λ (same : d ≡ day).
      ap (λ (x : ℕ). get_or (notes_by (Ok n)) (reading_slot x p) None) same
      ∙ copied_here st.readings (day * slots_of_day) split periods (p - 1) (omega arith) (omega (arith, h.size, g.is_day))
      ∙ ap Some (kwh_is t house st b h.agrees day run g p isp)
      ∙ sym (ap (λ (c : Bool). split_of (cond c (Some (writes t house b day p)) (b.written day p))) isp)
      ∙ sym (ap (λ (c : Bool). split_of (cond c wrote (b.written d) p)) (eq-eqb d day same)))
      (λ (other : d ≡ day → ⊥).
      copied_other st.readings (day * slots_of_day) split periods (reading_slot d p) (λ i l at. other (omega arith))
      ∙ h.notes d p isd isp
      ∙ sym (ap (λ (c : Bool). split_of (cond c wrote (b.written d) p)) (ne_eqb d day other)))
      (cases_eq d day)

  size_after : (r : Result ℕ Fault) → length (notes_by r) ≡ reading_slots t.days
  size_after (Ok n) = length-copied st.readings (day * slots_of_day) split periods ∙ h.size
  size_after (Err f) = h.size

  pub even_issue : Even t (step t house st (call.Issue day run)) (notes_by (issued t house st day run))
  even_issue = record {
    plain = after (accepts t house st (call.Issue day run));
    agrees = agrees_step t house st h.plain h.agrees (call.Issue day run);
    law = law_step t house house_laws h.plain (call.Issue day run) (accepts t house st (call.Issue day run)) (granted_step t house st h.plain h.agrees (call.Issue day run)) h.law;
    size = size_after (issued t house st day run);
    notes = notes_after (issued t house st day run) refl;
  }

-- the lines of a half hour add up to what is noted for it
module _ (t : Terms) (st : State) (split : List (Option ℕ)) (h : Even t st split) where
  kwh_noted : (o : Option Written) (kwh : ℕ) → split_of o ≡ Some kwh → kwh_of o ≡ pos kwh
  kwh_noted None kwh e = let z : ◌≡◌ {A = ℕ} 0 1 = cc in absurd (omega arith)
  kwh_noted (Some w) kwh e = ap pos (cc)

  pub evenly : (day period kwh : ℕ) → is_period period ≡ true → get_or split (reading_slot day period) None ≡ Some kwh → sum_of (of_period day period) (take st.kept.lines st.journal) ≡ pos kwh
  evenly day period kwh isp noted =
      let most : period ≤ periods = grind (arith, nat_tests) in
      let within : is_day t day ≡ true =
      ⊎_elim
      (λ (l : day < t.days). lt-ltb day t.days l)
      (λ (l : t.days ≤ day). let none = get_or_past split (reading_slot day period) None (omega (arith, h.size)) in let z : ◌≡◌ {A = ℕ} 0 1 = cc in absurd (omega arith))
      (cases_lt day t.days) in
      ap (sum_of (of_period day period)) h.agrees.lines
      ∙ h.law.0.meter day period
      ∙ kwh_noted (h.plain.written day period) kwh (sym (h.notes day period within isp) ∙ noted)
