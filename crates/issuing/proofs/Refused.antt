-- Which check refuses an issue, once those before it are passed.
use Rattle.std.proofs.Common.{◌≡◌, ℕ, ◌+◌, ◌<◌, ◌≤◌, Bool, not, ◌&&◌, leb, List, length, get_or, is_some, None, Ok, Err, Option, Result, sym, ap, ◌∙◌}
use Rattle.std.proofs.lemmas.Bool.{leb-true, ltb-true, eqb-true}
use Rattle.domain.specs.Limits.{periods}
use Rattle.domain.specs.Slots.{reading_slots, issued_slots}
use Rattle.domain.specs.Checks.{and_then, is_day, readings_fit, issued_fit, reading_at, spoiled_reading}
use Rattle.domain.specs.declared.Reading.{Reading}
use Rattle.domain.specs.declared.Line.{Line}
use Rattle.domain.specs.declared.Slot.{Slot}
use Rattle.domain.specs.declared.Table.TheVariants.{Readings, Issued, Journal}
use Rattle.domain.specs.declared.Fault.{Fault}
use Rattle.domain.specs.declared.Fault.TheVariants.{ArgumentOutsideLimits, AnotherSize, Spoiled, ReadingMissing, HolderMissing}
use Rattle.domain.specs.declared.terms.Terms.{Terms}
use Rattle.rules.specs.Meaning.{Meaning}
use Rattle.issuing.specs.declared.Order.{Order}
use Rattle.issuing.specs.declared.Standing.{Standing}
use Rattle.issuing.specs.First.{first_where, unless_found}
use Rattle.issuing.specs.InForce.{is_ended, needs_holder}
use Rattle.issuing.specs.Slots.{is_empty, spoiled_before, counted}
use Rattle.issuing.specs.Issue.{is_run, supplier_on, lacks_holder, call_checked, in_force_checked, standing_checked, issue_checked}
use Rattle.issuing.proofs.Chains.{past, stop, past_found, found_then, unless_ok}
use Rattle.issuing.proofs.Firsts.{first_same}
use Rattle.issuing.proofs.Passed.{count_passed}
use Rattle.issuing.proofs.Stages.{call_then, force_then, standing_then}

-- what the first stage grants
pub call_ok : {A : Type 0} (t : Terms) (readings : List Reading) (issued : List Slot) (day run : ℕ) (rest : Result A Fault) {x : A} → call_checked t readings issued day run rest ≡ Ok x → (day < t.days) × (length readings ≡ reading_slots t.days) × (length issued ≡ issued_slots t.places t.days)
call_ok t readings issued day run rest h =
    let h1 = unless_ok _ (is_day t day) (ArgumentOutsideLimits 1) h in
    let h2 = unless_ok _ (is_run run) (ArgumentOutsideLimits 2) h1.1 in
    let h3 = unless_ok _ (readings_fit t readings) (AnotherSize Readings) h2.1 in
    let h4 = unless_ok _ (issued_fit t issued) (AnotherSize Issued) h3.1 in
    (ltb-true _ _ h1.0, eqb-true _ _ h3.0, eqb-true _ _ h4.0)

-- what the stage of the journal and the closed day grants
pub standing_ok : {A : Type 0} (k : Standing) (room day : ℕ) (rest : Result A Fault) {x : A} → standing_checked k room day rest ≡ Ok x → k.lines ≤ room
standing_ok k room day rest h = leb-true _ _ (unless_ok _ (leb k.lines room) (Spoiled Journal) h).0

-- an order, and what comes behind all checks
module _ {R : Type 0} (m : Meaning) (o : Order R) (issued : List Slot) (room : ℕ) {A : Type 0} (rest : Result A Fault) where
  abbrev spoiled3 : Option ℕ
  spoiled3 = first_where (λ i. spoiled_reading (reading_at o.readings.now o.day (i + 1))) periods

  abbrev spoiled4 : Option ℕ
  spoiled4 = spoiled_before o.terms issued o.day (issued_slots o.terms.places 1)

  abbrev empty : Option ℕ
  empty = first_where (λ i. is_empty (reading_at o.readings.now o.day (i + 1))) periods

  abbrev lacking : Option ℕ
  lacking = first_where (lacks_holder o.standing o.holders.now o.day) o.terms.places

  -- what is left of the checks behind each of them
  abbrev from7 : Result A Fault
  from7 = unless_found lacking HolderMissing rest

  abbrev from6 : Result A Fault
  from6 = unless_found empty (λ i. ReadingMissing (i + 1)) from7

  abbrev from5 : Result A Fault
  from5 = standing_checked o.standing room o.day from6

  abbrev from4 : Result A Fault
  from4 = unless_found spoiled4 (λ _. Spoiled Issued) from5

  abbrev from3 : Result A Fault
  from3 = unless_found spoiled3 (λ _. Spoiled Readings) from4

  abbrev from2 : Result A Fault
  from2 = in_force_checked m o.terms o.standing o.holders.now o.rows.now o.day from3

  abbrev all : Result A Fault
  all = issue_checked m o.terms o.standing o.holders.now o.rows.now o.readings.now issued room o.day o.run rest

  -- a holder or a row in force is spoiled
  pub stop2 : (e : Fault) → Err e ≡ in_force_checked {A = Unit} m o.terms o.standing o.holders.now o.rows.now o.day (Ok tt) → from2 ≡ Err e
  stop2 e h =
      stop from3 _ _ e (force_then from3 m o.terms o.standing o.holders.now o.rows.now o.day (Ok tt)) h

  -- a place lacks a holder, by what was looked up
  module _ (ended : Bool) (end : ended ≡ is_ended o.standing.ended o.day) (found : List (Option ℕ)) (each : (q : ℕ) → q < o.terms.places → get_or found q None ≡ supplier_on o.standing o.holders.now o.day q) where
    same : first_where (λ q. needs_holder ended q && not (is_some (get_or found q None))) o.terms.places ≡ lacking
    same =
        first_same (λ q. needs_holder ended q && not (is_some (get_or found q None))) (lacks_holder o.standing o.holders.now o.day) o.terms.places (λ q l. ap (λ (b : Bool). needs_holder b q && not (is_some (get_or found q None))) end ∙ ap (λ (x : Option ℕ). needs_holder (is_ended o.standing.ended o.day) q && not (is_some x)) (each q l))

    behind : from7 ≡ and_then (unless_found {A = Unit} (first_where (λ q. needs_holder ended q && not (is_some (get_or found q None))) o.terms.places) HolderMissing (Ok tt)) (λ _. rest)
    behind =
        found_then rest lacking HolderMissing (Ok tt) ∙ ap (λ (x : Option ℕ). and_then (unless_found {A = Unit} x HolderMissing (Ok tt)) (λ _. rest)) (sym same)

    pub stop7 : (e : Fault) → Err e ≡ unless_found {A = Unit} (first_where (λ q. needs_holder ended q && not (is_some (get_or found q None))) o.terms.places) HolderMissing (Ok tt) → from7 ≡ Err e
    stop7 e h = stop rest _ _ e behind h

    past7 : Ok tt ≡ unless_found {A = Unit} (first_where (λ q. needs_holder ended q && not (is_some (get_or found q None))) o.terms.places) HolderMissing (Ok tt) → from7 ≡ rest
    past7 h = past rest _ _ behind h

  module _ (h1 : Ok tt ≡ call_checked {A = Unit} o.terms o.readings.now issued o.day o.run (Ok tt)) where
    pub past1 : all ≡ from2
    past1 = past from2 _ _ (call_then from2 o.terms o.readings.now issued o.day o.run (Ok tt)) h1

    module _ (h2 : Ok tt ≡ in_force_checked {A = Unit} m o.terms o.standing o.holders.now o.rows.now o.day (Ok tt)) (h3 : Ok tt ≡ unless_found {A = Unit} spoiled3 (λ _. Spoiled Readings) (Ok tt)) (n : ℕ) (ls : List Line) (h4 : Ok n ≡ counted spoiled4 ls) (h5 : Ok tt ≡ standing_checked {A = Unit} o.standing room o.day (Ok tt)) where
      pub past5 : all ≡ from6
      past5 =
          past1
          ∙ past from3 _ _ (force_then from3 m o.terms o.standing o.holders.now o.rows.now o.day (Ok tt)) h2
          ∙ past from4 _ _ (found_then from4 spoiled3 (λ _. Spoiled Readings) (Ok tt)) h3
          ∙ past_found from5 spoiled4 (λ _. Spoiled Issued) (count_passed spoiled4 ls n h4).0
          ∙ past from6 _ _ (standing_then from6 o.standing room o.day (Ok tt)) h5

      module _ (h6 : Ok tt ≡ unless_found {A = Unit} empty (λ i. ReadingMissing (i + 1)) (Ok tt)) where
        pub past6 : all ≡ from7
        past6 = past5 ∙ past from7 _ _ (found_then from7 empty (λ i. ReadingMissing (i + 1)) (Ok tt)) h6

        -- all checks are passed
        pub past_all : (ended : Bool) (end : ended ≡ is_ended o.standing.ended o.day) (found : List (Option ℕ)) (each : (q : ℕ) → q < o.terms.places → get_or found q None ≡ supplier_on o.standing o.holders.now o.day q) → Ok tt ≡ unless_found {A = Unit} (first_where (λ q. needs_holder ended q && not (is_some (get_or found q None))) o.terms.places) HolderMissing (Ok tt) → all ≡ rest
        past_all ended end found each h7 = past6 ∙ past7 ended end found each h7
