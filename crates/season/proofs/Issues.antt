-- An issue keeps the law.
use Rattle.std.proofs.Common.{◌≡◌, ℕ, suc, ◌-◌, ◌<◌, ◌≤◌, Bool, true, false, cond, ◌&&◌, eqb, leb, List, ◌++◌, ℤ, pos, ◌+ℤ◌, ◌<ℤ◌, Some, None, Option, unwrap_or, sym, refl, ap, ◌∙◌, subst, ⊎_elim, arith}
use lib.IntN.{+ℤ_idr, +ℤ_comm}
use Rattle.std.proofs.lemmas.Int.{ints}
use Rattle.std.proofs.lemmas.Bool.{cond-false, cond_both, eq-eqb, ne_eqb, eqb-true, eqb-false, leb-true, le-leb, cases_eq, cases_lt, both_ways, and_left, and_right, and_from, and_parts}
use Rattle.domain.specs.Limits.{periods}
use Rattle.domain.specs.Checks.{is_period}
use Rattle.domain.specs.Lines.{line_of, slot_lines}
use Rattle.domain.specs.declared.Line.{Line}
use Rattle.domain.specs.declared.terms.Terms.{Terms}
use Rattle.rules.specs.Meaning.{Meaning}
use Rattle.season.specs.Plain.{Plain, Written, slot_of, period_lines, issue_lines, issued, writes}
use Rattle.season.specs.Law.{sum_of, of_period, of_place, kwh_of, shares_if, share_for, Balances, Adds}
use Rattle.season.specs.Sound.{sum_below, Sound, AllSound}
use Rattle.season.proofs.Sums.{below_same, below_add, below_none, below_one, sum_append, sum_gathered, sum_slot, counted, cond_same}

-- what was written down, if anything, is a proper split
abbrev SoundAt : Terms → Option Written → Type 0
SoundAt t o = (w : Written) → o ≡ Some w → Sound t w

sound_some : (t : Terms) (is : Written) → Sound t is → SoundAt t (Some is)
sound_some t is s w e = let x : is ≡ w = cc in let P : Written → Type 0 = λ w. Sound t w in subst P x s

-- what the slots of a period have for the places and suppliers that q picks
abbrev held : Terms → (ℕ → ℕ → Bool) → Option Written → ℤ
held t q o = sum_below (λ place. counted (q place) (slot_of o place)) t.places

-- the lines of a period lead from what its slots had to what they have
sum_period : (t : Terms) (day run period : ℕ) (picks : Line → Bool) (q : ℕ → ℕ → Bool) → ((place s : ℕ) (z : ℤ) → picks (line_of day run period place s z) ≡ q place s) → (was : Option Written) (is : Written) → sum_of picks (period_lines t day run period was is) +ℤ held t q was ≡ held t q (Some is)
sum_period t day run period picks q by was is =
    let lines : ℕ → List Line = λ place. slot_lines (line_of day run period place) (slot_of was place) (slot_of (Some is) place) in
    let had : ℕ → ℤ = λ place. counted (q place) (slot_of was place) in
    ap (λ z. z +ℤ held t q was) (sum_gathered picks lines t.places)
    ∙ below_add (λ place. sum_of picks (lines place)) had t.places
    ∙ below_same (λ place. sum_of picks (lines place) +ℤ had place) (λ place. counted (q place) (slot_of (Some is) place)) t.places
    (λ place l. sum_slot picks (q place) day run period place (by place) (slot_of was place) (slot_of (Some is) place))

-- lines that the test does not pick add nothing
sum_unpicked : (t : Terms) (day run period : ℕ) (picks : Line → Bool) → ((place s : ℕ) (z : ℤ) → picks (line_of day run period place s z) ≡ false) → (was : Option Written) (is : Written) → sum_of picks (period_lines t day run period was is) ≡ pos 0
sum_unpicked t day run period picks by was is =
    let lines : ℕ → List Line = λ place. slot_lines (line_of day run period place) (slot_of was place) (slot_of (Some is) place) in
    sum_gathered picks lines t.places
    ∙ below_none (λ place. sum_of picks (lines place)) t.places
    (λ place l. sym (+ℤ_idr (sum_of picks (lines place))) ∙ sum_slot picks (λ s. false) day run period place (by place) (slot_of was place) (slot_of (Some is) place))

-- all slots of a period have the energy that was split
held_meter : (t : Terms) (o : Option Written) → SoundAt t o → held t (λ place s. true) o ≡ kwh_of o
held_meter t None s = below_none (λ place. pos 0) t.places (λ place l. refl)
held_meter t (Some w) s = (s w refl).total

-- a slot of no holder has no share
share_held : (h : Option ℕ) (x : ℕ) (z : ℤ) → (h ≡ None → z ≡ pos 0) → cond (eqb (unwrap_or h 0) x) z (pos 0) ≡ shares_if h x z
share_held None x z e = ap (λ v. cond (eqb 0 x) v (pos 0)) (e refl) ∙ cond_same (eqb 0 x) (pos 0)
share_held (Some y) x z e = refl

share_none : (h : Option ℕ) (x : ℕ) → pos 0 ≡ shares_if h x (pos 0)
share_none None x = refl
share_none (Some y) x = sym (cond_same (eqb y x) (pos 0))

-- the slot of a place has the place's share for the supplier that holds it
held_place : (t : Terms) (p x : ℕ) (o : Option Written) → SoundAt t o → held t (λ place s. eqb place p && eqb s x) o ≡ share_for o p x
held_place t p x None s = below_none (λ place. cond (eqb place p && eqb 0 x) (pos 0) (pos 0)) t.places (λ place l. cond_same (eqb place p && eqb 0 x) (pos 0))
held_place t p x (Some w) s =
    let sound = s w refl in
    let value : ℕ → ℤ = λ place. cond (eqb place p && eqb (unwrap_or (w.holder place) 0) x) (w.share place) (pos 0) in
    let other : (place : ℕ) → (place ≡ p → ⊥) → value place ≡ pos 0 = λ place e. cond-false (eqb place p && eqb (unwrap_or (w.holder place) 0) x) (w.share place) (pos 0) (and_left (eqb place p) _ (ne_eqb place p e)) in
    ⊎_elim
    (λ (l : p < t.places).
    below_one value t.places p l other
    ∙ ap (λ b. cond (b && eqb (unwrap_or (w.holder p) 0) x) (w.share p) (pos 0)) (eq-eqb p p refl)
    ∙ share_held (w.holder p) x (w.share p) (sound.absent p))
    (λ (l : t.places ≤ p).
    below_none value t.places (λ place k. other place (λ e. omega arith))
    ∙ share_none (w.holder p) x
    ∙ ap (shares_if (w.holder p) x) (sym (sound.beyond p l)))
    (cases_lt p t.places)

less_cond : (b : Bool) (z : ℤ) → cond b z (pos 0) <ℤ pos 0 → z <ℤ pos 0
less_cond true z h = h
less_cond false z h = absurd (omega (arith, ints))

less_share : (h : Option ℕ) (x : ℕ) (z : ℤ) → shares_if h x z <ℤ pos 0 → z <ℤ pos 0
less_share None x z l = absurd (omega (arith, ints))
less_share (Some y) x z l = less_cond (eqb y x) z l

-- a share below zero is the balance place's
less_balances : (t : Terms) (o : Option Written) → SoundAt t o → (place x : ℕ) → share_for o place x <ℤ pos 0 → Balances o place
less_balances t None s place x l = absurd (omega (arith, ints))
less_balances t (Some w) s place x l = (s w refl).negative place (less_share (w.holder place) x (w.share place) l)

period_at : (i p : ℕ) → i < periods → suc i ≡ p → is_period p ≡ true
period_at i p l e = and_from (leb 1 p) (leb p periods) (le-leb 1 p (omega arith)) (le-leb p periods (omega arith))

module _ (t : Terms) (m : Meaning) (b : Plain) (day run : ℕ) where
  -- what is written down after an issue: its own at the periods of its day, and elsewhere what was
  written_both : (d p : ℕ) (P : Option Written → Type 0) → (day ≡ d → is_period p ≡ true → P (Some (writes t m b day p))) → ((day ≡ d → is_period p ≡ true → ⊥) → P (b.written d p)) → P ((issued t m b day run).written d p)
  written_both d p P own other =
      cond_both (eqb d day) (λ period. cond (is_period period) (Some (writes t m b day period)) (b.written day period)) (b.written d) (λ f. P (f p))
      (λ h.
      let e : d ≡ day = eqb-true d day h in
      cond_both (is_period p) (Some (writes t m b day p)) (b.written day p) P (own (sym e))
      (λ k. let Q : ℕ → Type 0 = λ x. P (b.written x p) in subst Q e (other (λ _ x. both_ways (is_period p) k x))))
      (λ h. other (λ e x. eqb-false d day h (sym e)))

  -- the lines of an issue, of which the test picks none but those of a day's period
  module _ (picks : Line → Bool) (d p : ℕ) (apart : (period place s : ℕ) (z : ℤ) → (day ≡ d → period ≡ p → ⊥) → picks (line_of day run period place s z) ≡ false) where
    abbrev part : ℕ → List Line
    part i = period_lines t day run (suc i) (b.written day (suc i)) (writes t m b day (suc i))

    -- another day's issue, or no period: nothing
    sum_elsewhere : (day ≡ d → is_period p ≡ true → ⊥) → sum_of picks (issue_lines t m b day run) ≡ pos 0
    sum_elsewhere h =
        sum_gathered picks part periods
        ∙ below_none (λ i. sum_of picks (part i)) periods
        (λ i l. sum_unpicked t day run (suc i) picks
        (λ place s z. apart (suc i) place s z (λ e k. h e (period_at i p l k))) (b.written day (suc i)) (writes t m b day (suc i)))

    -- that day's issue: those of the period
    sum_here : is_period p ≡ true → sum_of picks (issue_lines t m b day run) ≡ sum_of picks (period_lines t day run p (b.written day p) (writes t m b day p))
    sum_here h =
        let both = and_parts (leb 1 p) (leb p periods) h in
        let low = leb-true 1 p both.0 in
        let high = leb-true p periods both.1 in
        let e : suc (p - 1) ≡ p = omega arith in
        sum_gathered picks part periods
        ∙ below_one (λ i. sum_of picks (part i)) periods (p - 1) (omega arith)
        (λ i l. sum_unpicked t day run (suc i) picks (λ place s z. apart (suc i) place s z (λ _ k. l (omega arith))) (b.written day (suc i)) (writes t m b day (suc i)))
        ∙ ap (λ i. sum_of picks (period_lines t day run i (b.written day i) (writes t m b day i))) e

    -- so a sum that agreed with what was written down before agrees with what is now
    sum_issue : (of : Option Written → ℤ) → (day ≡ d → (was : Option Written) (is : Written) → SoundAt t was → Sound t is → sum_of picks (period_lines t day run p was is) +ℤ of was ≡ of (Some is)) → AllSound t b → ((period : ℕ) → is_period period ≡ true → Sound t (writes t m b day period)) → sum_of picks b.lines ≡ of (b.written d p) → sum_of picks (issued t m b day run).lines ≡ of ((issued t m b day run).written d p)
    sum_issue of own sound proper agreed =
        written_both d p (λ o. sum_of picks (b.lines ++ issue_lines t m b day run) ≡ of o)
        (λ e h.
        sum_append picks b.lines (issue_lines t m b day run)
        ∙ ap (λ z. z +ℤ sum_of picks (issue_lines t m b day run)) (agreed ∙ ap (λ x. of (b.written x p)) (sym e))
        ∙ ap (λ z. of (b.written day p) +ℤ z) (sum_here h)
        ∙ +ℤ_comm (of (b.written day p)) (sum_of picks (period_lines t day run p (b.written day p) (writes t m b day p)))
        ∙ own e (b.written day p) (writes t m b day p) (sound day p) (proper p h))
        (λ h.
        sum_append picks b.lines (issue_lines t m b day run)
        ∙ ap (λ z. sum_of picks b.lines +ℤ z) (sum_elsewhere h)
        ∙ +ℤ_idr (sum_of picks b.lines)
        ∙ agreed)

-- the law from its first two parts
pub adds_from : (t : Terms) (b : Plain) (lines : List Line) → AllSound t b → ((day period : ℕ) → sum_of (of_period day period) lines ≡ kwh_of (b.written day period)) → ((day period place supplier : ℕ) → sum_of (of_place day period place supplier) lines ≡ share_for (b.written day period) place supplier) → Adds b lines
adds_from t b lines sound meter place = record {
  meter = meter;
  place = place;
  negative = λ d p q x l. let P : ℤ → Type 0 = λ z. z <ℤ pos 0 in less_balances t (b.written d p) (sound d p) q x (subst P (place d p q x) l);
}

apart_period : (day period d p : ℕ) → (day ≡ d → period ≡ p → ⊥) → (eqb day d && eqb period p) ≡ false
apart_period day period d p h =
    ⊎_elim
    (λ (e : day ≡ d). and_right (eqb day d) (eqb period p) (ne_eqb period p (h e)))
    (λ (e : day ≡ d → ⊥). and_left (eqb day d) (eqb period p) (ne_eqb day d e))
    (cases_eq day d)

same_period : (day period d p : ℕ) → day ≡ d → period ≡ p → (eqb day d && eqb period p) ≡ true
same_period day period d p e k = and_from (eqb day d) (eqb period p) (eq-eqb day d e) (eq-eqb period p k)

pub law_issue : (t : Terms) (m : Meaning) (b : Plain) (day run : ℕ) → Adds b b.lines → AllSound t b → ((period : ℕ) → is_period period ≡ true → Sound t (writes t m b day period)) → Adds (issued t m b day run) (issued t m b day run).lines × AllSound t (issued t m b day run)
law_issue t m b day run adds sound proper =
    let after = issued t m b day run in
    let still : AllSound t after = λ d p. written_both t m b day run d p (SoundAt t) (λ e h. sound_some t (writes t m b day p) (proper p h)) (λ _. sound d p) in (
      adds_from t after after.lines still
          (λ d p.
          sum_issue t m b day run (of_period d p) d p (λ period place s z. apart_period day period d p) kwh_of
          (λ e was is h k.
          ap (λ z. sum_of (of_period d p) (period_lines t day run p was is) +ℤ z) (sym (held_meter t was h))
          ∙ sum_period t day run p (of_period d p) (λ place s. true) (λ place s z. same_period day p d p e refl) was is
          ∙ held_meter t (Some is) (sound_some t is k))
          sound proper (adds.meter d p))
          (λ d p q x.
          sum_issue t m b day run (of_place d p q x) d p (λ period place s z h. and_left (eqb day d && eqb period p) _ (apart_period day period d p h)) (λ o. share_for o q x)
          (λ e was is h k.
          ap (λ z. sum_of (of_place d p q x) (period_lines t day run p was is) +ℤ z) (sym (held_place t q x was h))
          ∙ sum_period t day run p (of_place d p q x) (λ place s. eqb place q && eqb s x) (λ place s z. ap (λ c. c && (eqb place q && eqb s x)) (same_period day p d p e refl)) was is
          ∙ held_place t q x (Some is) (sound_some t is k))
          sound proper (adds.place d p q x)),
      still,
    )
