-- What an issue writes down for a period that is ready is a proper split.
use Rattle.std.proofs.Common.{◌≡◌, ℕ, zero, suc, ◌<◌, ◌≤◌, Bool, true, false, cond, eqb, leb, List, [], ◌∷◌, length, get_or, ℤ, pos, ◌+ℤ◌, ◌<ℤ◌, Some, None, Option, unwrap_or, refl, ap, ◌∙◌, subst, ⊎_elim, arith, length-take}
use Rattle.std.proofs.lemmas.List.{get_or_past}
use Rattle.std.proofs.lemmas.Int.{ints}
use Rattle.std.proofs.lemmas.Bool.{cond-true, cond-false, ne_eqb, eq-eqb, cases_eq, cases_lt, cases_Bool, both_ways, and_parts, and_from, le-leb}
use Rattle.domain.specs.Limits.{periods, most_kwh}
use Rattle.domain.specs.Checks.{is_period}
use Rattle.domain.specs.declared.AllocationRow.{AllocationRow}
use Rattle.domain.specs.declared.terms.Terms.{Terms}
use Rattle.rules.specs.Meaning.{Meaning, Laws, total, in_range}
use Rattle.rows.specs.Rows.{agreement}
use Rattle.season.specs.Plain.{Plain, has_ended, holds, in_use, shares_of, writes}
use Rattle.season.specs.Sound.{sum_below, Sound}
use Rattle.season.proofs.Sums.{below_none, below_one, below_front}

-- the sum below n of a list that is no longer than n is its total
total_below : (xs : List ℤ) (n : ℕ) → length xs ≤ n → sum_below (λ k. get_or xs k (pos 0)) n ≡ total xs
total_below [] n h = below_none (λ k. pos 0) n (λ k l. refl)
total_below (x ∷ xs) zero h = absurd (omega arith)
total_below (x ∷ xs) (suc n) h =
    below_front (λ k. get_or (x ∷ xs) k (pos 0)) n ∙ ap (λ z. x +ℤ z) (total_below xs n (omega arith))

not_less : (b : Bool) (n : ℕ) → cond b (pos n) (pos 0) <ℤ pos 0 → ⊥
not_less true n h = omega (arith, ints)
not_less false n h = omega (arith, ints)

-- a share below zero stands in the list
within : (xs : List ℤ) (k : ℕ) → get_or xs k (pos 0) <ℤ pos 0 → k < length xs
within xs k h =
    ⊎_elim
    (λ (l : k < length xs). l)
    (λ (l : length xs ≤ k). let P : ℤ → Type 0 = λ z. z <ℤ pos 0 in let less = subst P (get_or_past xs k (pos 0) l) h in absurd (omega (arith, ints)))
    (cases_lt k (length xs))

module _ (t : Terms) (m : Meaning) (laws : Laws m) (period kwh : ℕ) (range : in_range period kwh ≡ true) (holder : ℕ → Option ℕ) where
  -- with no row place 0 has all
  sound_alone : ((place : ℕ) → place < t.places → holder place ≡ None → place ≡ 0 → ⊥) → Sound t (record { kwh = kwh; holder = holder; row = None; share = shares_of t m None period kwh })
  sound_alone none =
      let other : (place : ℕ) → (place ≡ 0 → ⊥) → shares_of t m None period kwh place ≡ pos 0 = λ place e. cond-false (eqb place 0) (pos kwh) (pos 0) (ne_eqb place 0 e) in
      let past : (place : ℕ) → t.places ≤ place → shares_of t m None period kwh place ≡ pos 0 = λ place h. other place (λ e. omega (arith, t.shared)) in
      record {
        total = below_one (shares_of t m None period kwh) t.places 0 (omega (arith, t.shared)) other ∙ cond-true (eqb 0 0) (pos kwh) (pos 0) (eq-eqb 0 0 refl);
        absent = λ place h. ⊎_elim (λ (l : place < t.places). other place (none place l h)) (λ (l : t.places ≤ place). past place l) (cases_lt place t.places);
        beyond = past;
        negative = λ place h. absurd (not_less (eqb place 0) kwh h);
      }

  -- with a lawful row its shares do
  sound_row_lem : (row : AllocationRow) → m.lawful (agreement t row) ≡ true → ((place : ℕ) → place < t.places → holder place ≡ None → ⊥) → Sound t (record { kwh = kwh; holder = holder; row = Some row; share = shares_of t m (Some row) period kwh })
  sound_row_lem row lawful none =
      let xs = m.shares (agreement t row) period kwh in
      let split = laws (agreement t row) period kwh lawful range in
      let few : length xs ≤ t.places = omega (arith, split.places, length-take t.places row.nominations) in
      let past : (place : ℕ) → t.places ≤ place → get_or xs place (pos 0) ≡ pos 0 = λ place h. get_or_past xs place (pos 0) (omega arith) in
      record {
        total = total_below xs t.places few ∙ split.whole;
        absent = λ place h. ⊎_elim (λ (l : place < t.places). absurd (none place l h)) (λ (l : t.places ≤ place). past place l) (cases_lt place t.places);
        beyond = past;
        negative = λ place h. (
          row,
          refl,
          ⊎_elim
              (λ (e : place ≡ row.balance). e)
              (λ (e : place ≡ row.balance → ⊥). let fair = (split.each place (within xs place h)).sign e in absurd (omega (arith, ints)))
              (cases_eq place row.balance),
        );
      }

  -- with or without
  sound_split : (o : Option AllocationRow) → ((row : AllocationRow) → o ≡ Some row → m.lawful (agreement t row) ≡ true) → ((place : ℕ) → place < t.places → holder place ≡ None → (o ≡ None) × (place ≡ 0 → ⊥)) → Sound t (record { kwh = kwh; holder = holder; row = o; share = shares_of t m o period kwh })
  sound_split None lawful none = sound_alone (λ place l h. (none place l h).1)
  sound_split (Some row) lawful none = sound_row_lem row (lawful row refl) (λ place l h. let e = (none place l h).0 in cc)

in_range_lem : (period kwh : ℕ) → is_period period ≡ true → kwh ≤ most_kwh → in_range period kwh ≡ true
in_range_lem period kwh h l =
    let both = and_parts (leb 1 period) (leb period periods) h in
    and_from (leb 1 period) _ both.0 (and_from (leb period periods) (leb kwh most_kwh) both.1 (le-leb kwh most_kwh l))

-- a place that is not held, though each that must be is: the sharing has ended, and it is not place 0
unheld : (t : Terms) (b : Plain) (day period : ℕ) → ((place : ℕ) → place < t.places → (has_ended b.ended day ≡ true → place ≡ 0) → holds b day place ≡ None → ⊥) → (place : ℕ) → place < t.places → holds b day place ≡ None → (in_use b day period ≡ None) × (place ≡ 0 → ⊥)
unheld t b day period held place l h =
    ⊎_elim
    (λ (e : has_ended b.ended day ≡ true). (cond-true (has_ended b.ended day) _ _ e, λ z. held place l (λ _. z) h))
    (λ (e : has_ended b.ended day ≡ false). absurd (held place l (λ f. absurd (both_ways (has_ended b.ended day) e f)) h))
    (cases_Bool (has_ended b.ended day))

pub sound_writes : (t : Terms) (m : Meaning) → Laws m → (b : Plain) (day period : ℕ) → is_period period ≡ true → unwrap_or (b.read day period) 0 ≤ most_kwh → ((row : AllocationRow) → in_use b day period ≡ Some row → m.lawful (agreement t row) ≡ true) → ((place : ℕ) → place < t.places → (has_ended b.ended day ≡ true → place ≡ 0) → holds b day place ≡ None → ⊥) → Sound t (writes t m b day period)
sound_writes t m laws b day period isp few lawful held =
    sound_split t m laws period (unwrap_or (b.read day period) 0) (in_range_lem period (unwrap_or (b.read day period) 0) isp few) (holds b day)
    (in_use b day period) lawful (unheld t b day period held)
