-- What puts change of later answers, and what they leave.
use Rattle.std.proofs.Common.{◌≡◌, ℕ, ◌+◌, ◌≤◌, Bool, true, false, cond, eqb, List, [], ◌∷◌, Some, None, sym, refl, ap, ◌∙◌, ⊎_elim, arith}
use Rattle.std.specs.Option.{option_map}
use Rattle.std.proofs.lemmas.Bool.{and_parts, eqb-true}
use Rattle.std.proofs.lemmas.Bool.Decides.{nat_tests}
use Rattle.history.specs.Latest.{latest}
use Rattle.history.specs.Entries.{is_on, found, in_force, entry_at, keyed}
use Rattle.history.specs.Puts.{put_one, put_all, on_day}
use Rattle.history.specs.Questions.{Stands, Distinct, SameInForce, InForceFrom, AfterPut, AfterDay}
use Rattle.history.specs.declared.Dated.{Dated}
use Rattle.history.proofs.Latests.{option_cases, latest_is, latest_same, latest_since}
use Rattle.history.proofs.Finding.{is_off}
use Rattle.history.proofs.Answered.{found_first, found_none}
use Rattle.history.proofs.Keyed.{in_force_entry}
use Rattle.history.proofs.Putting.{found_put_other, keyed_put_here, keyed_put_other, found_day_other, keyed_day_here, keyed_day_other}

module _ {T : Type 0} where
  -- where no entry of the subject has the day, none is found
  none_found : (t : List (Dated T)) (s d : ℕ) → ((k : ℕ) (y : Dated T) → Stands t k y → y.subject ≡ s → y.day ≡ d → ⊥) → found t s d ≡ None
  none_found t s d never =
      ⊎_elim
      (λ (h : found t s d ≡ None). h)
      (λ (h : (i : ℕ) × (found t s d ≡ Some i)).
      let on = found_first t s d h.0 h.1 in
      absurd (never h.0 on.dated on.stands on.of_subject on.of_day))
      (option_cases (found t s d))

  -- and where one has, one is found
  some_found : (t : List (Dated T)) (k : ℕ) (y : Dated T) → Stands t k y → (i : ℕ) × (found t y.subject y.day ≡ Some i)
  some_found t k y at =
      ⊎_elim
      (λ (h : found t y.subject y.day ≡ None). absurd (found_none t y.subject y.day h k y at refl refl))
      (λ (h : (i : ℕ) × (found t y.subject y.day ≡ Some i)). h)
      (option_cases (found t y.subject y.day))

  -- u finds and says the same of the subject s as t, but on the day d
  pub record SameBut (t u : List (Dated T)) (s d : ℕ) : Type 0 where
    pub finds : (e : ℕ) → (e ≡ d → ⊥) → found u s e ≡ found t s e
    pub says : (e : ℕ) → (e ≡ d → ⊥) → keyed u s e ≡ keyed t s e

  through : (t u : List (Dated T)) (s e : ℕ) → latest (keyed u s) e ≡ latest (keyed t s) e → entry_at u (in_force u s e) ≡ entry_at t (in_force t s e)
  through t u s e h = in_force_entry u s e ∙ h ∙ sym (in_force_entry t s e)

  pub same_in_force : (t u : List (Dated T)) (s e : ℕ) → ((k : ℕ) → k ≤ e → found u s k ≡ found t s k) → ((k : ℕ) → k ≤ e → keyed u s k ≡ keyed t s k) → SameInForce t u s e
  same_in_force t u s e finds says = record {
    index = latest_same (found t s) (found u s) e finds;
    entry = through t u s e (latest_same (keyed t s) (keyed u s) e says);
  }

  pub in_force_from : (t u : List (Dated T)) (s d : ℕ) (x : T) → SameBut t u s d → keyed u s d ≡ Some x → InForceFrom t u s d x
  in_force_from t u s d x same here = record {
    before = λ e l. same_in_force t u s e (λ k m. same.finds k (λ q. omega arith)) (λ k m. same.says k (λ q. omega arith));
    since = λ e l never.
        in_force_entry u s e ∙ latest_is (keyed u s) e d x l here (λ k m n. same.says k (λ q. omega arith) ∙ ap (entry_at t) (none_found t s k (λ i y at p q. never i y at p (omega arith) (omega arith))));
    after = λ e k y at p l m.
        let have = some_found t k y at in
        let f : found t s y.day ≡ Some have.0 = ap (λ (z : ℕ). found t z y.day) (sym p) ∙ have.1 in
        let on = found_first t s y.day have.0 f in
        record {
          index = latest_since (found t s) (found u s) e d y.day have.0 l m f same.finds;
          entry = through t u s e (latest_since (keyed t s) (keyed u s) e d y.day on.dated.entry l m (ap (entry_at t) f ∙ ap (option_map (λ (z : Dated T). z.entry)) on.stands) same.says);
        };
  }

  -- puts keep the entries distinct
  pub distinct_put : (t : List (Dated T)) (x : Dated T) → Distinct t → Distinct (put_one t x)
  unfolding put_one found
  distinct_put [] x h = (refl, tt)
  distinct_put (y ∷ t) x h = go (is_on x.subject x.day y) refl (distinct_put t x h.1)
    where
      go : (b : Bool) → is_on x.subject x.day y ≡ b → Distinct (put_one t x) → Distinct (cond b (x ∷ t) (y ∷ put_one t x))
      go true e below =
          let both = and_parts (eqb y.subject x.subject) (eqb y.day x.day) e in
          let subject : x.subject ≡ y.subject = sym (eqb-true y.subject x.subject both.0) in
          let day : x.day ≡ y.day = sym (eqb-true y.day x.day both.1) in
          (rw (subject, day) h.0, h.1)
      go false e below =
          let off : is_on y.subject y.day x ≡ false = grind (arith, nat_tests) in
          (found_put_other t x y.subject y.day off ∙ h.0, below)

  pub distinct_all : (xs t : List (Dated T)) → Distinct t → Distinct (put_all t xs)
  distinct_all [] t h = h
  distinct_all (x ∷ xs) t h = distinct_all xs (put_one t x) (distinct_put t x h)

  pub after_put : (t : List (Dated T)) (x : Dated T) → AfterPut t x (put_one t x)
  after_put t x = record {
    put = in_force_from t (put_one t x) x.subject x.day x.entry (record {
      finds = λ e apart. found_put_other t x x.subject e (is_off x.subject e x (λ p q. apart (sym q)));
      says = λ e apart. keyed_put_other t x x.subject e (is_off x.subject e x (λ p q. apart (sym q)));
    }) (keyed_put_here t x);
    others = λ s e apart. same_in_force t (put_one t x) s e (λ k l. found_put_other t x s k (is_off s k x (λ p q. apart (sym p)))) (λ k l. keyed_put_other t x s k (is_off s k x (λ p q. apart (sym p))));
    finds = λ s e apart. found_put_other t x s e (is_off s e x (λ p q. apart (sym p) (sym q)));
    distinct = distinct_put t x;
  }

  pub after_day : (t : List (Dated T)) (d : ℕ) (items : List T) → AfterDay t d items (put_all t (on_day d 1 items))
  after_day t d items = record {
    put = λ k x at.
        in_force_from t (put_all t (on_day d 1 items)) (k + 1) d x (record {
          finds = λ e apart. found_day_other items t d 1 (k + 1) e (λ p l m. apart p);
          says = λ e apart. keyed_day_other items t d 1 (k + 1) e (λ p l m. apart p);
        }) (keyed_day_here items t d 1 (k + 1) k x (omega arith) at);
    others = λ s e apart.
        same_in_force t (put_all t (on_day d 1 items)) s e (λ k h. found_day_other items t d 1 s k (λ p l m. apart l (omega arith))) (λ k h. keyed_day_other items t d 1 s k (λ p l m. apart l (omega arith)));
    finds = λ s e apart. found_day_other items t d 1 s e (λ p l m. apart p);
    distinct = distinct_all (on_day d 1 items) t;
  }
