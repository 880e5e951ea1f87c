-- What the answers of a history say of its entries.
use Rattle.std.proofs.Common.{◌≡◌, ℕ, zero, suc, ◌<◌, ◌≤◌, Bool, true, false, cond, List, [], ◌∷◌, Some, None, Option, refl, ap, ◌∙◌, ⊎_elim, arith, MatchOption}
use Rattle.std.specs.Option.{option_map}
use Rattle.std.proofs.lemmas.Option.{MatchOption-at_some, MatchOption-at_none}
use Rattle.std.proofs.lemmas.Bool.{cases_lt}
use Rattle.std.proofs.lemmas.Bool.Decides.{nat_tests}
use Rattle.history.specs.Entries.{is_on, found, in_force}
use Rattle.history.specs.Questions.{Stands, NoneDue, InForce, NoneOn, FirstOn}
use Rattle.history.specs.declared.Dated.{Dated}
use Rattle.history.proofs.Latests.{some_is_not_none, latest_day, latest_never}

module _ {T : Type 0} where
  is_on_both : (s d : ℕ) (x : Dated T) → is_on s d x ≡ true → (x.subject ≡ s) × (x.day ≡ d)
  is_on_both s d x h = (grind (arith, nat_tests), grind (arith, nat_tests))

  is_on_not : (s d : ℕ) (x y : Dated T) → is_on s d x ≡ false → ◌≡◌ {A = Option (Dated T)} (Some x) (Some y) → y.subject ≡ s → y.day ≡ d → ⊥
  is_on_not s d x y h e p q =
      let same : x ≡ y = cc in
      let p' : x.subject ≡ s = ap (λ (z : Dated T). z.subject) same ∙ p in
      let q' : x.day ≡ d = ap (λ (z : Dated T). z.day) same ∙ q in
      grind (arith, nat_tests)

  -- the index found is that of the first entry, and none where there is no such entry
  pub found_says : (t : List (Dated T)) (s d : ℕ) → MatchOption (found t s d) (NoneOn t s d) (FirstOn t s d)
  unfolding found
  found_says [] s d = λ k y at p q. some_is_not_none at refl
  found_says (x ∷ t) s d = go (is_on s d x) refl (found t s d) (found_says t s d)
    where
      go : (b : Bool) → is_on s d x ≡ b → (o : Option ℕ) → MatchOption o (NoneOn t s d) (FirstOn t s d) → MatchOption (cond b (Some 0) (option_map suc o)) (NoneOn (x ∷ t) s d) (FirstOn (x ∷ t) s d)
      go true e o h = record {
        dated = x;
        stands = refl;
        of_subject = (is_on_both s d x e).0;
        of_day = (is_on_both s d x e).1;
        first = λ k y l at p q. omega arith;
      }
      go false e None h = before
        where
          before : (k : ℕ) (y : Dated T) → Stands (x ∷ t) k y → y.subject ≡ s → y.day ≡ d → ⊥
          before zero y at p q = is_on_not s d x y e at p q
          before (suc k) y at p q = h k y at p q
      go false e (Some i) h = record {
        dated = h.dated;
        stands = h.stands;
        of_subject = h.of_subject;
        of_day = h.of_day;
        first = before;
      }
        where
          before : (k : ℕ) (y : Dated T) → k < suc i → Stands (x ∷ t) k y → y.subject ≡ s → y.day ≡ d → ⊥
          before zero y l at p q = is_on_not s d x y e at p q
          before (suc k) y l at p q = h.first k y (omega arith) at p q

  pub found_first : (t : List (Dated T)) (s d i : ℕ) → found t s d ≡ Some i → FirstOn t s d i
  found_first t s d i h = MatchOption-at_some (NoneOn t s d) (FirstOn t s d) i h (found_says t s d)

  pub found_none : (t : List (Dated T)) (s d : ℕ) → found t s d ≡ None → NoneOn t s d
  found_none t s d h = MatchOption-at_none (NoneOn t s d) (FirstOn t s d) h (found_says t s d)

  -- the entry in force is the latest that is not after the day, the first among equals, and none where there is no such entry
  pub in_force_says : (t : List (Dated T)) (s d : ℕ) → MatchOption (in_force t s d) (NoneDue t s d) (InForce t s d)
  in_force_says t s d = go (in_force t s d) refl
    where
      go : (o : Option ℕ) → in_force t s d ≡ o → MatchOption o (NoneDue t s d) (InForce t s d)
      go None e = λ k y at p due. found_none t s y.day (latest_never (found t s) d e y.day due) k y at p refl
      go (Some i) e =
          let put = latest_day (found t s) d i e in
          let on = found_first t s put.0 i put.2 in
          record {
            dated = on.dated;
            stands = on.stands;
            of_subject = on.of_subject;
            due = let same = on.of_day in let early = put.1 in omega arith;
            latest = λ k y at p due.
                ⊎_elim
                (λ (l : put.0 < y.day). absurd (found_none t s y.day (put.3 y.day l due) k y at p refl))
                (λ (l : y.day ≤ put.0). let same = on.of_day in omega arith)
                (cases_lt put.0 y.day);
            first = λ k y l at p q. on.first k y l at p (q ∙ on.of_day);
          }
