-- What a table says of a subject, day by day, and what is in force by it.
use Rattle.std.proofs.Common.{◌≡◌, ℕ, suc, ◌<◌, ◌≤◌, Bool, true, false, cond, List, [], ◌∷◌, length, get_or, take, Some, None, Option, refl, ap, ◌∙◌, arith}
use Rattle.std.specs.Option.{option_map}
use Rattle.std.proofs.lemmas.List.{get_or-take, length-take-le}
use Rattle.std.proofs.lemmas.Option.{slice_get-get_or}
use Rattle.history.specs.Latest.{latest}
use Rattle.history.specs.Entries.{is_on, found, in_force, entry_at, keyed}
use Rattle.history.specs.declared.Dated.{Dated}
use Rattle.history.proofs.Latests.{latest_through, latest_same}
use Rattle.history.proofs.Answered.{found_first}

module _ {T : Type 0} where
  pub keyed_nil : (s d : ℕ) → keyed {T = T} [] s d ≡ None
  unfolding found
  keyed_nil s d = refl

  -- the first entry decides, if it is of that subject and day
  pub keyed_cons : (x : Dated T) (t : List (Dated T)) (s d : ℕ) → keyed (x ∷ t) s d ≡ cond (is_on s d x) (Some x.entry) (keyed t s d)
  unfolding found
  keyed_cons x t s d = go (is_on s d x) (found t s d)
    where
      go : (b : Bool) (o : Option ℕ) → entry_at (x ∷ t) (cond b (Some 0) (option_map suc o)) ≡ cond b (Some x.entry) (entry_at t o)
      go true o = refl
      go false None = refl
      go false (Some i) = refl

  -- the entry in force is what the table says of the latest day not after, for every table
  pub in_force_entry : (t : List (Dated T)) (s d : ℕ) → entry_at t (in_force t s d) ≡ latest (keyed t s) d
  in_force_entry t s d =
      latest_through (entry_at t) (found t s) d refl (λ e i h. let on = found_first t s e i h in (on.dated.entry, ap (entry_at t) h ∙ ap (option_map (λ (x : Dated T). x.entry)) on.stands))

  -- a table that says the same as a map has in force what the map has
  pub in_force_agrees : (t : List (Dated T)) (m : ℕ → ℕ → Option T) (s d : ℕ) → ((e : ℕ) → e ≤ d → keyed t s e ≡ m s e) → entry_at t (in_force t s d) ≡ latest (m s) d
  in_force_agrees t m s d agrees = in_force_entry t s d ∙ latest_same (m s) (keyed t s) d agrees

  -- what a read of the table gives at an index that was answered, whatever stands for a missing element
  pub entry_read : (t : List (Dated T)) (count i : ℕ) (z : Dated T) → count ≤ length t → i < length (take count t) → entry_at (take count t) (Some i) ≡ Some (get_or t i z).entry
  entry_read t count i z held within =
      let size = length-take-le count t held in
      ap (option_map (λ (y : Dated T). y.entry)) (slice_get-get_or (take count t) i z within ∙ ap Some (get_or-take count t i z (omega arith)))
