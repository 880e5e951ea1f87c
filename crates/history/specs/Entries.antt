-- The entries of a history: where one stands, and which one is in force.
use Rattle.std.specs.Prelude.{ℕ, suc, Bool, cond, ◌&&◌, List, [], ◌∷◌, Some, None, Option, ◌==◌, nat_le}
use Rattle.std.specs.Option.{option_map}
use Rattle.std.specs.List.{slice_get}
use Rattle.domain.specs.Limits.{periods}
use Rattle.history.specs.Latest.{latest}
use Rattle.history.specs.declared.Dated.{Dated}

module _ {T : Type 0} where
  -- an entry of the subject s and the day d
  abbrev pub is_on : ℕ → ℕ → Dated T → Bool
  is_on s d x = x.subject == s && x.day == d

  -- an entry of the subject s, not after the day d
  abbrev pub is_due : ℕ → ℕ → Dated T → Bool
  is_due s d x = x.subject == s && nat_le x.day d

  -- an entry of a Settlement Period and the day d
  abbrev pub of_period : ℕ → Dated T → Bool
  of_period d x = nat_le 1 x.subject && (nat_le x.subject periods && x.day == d)

  -- an entry of a Settlement Period, not after the day d
  abbrev pub for_period : ℕ → Dated T → Bool
  for_period d x = nat_le 1 x.subject && (nat_le x.subject periods && nat_le x.day d)

  -- the index of the first entry of that subject and day
  unfoldable pub found : List (Dated T) → ℕ → ℕ → Option ℕ
  found [] s d = None
  found (x ∷ xs) s d = cond (is_on s d x) (Some 0) (option_map suc (found xs s d))

  -- the index of the entry in force: of the latest day not after d, the first in the table among equals
  abbrev pub in_force : List (Dated T) → ℕ → ℕ → Option ℕ
  in_force t s d = latest (found t s) d

  -- the entry at an index that was answered
  abbrev pub entry_at : List (Dated T) → Option ℕ → Option T
  entry_at t None = None
  entry_at t (Some i) = option_map (λ x. x.entry) (slice_get t i)

  -- what the table says of a subject on the day itself
  abbrev pub keyed : List (Dated T) → ℕ → ℕ → Option T
  keyed t s d = entry_at t (found t s d)
