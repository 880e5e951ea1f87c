-- What a splitting rule means, and the three laws that every rule keeps.
use Rattle.std.specs.Prelude.{◌≡◌, ℕ, ◌<◌, max, Bool, true, cond, ◌&&◌, List, [], ◌∷◌, length, ℤ, pos, ◌+ℤ◌, neg_ℤ, ◌≤ℤ◌, ◌≢◌, nat_le, slice_index_or}
use Rattle.domain.specs.Limits.{periods, most_kwh}

-- what the parties agreed for a row of places: one nomination for each place
pub record Agreement : Type 0 where
  pub method : ℕ
  -- the Relevant Capacity, in kWh for one period
  pub capacity : ℕ
  pub nominations : List ℕ
  -- the place that takes what the others leave
  pub balance : ℕ

-- a rule, by what it says: which rows are lawful, and each place's share for a period and an energy
pub record Meaning : Type 0 where
  pub lawful : Agreement → Bool
  pub shares : Agreement → ℕ → ℕ → List ℤ

-- a Settlement Period of the day, and an energy that a meter can count in one
abbrev pub in_range : ℕ → ℕ → Bool
in_range p e = nat_le 1 p && (nat_le p periods && nat_le e most_kwh)

-- the sum of some shares
abbrev pub total : List ℤ → ℤ
total [] = pos 0
total (x ∷ xs) = x +ℤ total xs

-- the share s of the place i lies within its bounds, and only the balance place's may be negative
pub record Fair (t : Agreement) (e i : ℕ) (s : ℤ) : Type 0 where
  pub low : neg_ℤ (pos t.capacity) ≤ℤ s
  pub high : s ≤ℤ pos (max e t.capacity)
  pub sign : (i ≢ t.balance) → pos 0 ≤ℤ s

-- a share for each place, which add up to the energy e
pub record Split (t : Agreement) (e : ℕ) (s : List ℤ) : Type 0 where
  pub places : length s ≡ length t.nominations
  pub whole : total s ≡ pos e
  pub each : (i : ℕ) → i < length s → Fair t e i (slice_index_or s i (pos 0))

-- the three laws, for a lawful row, a period of the day and an energy within its limit
abbrev pub Laws : Meaning → Type 0
Laws m =
    (t : Agreement) (p e : ℕ) → m.lawful t ≡ true → in_range p e ≡ true → Split t e (m.shares t p e)

-- what a rule answers of a place: its share, and 0 where there is none
abbrev pub answered : Meaning → Agreement → ℕ → ℕ → ℕ → ℤ
answered m t p e i = cond (m.lawful t && in_range p e) (slice_index_or (m.shares t p e) i (pos 0)) (pos 0)
