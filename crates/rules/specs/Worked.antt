-- Half hours that were worked by hand, each with the shares that the house rule gives it.
use Rattle.std.specs.Prelude.{◌≡◌, ℕ, ◌%◌, true, false, List, [], ◌∷◌, ℤ, pos, neg_ℤ}
use Rattle.rules.specs.Meaning.{Agreement}
use Rattle.rules.specs.House.{house}

-- a row at a Relevant Capacity of 60 kWh
abbrev pub at60 : ℕ → List ℕ → ℕ → Agreement
at60 method nominations balance =
    record { method = method; capacity = 60; nominations = nominations; balance = balance }

-- the row is lawful, and a period p with the energy e is split so
pub record Gives (t : Agreement) (p e : ℕ) (shares : List ℤ) : Type 0 where
  pub lawful : house.lawful t ≡ true
  pub split : house.shares t p e ≡ shares

-- minus n
abbrev pub minus : ℕ → ℤ
minus n = neg_ℤ (pos n)

-- half hours that were worked by hand, with a capacity of 60 kWh
pub record WorkedHalfHours : Type 0 where
  -- 30 kWh at 70% in period 13
  pub seventy : Gives (at60 1 (7000 ∷ 0 ∷ []) 1) 13 30 (pos 21 ∷ pos 9 ∷ [])
  -- 9 kWh at 50%: the half goes up in period 1 and down in period 2
  pub half_up : Gives (at60 1 (5000 ∷ 0 ∷ []) 1) 1 9 (pos 5 ∷ pos 4 ∷ [])
  pub half_down : Gives (at60 1 (5000 ∷ 0 ∷ []) 1) 2 9 (pos 4 ∷ pos 5 ∷ [])
  -- 5,000 kWh at 0.01%: one kWh in odd periods, none in even ones
  pub odd_one : (p : ℕ) → p % 2 ≡ 1 → Gives (at60 1 (1 ∷ 0 ∷ []) 1) p 5000 (pos 1 ∷ pos 4999 ∷ [])
  pub even_none : (p : ℕ) → p % 2 ≡ 0 → Gives (at60 1 (1 ∷ 0 ∷ []) 1) p 5000 (pos 0 ∷ pos 5000 ∷ [])
  -- capped at 30, 20 kWh
  pub capped : (p : ℕ) → Gives (at60 2 (30 ∷ 0 ∷ []) 1) p 20 (pos 20 ∷ pos 0 ∷ [])
  -- capped at 70, which is more than the capacity: 100 kWh
  pub capped_rest : (p : ℕ) → Gives (at60 2 (70 ∷ 0 ∷ []) 1) p 100 (pos 70 ∷ pos 30 ∷ [])
  -- fixed 30, 20 kWh: 10 kWh of virtual energy in the other direction
  pub fixed : (p : ℕ) → Gives (at60 3 (30 ∷ 0 ∷ []) 1) p 20 (pos 30 ∷ minus 10 ∷ [])
  -- fixed 2, 8, 5, 5 and 10 beside a balance place: 20 kWh leave it -10, and none leaves it -30
  pub five : (p : ℕ) → Gives (at60 4 (2 ∷ 8 ∷ 5 ∷ 5 ∷ 10 ∷ 0 ∷ []) 5) p 20 (pos 2 ∷ pos 8 ∷ pos 5 ∷ pos 5 ∷ pos 10 ∷ minus 10 ∷ [])
  pub five_of_none : (p : ℕ) → Gives (at60 4 (2 ∷ 8 ∷ 5 ∷ 5 ∷ 10 ∷ 0 ∷ []) 5) p 0 (pos 2 ∷ pos 8 ∷ pos 5 ∷ pos 5 ∷ pos 10 ∷ minus 30 ∷ [])
  -- a first block of 50 on 30%, in period 3: of 80 kWh, and of 40
  pub first : Gives (at60 5 (50 ∷ 3000 ∷ 0 ∷ []) 2) 3 80 (pos 50 ∷ pos 9 ∷ pos 21 ∷ [])
  pub first_short : Gives (at60 5 (50 ∷ 3000 ∷ 0 ∷ []) 2) 3 40 (pos 40 ∷ pos 0 ∷ pos 0 ∷ [])
  -- a first block of 20 on fixed 10 and 15 beside a balance place: 30 kWh leave it -15
  pub first_multiple : (p : ℕ) → Gives (at60 6 (20 ∷ 10 ∷ 15 ∷ 0 ∷ []) 3) p 30 (pos 20 ∷ pos 10 ∷ pos 15 ∷ minus 15 ∷ [])
  -- a first block of 50 on the same: it is not counted against the capacity
  pub first_over : (p : ℕ) → Gives (at60 6 (50 ∷ 10 ∷ 15 ∷ 0 ∷ []) 3) p 60 (pos 50 ∷ pos 10 ∷ pos 15 ∷ minus 15 ∷ [])
  -- first blocks of 10 and 20 on 25%: of 36 kWh, in period 3
  pub two_first : Gives (at60 7 (10 ∷ 20 ∷ 2500 ∷ 0 ∷ []) 3) 3 36 (pos 10 ∷ pos 20 ∷ pos 2 ∷ pos 4 ∷ [])
  -- a fixed 60 is lawful, and 61 is not
  pub room : house.lawful (at60 3 (60 ∷ 0 ∷ []) 1) ≡ true
  pub no_room : house.lawful (at60 3 (61 ∷ 0 ∷ []) 1) ≡ false
