-- Two places: the first has a part of the energy, and the second, the balance place, has the rest.
use Rattle.std.specs.Prelude.{ℕ, ◌+◌, ◌-◌, ◌*◌, ◌/◌, ◌%◌, min, Bool, cond, ◌&&◌, ◌||◌, [], ◌∷◌, length, pos, ◌==◌, nat_le, nat_lt, slice_index}
use Rattle.domain.specs.Limits.{most_kwh}
use Rattle.rules.specs.Meaning.{Agreement, Meaning}

-- what the first place nominates
abbrev pub first_of : Agreement → ℕ
first_of t = slice_index t.nominations 0

-- two places, of which the second balances and nominates nothing, and the first nominates at most `most`
abbrev pub is_pair : ℕ → Agreement → Bool
is_pair most t =
    (length t.nominations == 2) && (t.balance == 1 && (slice_index t.nominations 1 == 0 && nat_le (first_of t) most))

-- the first place has `part`, and the second the rest
abbrev pub pairs : ℕ → (Agreement → ℕ → ℕ → ℕ) → Meaning
pairs most part = record {
  lawful = is_pair most;
  shares = λ t p e. pos (part t p e) ∷ pos (e - part t p e) ∷ [];
}

-- the whole of a percentage, in hundredths of a percent
abbrev pub whole : ℕ
whole = 10000

-- x ÷ 10,000 to the nearest whole number; an exact half goes up in an odd period and down in an even one
abbrev pub nearest : ℕ → ℕ → ℕ
nearest p x =
    cond (nat_lt 5000 (x % whole) || (x % whole == 5000 && p % 2 == 1)) (x / whole + 1) (x / whole)

-- the first place's percentage of the energy, which it nominates in hundredths of a percent
abbrev pub percent_of : Agreement → ℕ → ℕ → ℕ
percent_of t p e = nearest p (first_of t * e)

-- what the first place nominates, as far as the energy goes
abbrev pub taken : Agreement → ℕ → ℕ
taken t e = min (first_of t) e

-- method 1, Percentage
abbrev pub percentage : Meaning
percentage = pairs whole percent_of

-- method 2, Capped Block
abbrev pub capped_block : Meaning
capped_block = pairs most_kwh (λ t p e. taken t e)
