-- Decimal numbers in bytes.
use Rattle.std.specs.Prelude.{ℕ, ◌+◌, ◌-◌, ◌*◌, cond, not, ◌||◌, List, [], ◌∷◌, length, Ok, Err, Result, ◌==◌, nat_le}
use Rattle.std.specs.Str.{all_ascii_digits}
use Rattle.text.specs.declared.Misread.{Misread}
use Rattle.text.specs.declared.Misread.TheVariants.{NotDecimal, TooLarge}

-- the number that digits write after those of n
abbrev pub number_after : ℕ → List ℕ → ℕ
number_after n [] = n
number_after n (c ∷ cs) = number_after (n * 10 + (c - 48)) cs

-- the number that a word writes: digits alone, at most `most`
abbrev pub decimal_in : List ℕ → ℕ → Result ℕ Misread
decimal_in w most = cond (length w == 0 || not (all_ascii_digits w)) (Err NotDecimal) (cond (nat_le (number_after 0 w) most) (Ok (number_after 0 w)) (Err TooLarge))
