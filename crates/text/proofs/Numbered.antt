use Rattle.std.proofs.Common.{ℕ, ◌+◌, ◌-◌, ◌*◌, ◌<◌, ◌≤◌, List, [], ◌∷◌, length, get_or, drop, arith}
use Rattle.std.proofs.lemmas.List.{at_drop_more}
use Rattle.text.specs.Numbers.{number_after}

-- more digits make no number smaller
pub number_after_ge : (n : ℕ) (cs : List ℕ) → n ≤ number_after n cs
number_after_ge n [] = omega arith
number_after_ge n (c ∷ cs) = let more = number_after_ge (n * 10 + (c - 48)) cs in omega arith

-- nor does the next of some digits
pub next_digit_ge : (n i : ℕ) (cs : List ℕ) → i < length cs → n * 10 + (get_or cs i 0 - 48) ≤ number_after n (drop i cs)
next_digit_ge n i cs within =
    let more = at_drop_more (number_after n) cs i 0 within in
    let least = number_after_ge (n * 10 + (get_or cs i 0 - 48)) (drop (i + 1) cs) in
    omega arith
