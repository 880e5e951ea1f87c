-- The numbers of a call, from the line's second word to its end. Each has the most that it may be.
use Rattle.std.specs.Prelude.{ℕ, List, drop, Ok, Result}
use Rattle.text.specs.Fields.{and_then, number_in, end_in}
use Rattle.text.specs.declared.fields.WordFault.{WordFault}

-- what was read, if no word is left where the word k would be
abbrev pub ending : {N : Type 0} → ℕ → List (List ℕ) → N → Result N WordFault
ending k ws ns = and_then (end_in k ws) (λ _. Ok ns)

-- two numbers
abbrev pub two : ℕ → ℕ → List (List ℕ) → Result (ℕ × ℕ) WordFault
two a b ws = and_then (number_in 2 a ws) (λ x. and_then (number_in 3 b (drop 1 ws)) (λ y. ending 4 (drop 2 ws) (x, y)))

-- three numbers
abbrev pub three : ℕ → ℕ → ℕ → List (List ℕ) → Result (ℕ × ℕ × ℕ) WordFault
three a b c ws =
    and_then (number_in 2 a ws) (λ x. and_then (number_in 3 b (drop 1 ws)) (λ y. and_then (number_in 4 c (drop 2 ws)) (λ z. ending 5 (drop 3 ws) (x, y, z))))

-- four numbers
abbrev pub four : ℕ → ℕ → ℕ → ℕ → List (List ℕ) → Result (ℕ × ℕ × ℕ × ℕ) WordFault
four a b c d ws =
    and_then (number_in 2 a ws) (λ x. and_then (number_in 3 b (drop 1 ws)) (λ y. and_then (number_in 4 c (drop 2 ws)) (λ z. and_then (number_in 5 d (drop 3 ws)) (λ u. ending 6 (drop 4 ws) (x, y, z, u)))))
