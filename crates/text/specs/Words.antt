-- Lines and words of bytes.
use Rattle.std.specs.Prelude.{ℕ, Bool, cond, not, ◌||◌, List, [], ◌∷◌, ◌++◌, take, ◌==◌}
use Rattle.std.specs.List.{prefix_len}

-- space, tab and carriage return
unfoldable pub blank : ℕ → Bool
blank c = c == 32 || (c == 9 || c == 13)

-- a piece that is at its end: none if it is empty
abbrev pub ended : List ℕ → List (List ℕ)
ended [] = []
ended (c ∷ cs) = (c ∷ cs) ∷ []

-- the words of what follows the letters w of a word
abbrev pub words_after : List ℕ → List ℕ → List (List ℕ)
words_after w [] = ended w
words_after w (c ∷ cs) = cond (blank c) (ended w ++ words_after [] cs) (words_after (w ++ c ∷ []) cs)

-- the words of a line, which stand between blanks
abbrev pub words_of : List ℕ → List (List ℕ)
words_of cs = words_after [] cs

-- the lines of what follows the bytes l of a line
abbrev pub lines_after : List ℕ → List ℕ → List (List ℕ)
lines_after l [] = ended l
lines_after l (c ∷ cs) = cond (c == 10) (l ∷ lines_after [] cs) (lines_after (l ++ c ∷ []) cs)

-- the lines of an input: each ends in a line feed, which the last one may lack
abbrev pub lines_of : List ℕ → List (List ℕ)
lines_of cs = lines_after [] cs

-- a line before its first `#`
abbrev pub uncommented : List ℕ → List ℕ
uncommented cs = take (prefix_len (λ c. not (c == 35)) cs) cs
