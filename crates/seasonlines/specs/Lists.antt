-- A list of numbers at the end of a line.
use Rattle.std.specs.Prelude.{ℕ, ◌+◌, ◌-◌, cond, List, [], ◌∷◌, ◌++◌, length, take, replicate, Ok, Err, Result, nat_le, min}
use Rattle.std.proofs.Common.{arith}
use Rattle.domain.specs.Limits.{periods}
use Rattle.text.specs.Fields.{and_then, word_number, most32}
use Rattle.text.specs.declared.fields.WordFault.{WordFault}
use Rattle.text.specs.declared.fields.WordFault.TheVariants.{Extra}
use Rattle.seasonlines.specs.declared.figures.Figures.{Figures}

-- the numbers in the words that are left after some: at most `most` in all, of which the first is the line's word `first`
abbrev pub numbers_in : ℕ → ℕ → List ℕ → List (List ℕ) → Result (List ℕ) WordFault
numbers_in first most ns [] = Ok ns
numbers_in first most ns (w ∷ ws) =
    cond (nat_le most (length ns)) (Err (Extra (first + length ns))) (and_then (word_number (first + length ns) most32 w) (λ n. numbers_in first most (ns ++ n ∷ []) ws))

-- these numbers in the first of n places, and 0 in the others
abbrev pub padded : ℕ → List ℕ → List ℕ
padded n ns = ns ++ replicate (n - length ns) 0

-- the figures that are held
abbrev pub figures_in : Figures → List ℕ
figures_in f = take f.count f.all

-- these numbers as figures: a line has at most 48 (of more, these would be the first 48)
abbrev pub figures_of : List ℕ → Figures
figures_of ns = record { all = padded periods ns; count = min (length ns) periods; few = omega arith }
