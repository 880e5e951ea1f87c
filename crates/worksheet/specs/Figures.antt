-- The figures of a half hour.
use Rattle.std.specs.Prelude.{ℕ, zero, suc, cond, List, [], ◌++◌, length, ℤ, codes}
use Rattle.std.specs.Fmt.{signed_decimal}
use Rattle.rules.specs.Meaning.{Meaning, answered}
use Rattle.entries.specs.Held.{Half}

-- the shares of the first n places, each after a space
unfoldable pub shares_text : (ℕ → ℤ) → ℕ → List ℕ
shares_text share zero = []
shares_text share (suc n) = shares_text share n ++ (codes " " ++ signed_decimal (share n))

-- what a rule answers of each place of a half hour
abbrev pub share_of : Meaning → Half → ℕ → ℤ
share_of m h i = answered m h.row h.period h.energy i

-- a rule's figure of a half hour: a share for each place, or that the row is unlawful
abbrev pub figure_text : Meaning → Half → List ℕ
figure_text m h =
    cond (m.lawful h.row) (shares_text (share_of m h) (length h.row.nominations)) (codes " unlawful")
