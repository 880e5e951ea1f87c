-- What is printed of a table.
use Rattle.std.specs.Prelude.{ℕ, ◌+◌, ◌<◌, List, [], ◌∷◌, ◌++◌, codes, decimal}
use Rattle.rules.specs.Meaning.{Meaning}
use Rattle.text.specs.Words.{lines_of}
use Rattle.worksheet.specs.declared.Outcome.{Outcome}
use Rattle.worksheet.specs.declared.Outcome.TheVariants.{Blank, Split, Unlawful, Malformed, Differing}
use Rattle.worksheet.specs.declared.Tally.{Tally}
use Rattle.worksheet.specs.Lines.{line_text, line_outcome}

-- so many half hours split, unlawful, malformed and differing
abbrev pub tally_of : ℕ → ℕ → ℕ → ℕ → Tally
tally_of s u m d = record { split = s; unlawful = u; malformed = m; differing = d }

-- each count is below a limit
pub record Under (limit : ℕ) (t : Tally) : Type 0 where
  pub split : t.split < limit
  pub unlawful : t.unlawful < limit
  pub malformed : t.malformed < limit
  pub differing : t.differing < limit

-- one more of an outcome; blank lines are not counted
abbrev pub counted : Tally → Outcome → Tally
counted t Blank = t
counted t Split = tally_of (t.split + 1) t.unlawful t.malformed t.differing
counted t Unlawful = tally_of t.split (t.unlawful + 1) t.malformed t.differing
counted t Malformed = tally_of t.split t.unlawful (t.malformed + 1) t.differing
counted t Differing = tally_of t.split t.unlawful t.malformed (t.differing + 1)

-- the counts of a tally
abbrev pub counts_text : Tally → List ℕ
counts_text t =
    codes "split " ++ (decimal t.split ++ (codes ", unlawful " ++ (decimal t.unlawful ++ (codes ", malformed " ++ (decimal t.malformed ++ (codes ", differing " ++ decimal t.differing))))))

-- a table's last line
abbrev pub tally_text : Tally → List ℕ
tally_text t =
    codes "split " ++ (decimal t.split ++ (codes ", unlawful " ++ (decimal t.unlawful ++ (codes ", malformed " ++ (decimal t.malformed ++ (codes ", differing " ++ (decimal t.differing ++ codes "\n")))))))

-- what is printed for lines of which the first is the line n
unfoldable pub lines_text : Meaning → Meaning → ℕ → List (List ℕ) → List ℕ
lines_text m k n [] = []
lines_text m k n (l ∷ ls) = line_text m k n l ++ lines_text m k (n + 1) ls

-- the outcomes of lines, counted on from t
unfoldable pub tally_from : Meaning → Meaning → Tally → List (List ℕ) → Tally
tally_from m k t [] = t
tally_from m k t (l ∷ ls) = tally_from m k (counted t (line_outcome m k l)) ls

-- what is printed for a table: each line's text, and the tally
abbrev pub table_text : Meaning → Meaning → List ℕ → List ℕ
table_text m k input =
    lines_text m k 1 (lines_of input) ++ tally_text (tally_from m k (tally_of 0 0 0 0) (lines_of input))
