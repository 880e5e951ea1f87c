-- What is printed of a line of the table.
use Rattle.std.specs.Prelude.{◌≡◌, ℕ, Bool, cond, List, [], ◌∷◌, ◌++◌, Ok, Err, string_bytes, codes, decimal, Result}
use Rattle.std.specs.Str.{bytes_eq}
use Rattle.rules.specs.Meaning.{Meaning}
use Rattle.text.specs.Words.{words_of, uncommented}
use Rattle.entries.specs.declared.Fault.{Fault}
use Rattle.entries.specs.Faults.{fault_text}
use Rattle.entries.specs.Held.{Half}
use Rattle.entries.specs.Reading.{half_hour_in}
use Rattle.worksheet.specs.declared.Answer.{Answer}
use Rattle.worksheet.specs.declared.Outcome.{Outcome}
use Rattle.worksheet.specs.declared.Outcome.TheVariants.{Blank, Split, Unlawful, Malformed, Differing}
use Rattle.worksheet.specs.Figures.{figure_text}

-- an answer with the text bs and the outcome o
pub record Answers (a : Answer) (bs : List ℕ) (o : Outcome) : Type 0 where
  pub text : string_bytes a.text ≡ bs
  pub outcome : a.outcome ≡ o

-- what a half hour's line begins with
abbrev pub head_text : Half → List ℕ → List ℕ
head_text h rest = decimal h.period ++ (codes " " ++ (decimal h.energy ++ (codes ":" ++ rest)))

-- period, energy and the figure x, with the second figure y where it differs
abbrev pub compared_text : Half → List ℕ → List ℕ → List ℕ
compared_text h x y =
    cond (bytes_eq x y) (head_text h (x ++ codes "\n")) (head_text h (x ++ (codes " differs" ++ (y ++ codes "\n"))))

-- differing where the figures x and y differ, and else split or unlawful
abbrev pub compared_outcome : Bool → List ℕ → List ℕ → Outcome
compared_outcome lawful x y = cond (bytes_eq x y) (cond lawful Split Unlawful) Differing

-- what is printed for a half hour by the rule m, beside the rule k
abbrev pub half_text : Meaning → Meaning → Half → List ℕ
half_text m k h = compared_text h (figure_text m h) (figure_text k h)

-- what a half hour came to
abbrev pub half_outcome : Meaning → Meaning → Half → Outcome
half_outcome m k h = compared_outcome (m.lawful h.row) (figure_text m h) (figure_text k h)

-- what is printed for what was read: a half hour, or what is wrong with the line n
abbrev pub read_text : Meaning → Meaning → ℕ → Result Half Fault → List ℕ
read_text m k n (Ok h) = half_text m k h
read_text m k n (Err f) = codes "line " ++ (decimal n ++ (codes ": " ++ (fault_text f ++ codes "\n")))

-- what is printed for the words of the line n: nothing if there are none
abbrev pub words_text : Meaning → Meaning → ℕ → List (List ℕ) → List ℕ
words_text m k n [] = []
words_text m k n (w ∷ ws) = read_text m k n (half_hour_in (w ∷ ws))

-- what is printed for the line n
abbrev pub line_text : Meaning → Meaning → ℕ → List ℕ → List ℕ
line_text m k n line = words_text m k n (words_of (uncommented line))

-- what came of what was read
abbrev pub read_outcome : Meaning → Meaning → Result Half Fault → Outcome
read_outcome m k (Ok h) = half_outcome m k h
read_outcome m k (Err f) = Malformed

-- what a line's words came to
abbrev pub words_outcome : Meaning → Meaning → List (List ℕ) → Outcome
words_outcome m k [] = Blank
words_outcome m k (w ∷ ws) = read_outcome m k (half_hour_in (w ∷ ws))

-- what a line came to
abbrev pub line_outcome : Meaning → Meaning → List ℕ → Outcome
line_outcome m k line = words_outcome m k (words_of (uncommented line))
