-- The fields of a line, each read from the words that are left.
use Rattle.std.specs.Prelude.{ℕ, ◌+◌, cond, ◌&&◌, List, [], ◌∷◌, ◌++◌, length, Ok, Err, Result, ◌==◌, nat_le}
use Rattle.text.specs.Fields.{and_then, number_in, word_number, most8, most32}
use Rattle.text.specs.declared.fields.WordFault.{WordFault}
use Rattle.text.specs.declared.fields.WordFault.TheVariants.{Missing, Extra}
use Rattle.domain.specs.Limits.{periods, most_kwh}
use Rattle.entries.specs.declared.Fault.{Fault}
use Rattle.entries.specs.declared.Fault.TheVariants.{Word, Period, Energy}

-- a faulty word is a fault of its line
abbrev pub of_word : {A : Type 0} → Result A WordFault → Result A Fault
of_word (Ok x) = Ok x
of_word (Err f) = Err (Word f)

-- the first of the words that are left, which is the word k of the line, as a number of at most `most`
abbrev pub field_in : ℕ → ℕ → List (List ℕ) → Result ℕ Fault
field_in k most ws = of_word (number_in k most ws)

-- the period, which is the first word
abbrev pub period_in : List (List ℕ) → Result ℕ Fault
period_in ws = and_then (field_in 1 most8 ws) (λ p. cond (nat_le 1 p && nat_le p periods) (Ok p) (Err Period))

-- the energy, which is the second
abbrev pub energy_in : List (List ℕ) → Result ℕ Fault
energy_in ws = and_then (field_in 2 most32 ws) (λ e. cond (nat_le e most_kwh) (Ok e) (Err Energy))

-- the nominations in the words that are left after some: 1 to 16 in all, from the line's sixth word on
abbrev pub nominations_in : List ℕ → List (List ℕ) → Result (List ℕ) Fault
nominations_in ns [] = cond (length ns == 0) (Err (Word (Missing 6))) (Ok ns)
nominations_in ns (w ∷ ws) =
    cond (nat_le 16 (length ns)) (Err (Word (Extra 22))) (and_then (of_word (word_number (6 + length ns) most32 w)) (λ n. nominations_in (ns ++ n ∷ []) ws))
