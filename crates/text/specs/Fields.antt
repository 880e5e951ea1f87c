-- The fields of a line, each read from the words that are left.
use Rattle.std.specs.Prelude.{ℕ, List, [], ◌∷◌, ◌++◌, Ok, Err, codes, decimal, Result}
use Rattle.text.specs.Numbers.{decimal_in}
use Rattle.text.specs.declared.Misread.{Misread}
use Rattle.text.specs.declared.Misread.TheVariants as misread
use Rattle.text.specs.declared.fields.WordFault.{WordFault}
use Rattle.text.specs.declared.fields.WordFault.TheVariants.{Missing, NotDecimal, TooLarge, Extra}

-- what is said of a faulty word
abbrev pub word_fault_text : WordFault → List ℕ
word_fault_text (Missing k) = codes "word " ++ (decimal k ++ codes " is missing")
word_fault_text (NotDecimal k) = codes "word " ++ (decimal k ++ codes " is not a decimal number")
word_fault_text (TooLarge k) = codes "word " ++ (decimal k ++ codes " is too large")
word_fault_text (Extra k) = codes "word " ++ (decimal k ++ codes " is one too many")

-- the first fault wins
abbrev pub and_then : {A B F : Type 0} → Result A F → (A → Result B F) → Result B F
and_then (Ok x) rest = rest x
and_then (Err f) rest = Err f

-- why the word k is no number
abbrev pub fault_at : ℕ → Misread → WordFault
fault_at k misread.NotDecimal = NotDecimal k
fault_at k misread.TooLarge = TooLarge k

-- a number, or why the word k is none
abbrev pub blamed : ℕ → Result ℕ Misread → Result ℕ WordFault
blamed k (Ok n) = Ok n
blamed k (Err m) = Err (fault_at k m)

-- what was read, with the value that its type is seen as
abbrev pub seen_as : {A B F : Type 0} → (A → B) → Result A F → Result B F
seen_as value (Ok x) = Ok (value x)
seen_as value (Err f) = Err f

-- the word k as a number of at most `most`
abbrev pub word_number : ℕ → ℕ → List ℕ → Result ℕ WordFault
word_number k most w = blamed k (decimal_in w most)

-- the first of the words that are left, which is the word k of the line
abbrev pub number_in : ℕ → ℕ → List (List ℕ) → Result ℕ WordFault
number_in k most [] = Err (Missing k)
number_in k most (w ∷ ws) = word_number k most w

-- no word is left, where the word k would be
abbrev pub end_in : ℕ → List (List ℕ) → Result Unit WordFault
end_in k [] = Ok tt
end_in k (w ∷ ws) = Err (Extra k)

-- the largest number of 8 bits
abbrev pub most8 : ℕ
most8 = 255

-- of 16 bits
abbrev pub most16 : ℕ
most16 = 65535

-- of 32 bits
abbrev pub most32 : ℕ
most32 = 4294967295

-- of 64 bits
abbrev pub most64 : ℕ
most64 = 18446744073709551615
