-- What the words of a line say.
use Rattle.std.specs.Prelude.{ℕ, cond, ◌&&◌, List, [], ◌∷◌, length, drop, Some, None, Ok, Err, Option, Result, ◌==◌, nat_le}
use Rattle.text.specs.Fields.{number_in, most8, most16, most32, most64}
use Rattle.text.specs.declared.fields.WordFault.{WordFault}
use Rattle.text.specs.declared.fields.WordFault.TheVariants.{Missing}
use Rattle.domain.specs.Limits.{periods, nominations_of_row}
use Rattle.seasonlines.specs.declared.Entry.{Entry}
use Rattle.seasonlines.specs.declared.Entry.TheVariants.{Terms, Tables, Schedule, Row, Ask}
use Rattle.seasonlines.specs.declared.Request.TheVariants.{Register, Reading, Readings, End, Issue, Volume, Statement}
use Rattle.seasonlines.specs.declared.Faulty.{Faulty}
use Rattle.seasonlines.specs.declared.Faulty.TheVariants as faulty
use Rattle.seasonlines.specs.declared.Slip.{Slip}
use Rattle.seasonlines.specs.declared.Slip.TheVariants.{UnknownWord, Word, RowPeriods}
use Rattle.seasonlines.specs.declared.verbs.Verb.{Verb}
use Rattle.seasonlines.specs.declared.verbs.Verb.TheVariants as verb
use Rattle.seasonlines.specs.Lists.{numbers_in, padded, figures_of}
use Rattle.seasonlines.specs.Tuples.{two, three, four}
use Rattle.seasonlines.specs.Verbs.{verb_of, faulty_of}

-- what numbers say, unless a word is faulty
abbrev pub then_say : {N : Type 0} → Result N WordFault → (N → Result Entry Slip) → Result Entry Slip
then_say (Ok ns) say = say ns
then_say (Err f) say = Err (Word f)

-- the row of the periods from one to another, which are to be in order and within the day
abbrev pub row_of : ℕ → ℕ → ℕ → ℕ → List ℕ → Result Entry Slip
row_of from to method balance ns =
    cond (nat_le 1 from && (nat_le to periods && nat_le from to)) (Ok (Row from to (record { method = method; balance = balance; nominations = padded nominations_of_row ns }))) (Err RowPeriods)

-- FROM TO METHOD BALANCE N0 N1 …
abbrev pub row_in : List (List ℕ) → Result Entry Slip
row_in ws =
    then_say (number_in 2 most8 ws) (λ from. then_say (number_in 3 most8 (drop 1 ws)) (λ to. then_say (number_in 4 most8 (drop 2 ws)) (λ method. then_say (number_in 5 most8 (drop 3 ws)) (λ balance. then_say (numbers_in 6 nominations_of_row [] (drop 4 ws)) (λ ns. row_of from to method balance ns)))))

-- DAY QUALITY KWH …, with at least one figure
abbrev pub readings_in : List (List ℕ) → Result Entry Slip
readings_in ws =
    then_say (number_in 2 most16 ws) (λ day. then_say (number_in 3 most8 (drop 1 ws)) (λ quality. then_say (numbers_in 4 periods [] (drop 2 ws)) (λ ns. cond (length ns == 0) (Err (Word (Missing 4))) (Ok (Ask (Readings day quality (figures_of ns)))))))

-- what the words after the first one say, by what the line is: each call has its numbers, and no word after them
abbrev pub said_by : Verb → List (List ℕ) → Result Entry Slip
said_by verb.Terms ws = then_say (three most8 most16 most32 ws) (λ t. Ok (Terms t.0 t.1 t.2))
said_by verb.Tables ws = then_say (three most64 most64 most64 ws) (λ t. Ok (Tables t.0 t.1 t.2))
said_by verb.Register ws = then_say (three most8 most16 most16 ws) (λ t. Ok (Ask (Register t.0 t.1 t.2)))
said_by verb.Schedule ws = then_say (three most16 most16 most32 ws) (λ t. Ok (Schedule t.0 t.1 t.2))
said_by verb.Row ws = row_in ws
said_by verb.Reading ws = then_say (four most16 most8 most8 most32 ws) (λ t. Ok (Ask (Reading t.0 t.1 t.2 t.3)))
said_by verb.Readings ws = readings_in ws
said_by verb.End ws = then_say (three most16 most16 most32 ws) (λ t. Ok (Ask (End t.0 t.1 t.2)))
said_by verb.Issue ws = then_say (two most16 most8 ws) (λ t. Ok (Ask (Issue t.0 t.1)))
said_by verb.Volume ws = then_say (three most16 most8 most8 ws) (λ t. Ok (Ask (Volume t.0 t.1 t.2)))
said_by verb.Statement ws = then_say (two most64 most64 ws) (λ t. Ok (Ask (Statement t.0 t.1)))

-- the entry, or the slip of a line that is none
abbrev pub told : Verb → Result Entry Slip → Result Entry Faulty
told v (Ok e) = Ok e
told v (Err s) = Err (faulty_of v s)

-- what a line says, if its first word is known
abbrev pub known : Option Verb → List (List ℕ) → Result Entry Faulty
known None ws = Err (faulty.Line UnknownWord)
known (Some v) ws = told v (said_by v ws)

-- what a line says with the first word w and the words ws after it
abbrev pub said_of : List ℕ → List (List ℕ) → Result Entry Faulty
said_of w ws = known (verb_of w) ws

-- a line that has words
abbrev pub worded : Result Entry Faulty → Result (Option Entry) Faulty
worded (Ok e) = Ok (Some e)
worded (Err f) = Err f

-- what the words of a line say, if it has any
unfoldable pub entry_of : List (List ℕ) → Result (Option Entry) Faulty
entry_of [] = Ok None
entry_of (w ∷ ws) = worded (said_of w ws)
