-- The two tables at the end of a season: what was split beside what was sent, and what each supplier was sent.
use Rattle.std.specs.Prelude.{◌≡◌, ℕ, ◌+◌, Bool, cond, ◌||◌, List, [], ◌∷◌, ◌++◌, ℤ, pos, Some, None, codes, decimal, Option, ◌==◌, int_lt, slice_index_or}
use Rattle.std.specs.Fmt.{signed_decimal}
use Rattle.std.specs.List.{list_any}
use Rattle.domain.specs.Limits.{periods, most_days}
use Rattle.domain.specs.Lines.{gathered}
use Rattle.domain.specs.Slots.{reading_slot}
use Rattle.domain.specs.declared.Line.{Line}
use Rattle.season.specs.Law.{sum_of, of_period}

-- every supplier's number is below this
abbrev pub suppliers : ℕ
suppliers = 65536

-- a line for the supplier
abbrev pub to_supplier : ℕ → Line → Bool
to_supplier supplier l = l.supplier == supplier

-- what a test answers of a line is what `p` says of it
abbrev pub Tells : (Line → Bool → Type 0) → (Line → Bool) → Type 0
Tells answers p = (l : Line) (b : Bool) → answers l b → b ≡ p l

-- the kWh that were split, and the sum of what was sent, are the same
abbrev pub agree_text : ℤ → ℤ → List ℕ
agree_text kwh sum = cond (int_lt kwh sum || int_lt sum kwh) (codes "differs") (codes "agrees")

-- a row of the first table, for a day's period that was split
abbrev pub period_text : List Line → ℕ → ℕ → Option ℕ → List ℕ
period_text lines day period None = []
period_text lines day period (Some kwh) =
    decimal day ++ (codes " " ++ (decimal period ++ (codes " " ++ (decimal kwh ++ (codes " " ++ (signed_decimal (sum_of (of_period day period) lines) ++ (codes " " ++ (agree_text (pos kwh) (sum_of (of_period day period) lines) ++ codes "\n"))))))))

-- its rows of a day
abbrev pub day_text : List Line → List (Option ℕ) → ℕ → List ℕ
day_text lines split day =
    gathered (λ i. period_text lines day (i + 1) (slice_index_or split (reading_slot day (i + 1)) None)) periods

-- the first table: each day and period that an accepted issue split, in order
abbrev pub period_table : List Line → List (Option ℕ) → List ℕ
period_table lines split = gathered (day_text lines split) most_days

-- a line was sent to the supplier
abbrev pub sent_to : ℕ → List Line → Bool
sent_to supplier lines = list_any (to_supplier supplier) lines

-- the suppliers that were sent a line, in order
abbrev pub suppliers_sent : List Line → List ℕ
suppliers_sent lines = gathered (λ supplier. cond (sent_to supplier lines) (supplier ∷ []) []) suppliers

-- a supplier's row of the second table
abbrev pub supplier_text : List Line → ℕ → List ℕ
supplier_text lines supplier =
    decimal supplier ++ (codes " " ++ (signed_decimal (sum_of (to_supplier supplier) lines) ++ codes "\n"))

-- the second table: each supplier that was sent a line, in order
abbrev pub supplier_table : List Line → List ℕ
supplier_table lines = gathered (λ supplier. cond (sent_to supplier lines) (supplier_text lines supplier) []) suppliers

-- what the first table begins with
abbrev pub first_heading : List ℕ
first_heading = codes "\nDAY PERIOD KWH LINES\n"

-- what the second table begins with
abbrev pub second_heading : List ℕ
second_heading = codes "\nSUPPLIER KWH\n"

-- the two tables of the lines that were sent, and of what was split
unfoldable pub tables_text : List Line → List (Option ℕ) → List ℕ
tables_text lines split = first_heading ++ (period_table lines split ++ (second_heading ++ supplier_table lines))
