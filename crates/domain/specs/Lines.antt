-- Lines, and which of them lead a place from what was issued to it to what it is to have.
use Rattle.std.specs.Prelude.{ℕ, zero, suc, cond, List, [], ◌∷◌, ◌++◌, ℤ, pos, ◌-ℤ◌, ◌==◌}
use Rattle.domain.specs.declared.Slot.{Slot}
use Rattle.domain.specs.declared.Line.{Line}
use Rattle.domain.specs.Checks.{is_zero}

-- the line of a day's run that sends a volume to a supplier, for a place in a period
abbrev pub line_of : ℕ → ℕ → ℕ → ℕ → ℕ → ℤ → Line
line_of day run period place supplier volume =
    record { day = day; period = period; place = place; supplier = supplier; run = run; volume = volume }

-- a line of 0 is not sent
unfoldable pub sent : Line → List Line
sent l = cond (is_zero l.volume) [] (l ∷ [])

-- a slot's supplier that stays is sent the difference; one that goes is sent back what it had, and one that comes its share
unfoldable pub slot_lines : (ℕ → ℤ → Line) → Slot → Slot → List Line
slot_lines line was is =
    cond (was.supplier == is.supplier) (sent (line is.supplier (is.volume -ℤ was.volume))) (sent (line was.supplier (pos 0 -ℤ was.volume)) ++ sent (line is.supplier is.volume))

-- f 0, then f 1 and so on, below m
unfoldable pub gathered : {A : Type 0} → (ℕ → List A) → ℕ → List A
gathered f zero = []
gathered f (suc m) = gathered f m ++ f m
