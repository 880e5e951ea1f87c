-- What stands in the journal and in the table of what was issued once lines are sent and slots filled.
use Rattle.std.specs.Prelude.{ℕ, zero, suc, ◌+◌, List, ◌++◌, length, take, drop, ℤ, slice_set}
use Rattle.domain.specs.Lines.{line_of}
use Rattle.domain.specs.declared.Line.{Line}
use Rattle.domain.specs.declared.Slot.{Slot}
use Rattle.issuing.specs.declared.lines.Heading.{Heading}

-- the line under a heading
abbrev pub headed : Heading → ℕ → ℤ → Line
headed h = line_of h.day h.run h.period h.place

-- a journal with the lines ls from `at` on
unfoldable pub posted : List Line → ℕ → List Line → List Line
posted j at ls = take at j ++ (ls ++ drop (at + length ls) j)

-- a table with g 0 at `base`, g 1 after it and so on, below m
unfoldable pub filled : (ℕ → Slot) → ℕ → ℕ → List Slot → List Slot
filled g base zero t = t
filled g base (suc m) t = slice_set (filled g base m t) (base + m) (g m)
