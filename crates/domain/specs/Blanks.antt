-- Entries of blank tables that mean nothing; the empty slots of readings and of what was issued stand with the checks.
use Rattle.std.specs.Prelude.{replicate, pos}
use Rattle.domain.specs.Lines.{line_of}
use Rattle.domain.specs.Limits.{nominations_of_row}
use Rattle.domain.specs.declared.AllocationRow.{AllocationRow}
use Rattle.domain.specs.declared.Line.{Line}

-- the row of a period for which none is given: method 0
abbrev pub no_row : AllocationRow
no_row = record { method = 0; balance = 0; nominations = replicate nominations_of_row 0 }

-- a line that was not written
abbrev pub no_line : Line
no_line = line_of 0 0 0 0 0 (pos 0)
