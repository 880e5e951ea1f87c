-- Entries of blank histories, which no call reads.
use Rattle.std.specs.Prelude.{ℕ}
use Rattle.domain.specs.Blanks.{no_row}
use Rattle.domain.specs.declared.AllocationRow.{AllocationRow}
use Rattle.history.specs.declared.Dated.{Dated}

-- a holder at no place and day
abbrev pub no_holder : Dated ℕ
no_holder = record { subject = 0; day = 0; entry = 0 }

-- a row of no period and day
abbrev pub no_dated_row : Dated AllocationRow
no_dated_row = record { subject = 0; day = 0; entry = no_row }
