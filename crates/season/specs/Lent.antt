-- Tables and rows that are lent to a call, and come back.
use Rattle.std.specs.Prelude.{◌≡◌, List}
use Rattle.std.specs.Borrow.{Bor}
use Rattle.domain.specs.declared.AllocationRow.{AllocationRow}
use Rattle.season.specs.declared.Tables.{Tables}

-- they are the tables that were lent, so that who lent them finds there what was written
pub record SameTables (old new : Tables) : Type 0 where
  pub holders : new.holders.ghost_name ≡ old.holders.ghost_name
  pub rows : new.rows.ghost_name ≡ old.rows.ghost_name
  pub readings : new.readings.ghost_name ≡ old.readings.ghost_name
  pub issued : new.issued.ghost_name ≡ old.issued.ghost_name
  pub journal : new.journal.ghost_name ≡ old.journal.ghost_name

-- a list as one that is lent; where it lies plays no part in what a call does
abbrev pub lent : List AllocationRow → Bor (List AllocationRow)
lent rows = record { ref_ptr = (0, 0); now = rows }
