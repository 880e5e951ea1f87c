-- Statements: lines of the journal as a file.
use Rattle.std.specs.Prelude.{ℕ, ◌-◌, ◌&&◌, List, take, drop, Ok, Result, nat_le}
use Rattle.domain.specs.Limits.{most_records}
use Rattle.domain.specs.Checks.{unless}
use Rattle.domain.specs.declared.Line.{Line}
use Rattle.domain.specs.declared.Table.TheVariants.{Journal}
use Rattle.domain.specs.declared.Fault.{Fault}
use Rattle.domain.specs.declared.Fault.TheVariants.{ArgumentOutsideLimits, OutputTooShort, Spoiled}
use Rattle.files.specs.Formats.{statement_size}
use Rattle.book.specs.Kept.{Kept}

-- the lines of the journal from `first` on, so many of them
abbrev pub lines_from : List Line → ℕ → ℕ → List Line
lines_from journal first count = take count (drop first journal)

-- the checks of a statement of `count` lines from `first` on, out of a journal of so many lines, into a buffer of so many bytes
abbrev pub statement_answer : Kept → ℕ → ℕ → ℕ → ℕ → Result ℕ Fault
statement_answer k journal first count room =
    unless (nat_le first k.lines) (ArgumentOutsideLimits 1) (
    unless (nat_le count most_records && nat_le count (k.lines - first)) (ArgumentOutsideLimits 2) (
    unless (nat_le (statement_size count) room) (OutputTooShort (statement_size count)) (
    unless (nat_le k.lines journal) (Spoiled Journal) (
    Ok (statement_size count)))))
