-- What is read of the input: a schedule file, and behind it a readings file.
use Rattle.std.specs.Prelude.{ℕ, List, take, drop, Ok, Result, slice_index}
use Rattle.std.specs.Option.{ok_or}
use Rattle.domain.specs.Checks.{and_then}
use Rattle.domain.specs.declared.Fault.{Fault}
use Rattle.domain.specs.declared.Fault.TheVariants.{AnotherKind}
use Rattle.domain.specs.declared.AllocationRow.{AllocationRow}
use Rattle.files.specs.Bytes.{records_in}
use Rattle.files.specs.Formats.{kind_of}
use Rattle.files.specs.Reads.{Told, read_kind_of}
use Rattle.files.specs.Records.{row_size, decoded_row, reading_size, decoded_reading}
use Rattle.files.specs.declared.records.ReadingRecord.{ReadingRecord}

-- bytes of the input that are read at most
abbrev pub most_input : ℕ
most_input = 40000

-- bytes of a schedule file
abbrev pub schedule_bytes : ℕ
schedule_bytes = 1648

-- all rows that bytes hold
abbrev pub rows_in : List ℕ → List AllocationRow
rows_in bs = records_in decoded_row row_size bs

-- all readings that bytes hold
abbrev pub readings_in : List ℕ → List ReadingRecord
readings_in bs = records_in decoded_reading reading_size bs

-- the two files that were read
pub record Files : Type 0 where
  pub schedule : Told
  pub readings : Told

-- the sender of a schedule file
abbrev pub sender_of : Told → ℕ
sender_of t = slice_index t.numbers 1

-- its day
abbrev pub day_of : Told → ℕ
day_of t = slice_index t.numbers 2

-- its moment
abbrev pub moment_of : Told → ℕ
moment_of t = slice_index t.numbers 3

-- the part of the input that is read
abbrev pub taken : List ℕ → List ℕ
taken input = take most_input input

-- what reading a file of the kind that this kind byte names answers
abbrev pub read_as : ℕ → List ℕ → Result Told Fault
read_as byte bs = and_then (ok_or (kind_of byte) AnotherKind) (λ kind. read_kind_of kind bs)

-- the two files, or why the first that cannot be read is refused
unfoldable pub files_read : List ℕ → Result Files Fault
files_read input =
    and_then (read_as 1 (take schedule_bytes (taken input))) (λ s.
    and_then (read_as 2 (drop schedule_bytes (taken input))) (λ r.
    Ok (record { schedule = s; readings = r })))
