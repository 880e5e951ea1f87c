-- What a file holds, as records, and the bytes of a file that holds it.
use Rattle.std.specs.Prelude.{ℕ, cond, List, ◌++◌, length, drop, Ok, Err, Result, ◌==◌, nat_le, slice_index}
use Rattle.std.specs.List.{flat_map}
use Rattle.domain.specs.Checks.{and_then}
use Rattle.domain.specs.declared.Fault.{Fault}
use Rattle.domain.specs.declared.Fault.TheVariants.{CountNotAllowed, OutputTooShort}
use Rattle.domain.specs.declared.AllocationRow.{AllocationRow}
use Rattle.domain.specs.declared.Line.{Line}
use Rattle.files.specs.Bytes.{word16, word32, unpacked}
use Rattle.files.specs.Records.{row_size, encoded_row, decoded_row, reading_size, encoded_reading, decoded_reading, line_size, encoded_line, decoded_line}
use Rattle.files.specs.Formats.{notice_kind, allowed, file_size, header_of}
use Rattle.files.specs.Reads.{Told, read_of, seen_by}
use Rattle.files.specs.declared.formats.Kind.{Kind}
use Rattle.files.specs.declared.records.ReadingRecord.{ReadingRecord}

-- what a file holds: a schedule's sender, day, moment and rows, or readings, or lines
pub data Content : Type 0 where
  of_schedule : ℕ → ℕ → ℕ → List AllocationRow → Content
  of_readings : List ReadingRecord → Content
  of_statement : List Line → Content

-- the bytes of the file that holds it
abbrev pub file_of : Content → List ℕ
file_of (of_schedule sender day moment rows) = header_of 1 (length rows) ++ ((word16 sender ++ (word16 day ++ word32 moment)) ++ flat_map encoded_row rows)
file_of (of_readings rs) = header_of 2 (length rs) ++ flat_map encoded_reading rs
file_of (of_statement ls) = header_of 3 (length ls) ++ flat_map encoded_line ls

-- what a file says, as records
abbrev pub content_of : Told → Content
content_of t =
    cond (t.kind == 1) (of_schedule (slice_index t.numbers 1) (slice_index t.numbers 2) (slice_index t.numbers 3) (unpacked decoded_row row_size (slice_index t.numbers 0) t.records))
    (cond (t.kind == 2) (of_readings (unpacked decoded_reading reading_size (slice_index t.numbers 0) t.records))
    (of_statement (unpacked decoded_line line_size (slice_index t.numbers 0) t.records)))

-- what a file's bytes hold, or why they are refused
abbrev pub content_read : List ℕ → Result Content Fault
content_read bs = seen_by content_of (read_of bs)

-- the file of the records that a file's bytes hold
abbrev pub rewritten : List ℕ → Result (List ℕ) Fault
rewritten bs = seen_by file_of (content_read bs)

-- what writing answers: the bytes written, or a count that is not allowed, then too little room
abbrev pub writing : Kind → ℕ → ℕ → Result ℕ Fault
writing k count room =
    cond (allowed k count)
    (cond (nat_le (file_size k count) room) (Ok (file_size k count)) (Err (OutputTooShort (file_size k count))))
    (Err CountNotAllowed)

-- what writing a file again answers
abbrev pub rewriting : List ℕ → ℕ → Result ℕ Fault
rewriting bs room =
    and_then (read_of bs) (λ t. cond (nat_le (length bs) room) (Ok (length bs)) (Err (OutputTooShort (length bs))))

-- a buffer with the bytes at its start, and past them as it was
abbrev pub over : List ℕ → List ℕ → List ℕ
over bs old = bs ++ drop (length bs) old

-- a buffer after an answer: with the bytes at its start, or as it was where it was refused
abbrev pub settled : {X : Type 0} → Result X Fault → List ℕ → List ℕ → List ℕ
settled (Ok x) bs old = over bs old
settled (Err fault) bs old = old

-- a notice: day, sender and moment behind the header
abbrev pub notice_of : ℕ → ℕ → ℕ → List ℕ
notice_of day sender moment = header_of notice_kind 1 ++ (word16 day ++ (word16 sender ++ word32 moment))
