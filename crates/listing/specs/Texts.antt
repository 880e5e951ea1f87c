-- What is printed of a file: a line for its kind and numbers, a line that names the columns, and a line for each record.
use Rattle.std.specs.Prelude.{ℕ, ◌+◌, cond, List, [], ◌∷◌, ◌++◌, length, Ok, Err, codes, decimal, Result, ◌==◌, nat_lt, slice_index}
use Rattle.std.specs.List.{flat_map}
use Rattle.domain.specs.Texts as domain
use Rattle.files.specs.Texts as files
use Rattle.domain.specs.declared.AllocationRow.{AllocationRow}
use Rattle.domain.specs.declared.Line.{Line}
use Rattle.domain.specs.declared.Fault.{Fault}
use Rattle.domain.specs.declared.Fault.TheVariants.{FileTooShort, AnotherMark, AnotherVersion, AnotherKind, CountNotAllowed, AnotherLength, TermOutsideLimits, ArgumentOutsideLimits, UnlawfulRow, AfterGate, AnotherSize, OutputTooShort, Spoiled, SenderNotPrimary, SharingEnded, DayClosed, EstimateOverActual, ReadingMissing, HolderMissing, JournalTooShort, HistoryFull}
use Rattle.files.specs.Bytes.{records_in}
use Rattle.files.specs.Records.{row_size, decoded_row, reading_size, decoded_reading, line_size, decoded_line}
use Rattle.files.specs.Formats.{most_bytes}
use Rattle.files.specs.Reads.{Told, read_of}
use Rattle.files.specs.declared.records.ReadingRecord.{ReadingRecord}

-- a number behind a space
abbrev pub spaced : ℕ → List ℕ
spaced n = 32 ∷ decimal n

-- a row: its period, method, balance place and nominations
abbrev pub row_text : ℕ → AllocationRow → List ℕ
row_text period row = decimal period ++ (codes " " ++ (decimal row.method ++ (codes " " ++ (decimal row.balance ++ (flat_map spaced row.nominations ++ (10 ∷ []))))))

-- a reading, on a line of its own
abbrev pub reading_text : ReadingRecord → List ℕ
reading_text r = files.reading_text r ++ codes "\n"

-- a line of a statement, on a line of its own
abbrev pub line_text : Line → List ℕ
line_text l = domain.line_text l ++ codes "\n"

-- rows one after the other, by their periods
unfoldable pub rows_text : ℕ → List AllocationRow → List ℕ
rows_text period [] = []
rows_text period (row ∷ rows) = row_text period row ++ rows_text (period + 1) rows

-- what each refusal means
abbrev pub words : Fault → List ℕ
words (FileTooShort found) = codes "the file has fewer bytes than a header"
words AnotherMark = codes "the file does not begin with the mark SSM"
words AnotherVersion = codes "the file has another version than 1"
words AnotherKind = codes "the file is of another kind than is read here"
words CountNotAllowed = codes "the file's kind does not allow this count of records"
words (AnotherLength found) = codes "the file is longer or shorter than its kind and count give"
words (TermOutsideLimits term) = codes "a term of the book is outside its limits"
words (ArgumentOutsideLimits argument) = codes "an argument is outside its limits"
words (UnlawfulRow period) = codes "the rule does not allow the row of this period"
words (AfterGate gate) = codes "it came after the day's gate"
words (AnotherSize table) = codes "this table has another size than the terms give"
words (OutputTooShort needed) = codes "the buffer is too short for the bytes needed"
words (Spoiled table) = codes "this table holds less than it should, or a number that cannot be"
words (SenderNotPrimary day) = codes "the sender does not hold place 0 on this day"
words (SharingEnded day) = codes "the sharing ends on this day"
words (DayClosed day) = codes "this day is closed"
words (EstimateOverActual period) = codes "an actual reading stands in this period"
words (ReadingMissing period) = codes "the reading of this period is missing"
words (HolderMissing place) = codes "this place has no holder"
words (JournalTooShort needed) = codes "the journal is too short for the lines needed"
words (HistoryFull needed) = codes "the history is too short for the entries needed"

-- a refusal: its number and spot, and what it means
abbrev pub refusal_text : Fault → List ℕ
refusal_text fault = domain.refusal_text fault ++ (codes ": " ++ (words fault ++ codes "\n"))

-- the lines before a schedule's rows: its count, sender, day and moment, and the columns
abbrev pub schedule_heading : ℕ → ℕ → ℕ → ℕ → List ℕ
schedule_heading count sender day moment =
    codes "schedule: " ++ (decimal count ++ (codes " rows, sender " ++ (decimal sender ++ (codes ", day " ++ (decimal day ++ (codes ", moment " ++ (decimal moment ++ codes "\nperiod method balance n0 n1 n2 n3 n4 n5 n6 n7\n")))))))

-- the lines before readings: their count, and the columns
abbrev pub readings_heading : ℕ → List ℕ
readings_heading count = codes "readings: " ++ (decimal count ++ codes " records\nday period quality kwh\n")

-- the lines before those of a statement: their count, and the columns
abbrev pub statement_heading : ℕ → List ℕ
statement_heading count = codes "statement: " ++ (decimal count ++ codes " lines\nday period place supplier run volume\n")

-- a schedule: its count, sender, day and moment, the columns, and its rows by period
abbrev pub schedule_text : List ℕ → List ℕ → List ℕ
schedule_text numbers records =
    schedule_heading (slice_index numbers 0) (slice_index numbers 1) (slice_index numbers 2) (slice_index numbers 3)
    ++ rows_text 1 (records_in decoded_row row_size records)

-- a readings file: its count, the columns, and its readings
abbrev pub readings_text : List ℕ → List ℕ → List ℕ
readings_text numbers records =
    readings_heading (slice_index numbers 0) ++ flat_map reading_text (records_in decoded_reading reading_size records)

-- a statement: its count, the columns, and its lines
abbrev pub statement_text : List ℕ → List ℕ → List ℕ
statement_text numbers records =
    statement_heading (slice_index numbers 0) ++ flat_map line_text (records_in decoded_line line_size records)

-- what a file says, by its kind
abbrev pub told_text : Told → List ℕ
told_text t =
    cond (t.kind == 1) (schedule_text t.numbers t.records)
    (cond (t.kind == 2) (readings_text t.numbers t.records) (statement_text t.numbers t.records))

-- what is printed of what reading it answers
abbrev pub answer_text : Result Told Fault → List ℕ
answer_text (Ok t) = told_text t
answer_text (Err fault) = refusal_text fault

-- what is printed of bytes: of more than a file can have, only that
abbrev pub listing_of : List ℕ → List ℕ
listing_of bs = cond (nat_lt most_bytes (length bs)) (codes "more bytes than a file can have: at most 45064\n") (answer_text (read_of bs))
