-- What reading a file answers: which kind, which numbers and which record bytes, or which refusal.
use Rattle.std.specs.Prelude.{ℕ, ◌+◌, ◌/◌, Bool, cond, ◌&&◌, List, [], ◌∷◌, length, take, drop, Some, None, Ok, Err, Option, Result, ◌==◌, nat_lt, slice_index}
use Rattle.domain.specs.Checks.{and_then}
use Rattle.domain.specs.declared.Fault.{Fault}
use Rattle.domain.specs.declared.Line.{Line}
use Rattle.domain.specs.declared.Fault.TheVariants.{FileTooShort, AnotherMark, AnotherVersion, AnotherKind, CountNotAllowed, AnotherLength}
use Rattle.files.specs.Bytes.{number16}
use Rattle.files.specs.Records.{intro_size, row_size, reading_size, line_size, decoded_intro}
use Rattle.files.specs.Formats.{header_size, version, kind_number, kind_of, allowed, body_size}
use Rattle.files.specs.declared.formats.Kind.{Kind}
use Rattle.files.specs.declared.formats.Kind.TheVariants.{Schedule, Readings, Statement}
use Rattle.files.specs.declared.records.Intro.{Intro}
use Rattle.files.specs.declared.reader.Header.{Header}
use Rattle.files.specs.declared.reader.ScheduleFile.{ScheduleFile}
use Rattle.files.specs.declared.records.Records.{Records}
use Rattle.files.specs.declared.records.ReadingRecord.{ReadingRecord}
use Rattle.files.specs.declared.reader.File.{File}
use Rattle.files.specs.declared.reader.File.TheVariants as file

-- what a header says, with the file's length and the bytes past the header
pub record Head : Type 0 where
  pub kind : ℕ
  pub count : ℕ
  pub size : ℕ
  pub rest : List ℕ

-- what a file says: its kind byte, the numbers of its header, and its record bytes
pub record Told : Type 0 where
  pub kind : ℕ
  pub numbers : List ℕ
  pub records : List ℕ

-- the value of an answer, seen by a function
abbrev pub seen_by : {X Y : Type 0} → (X → Y) → Result X Fault → Result Y Fault
seen_by see (Ok x) = Ok (see x)
seen_by see (Err fault) = Err fault

-- the code's header
abbrev pub head_seen : Header → Head
head_seen h = record { kind = h.kind; count = h.count; size = header_size + length h.rest.now; rest = h.rest.now }

-- kind byte, numbers and record bytes of a schedule that was read
abbrev pub told_schedule : ScheduleFile → Told
told_schedule f = record { kind = 1; numbers = length f.rows.bytes.now / row_size ∷ f.intro.sender ∷ f.intro.day ∷ f.intro.moment ∷ []; records = f.rows.bytes.now }

-- those of a file of the kind that holds a list of records of a size
abbrev pub told_list : {R : Type 0} → Kind → ℕ → Records R → Told
told_list k size rs = record { kind = kind_number k; numbers = length rs.bytes.now / size ∷ []; records = rs.bytes.now }

-- those of a readings file
abbrev pub told_readings : Records ReadingRecord → Told
told_readings = told_list Readings reading_size

-- those of a statement
abbrev pub told_statement : Records Line → Told
told_statement = told_list Statement line_size

-- kind byte, numbers and record bytes of a file that was read
abbrev pub told : File → Told
told (file.Schedule f) = told_schedule f
told (file.Readings f) = told_readings f
told (file.Statement f) = told_statement f

-- the mark SSM stands at the start
abbrev pub marked : List ℕ → Bool
marked bs = slice_index bs 0 == 83 && (slice_index bs 1 == 83 && slice_index bs 2 == 77)

-- the header of a file, or the refusal: too short, then another mark, then another version
abbrev pub opened : List ℕ → Result Head Fault
opened bs =
    cond (nat_lt (length bs) header_size) (Err (FileTooShort (length bs)))
    (cond (marked bs)
    (cond (number16 (drop 3 bs) == version)
    (Ok (record { kind = slice_index bs 5; count = number16 (drop 6 bs); size = length bs; rest = drop header_size bs }))
    (Err AnotherVersion))
    (Err AnotherMark))

-- what a schedule says
abbrev pub said_schedule : ℕ → Intro → List ℕ → Told
said_schedule count intro rows = record { kind = 1; numbers = count ∷ intro.sender ∷ intro.day ∷ intro.moment ∷ []; records = rows }

-- what a file of the kind says
abbrev pub said : Kind → Head → Told
said Schedule h = said_schedule h.count (decoded_intro (take intro_size h.rest)) (drop intro_size h.rest)
said Readings h = record { kind = 2; numbers = h.count ∷ []; records = h.rest }
said Statement h = record { kind = 3; numbers = h.count ∷ []; records = h.rest }

-- the refusal of a count that is not allowed, then of a length that kind and count do not give
abbrev pub fitted : Kind → Head → Result (Unit {0}) Fault
fitted k h =
    cond (allowed k h.count)
    (cond (length h.rest == body_size k h.count) (Ok tt) (Err (AnotherLength h.size)))
    (Err CountNotAllowed)

-- the answer for a header, read as a file of the kind
abbrev pub answered : Kind → Head → Result Told Fault
answered k h = and_then (fitted k h) (λ _. Ok (said k h))

-- the answer for a header, by its kind byte
abbrev pub by_kind : Option Kind → Head → Result Told Fault
by_kind (Some k) h = answered k h
by_kind None h = Err AnotherKind

-- what reading a file answers
abbrev pub read_of : List ℕ → Result Told Fault
read_of bs = and_then (opened bs) (λ h. by_kind (kind_of h.kind) h)

-- what reading a file of one kind answers: another kind is refused before count and length are judged
abbrev pub read_kind_of : Kind → List ℕ → Result Told Fault
read_kind_of k bs = and_then (opened bs) (λ h. cond (h.kind == kind_number k) (answered k h) (Err AnotherKind))
