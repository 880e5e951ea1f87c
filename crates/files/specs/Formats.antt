-- The format of a file: its header, its kinds, the counts that they allow and their sizes.
use Rattle.std.specs.Prelude.{ℕ, ◌+◌, ◌*◌, Bool, cond, List, ◌∷◌, ◌++◌, Some, None, Option, ◌==◌, nat_le}
use Rattle.domain.specs.Limits.{periods, most_records}
use Rattle.files.specs.Bytes.{word16}
use Rattle.files.specs.Records.{intro_size, row_size, reading_size, line_size}
use Rattle.files.specs.declared.formats.Kind.{Kind}
use Rattle.files.specs.declared.formats.Kind.TheVariants.{Schedule, Readings, Statement}

-- bytes of the header: mark, version, kind and count
abbrev pub header_size : ℕ
header_size = 8

-- the version of the format
abbrev pub version : ℕ
version = 1

-- the kind byte of a notice
abbrev pub notice_kind : ℕ
notice_kind = 4

-- the kind byte of each kind that is read
abbrev pub kind_number : Kind → ℕ
kind_number Schedule = 1
kind_number Readings = 2
kind_number Statement = 3

-- the kind that a kind byte names
abbrev pub kind_of : ℕ → Option Kind
kind_of n = cond (n == 1) (Some Schedule) (cond (n == 2) (Some Readings) (cond (n == 3) (Some Statement) None))

-- whether a file of the kind may have so many records
abbrev pub allowed : Kind → ℕ → Bool
allowed Schedule n = n == periods
allowed Readings n = nat_le n most_records
allowed Statement n = nat_le n most_records

-- bytes past the header of a file of the kind with so many records
abbrev pub body_size : Kind → ℕ → ℕ
body_size Schedule n = intro_size + n * row_size
body_size Readings n = n * reading_size
body_size Statement n = n * line_size

-- bytes of a file of the kind with so many records
abbrev pub file_size : Kind → ℕ → ℕ
file_size k n = header_size + body_size k n

-- the most bytes that a file can have
abbrev pub most_bytes : ℕ
most_bytes = header_size + most_records * line_size

-- bytes of a statement of so many lines
abbrev pub statement_size : ℕ → ℕ
statement_size n = file_size Statement n

-- the header's bytes: the mark SSM, the version, the kind byte and the count
abbrev pub header_of : ℕ → ℕ → List ℕ
header_of kind count = 83 ∷ 83 ∷ 77 ∷ (word16 version ++ kind ∷ word16 count)
