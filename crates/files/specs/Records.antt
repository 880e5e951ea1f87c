-- The records of the files: how many bytes each has, which bytes those are, and what bytes stand for.
use Rattle.std.specs.Prelude.{◌≡◌, ℕ, ◌<◌, List, ◌∷◌, ◌++◌, length, drop, FitsSigned, slice_index}
use Rattle.std.specs.Int.{w32}
use Rattle.std.proofs.Common.{of_z, to_z}
use Rattle.std.specs.List.{flat_map, AllByRecursion}
use Rattle.domain.specs.Limits.{nominations_of_row}
use Rattle.domain.specs.declared.AllocationRow.{AllocationRow}
use Rattle.domain.specs.declared.Line.{Line}
use Rattle.files.specs.Bytes.{word16, word32, number16, number32, unpacked}
use Rattle.files.specs.declared.records.ReadingRecord.{ReadingRecord}
use Rattle.files.specs.declared.records.Intro.{Intro}

-- a number fits 32 bits
abbrev pub Whole32 : ℕ → Type 0
Whole32 n = n < 4294967296

-- bytes of a row: method, balance place and the nominations
abbrev pub row_size : ℕ
row_size = 34

-- the bytes of a row
abbrev pub encoded_row : AllocationRow → List ℕ
encoded_row row = row.method ∷ row.balance ∷ flat_map word32 row.nominations

-- the row that bytes stand for
abbrev pub decoded_row : List ℕ → AllocationRow
decoded_row bs = record { method = slice_index bs 0; balance = slice_index bs 1; nominations = unpacked number32 4 nominations_of_row (drop 2 bs) }

-- a row of the code has as many nominations as it should, each of 32 bits
abbrev pub WholeRow : AllocationRow → Type 0
WholeRow row = (length row.nominations ≡ nominations_of_row) × AllByRecursion Whole32 row.nominations

-- bytes of a reading: day, period, quality and kWh
abbrev pub reading_size : ℕ
reading_size = 8

-- the bytes of a reading
abbrev pub encoded_reading : ReadingRecord → List ℕ
encoded_reading r = word16 r.day ++ r.period ∷ r.quality ∷ word32 r.kwh

-- the reading that bytes stand for
abbrev pub decoded_reading : List ℕ → ReadingRecord
decoded_reading bs = record { day = number16 bs; period = slice_index bs 2; quality = slice_index bs 3; kwh = number32 (drop 4 bs) }

-- the fields of a reading fit their widths
abbrev pub WholeReading : ReadingRecord → Type 0
WholeReading r = (r.day < 65536) × (r.kwh < 4294967296)

-- bytes of a line: day, period, place, supplier, run and volume
abbrev pub line_size : ℕ
line_size = 11

-- the bytes of a line
abbrev pub encoded_line : Line → List ℕ
encoded_line l = word16 l.day ++ l.period ∷ l.place ∷ (word16 l.supplier ++ l.run ∷ word32 (of_z w32 l.volume))

-- the line that bytes stand for
abbrev pub decoded_line : List ℕ → Line
decoded_line bs = record { day = number16 bs; period = slice_index bs 2; place = slice_index bs 3; supplier = number16 (drop 4 bs); run = slice_index bs 6; volume = to_z w32 (number32 (drop 7 bs)) }

-- the fields of a line fit their widths
abbrev pub WholeLine : Line → Type 0
WholeLine l = (l.day < 65536) × (l.supplier < 65536) × FitsSigned w32 l.volume

-- bytes of the numbers before a schedule's rows: sender, day and moment
abbrev pub intro_size : ℕ
intro_size = 8

-- the bytes of those numbers
abbrev pub encoded_intro : Intro → List ℕ
encoded_intro i = word16 i.sender ++ (word16 i.day ++ word32 i.moment)

-- the numbers that bytes stand for
abbrev pub decoded_intro : List ℕ → Intro
decoded_intro bs = record { sender = number16 bs; day = number16 (drop 2 bs); moment = number32 (drop 4 bs) }

-- those numbers fit their widths
abbrev pub WholeIntro : Intro → Type 0
WholeIntro i = (i.sender < 65536) × (i.day < 65536) × (i.moment < 4294967296)
