-- What a writer wrote, read back.
use Rattle.std.proofs.Common.{◌≡◌, ℕ, ◌+◌, ◌*◌, ◌/◌, ◌%◌, ◌<◌, true, List, ◌++◌, length, take, Ok, Err, Result, sym, refl, ap, ◌∙◌, arith, rules}
use Rattle.std.specs.Prelude.{IfOk, OnOk}
use Rattle.std.specs.List.{flat_map, AllByRecursion}
use Rattle.std.proofs.lemmas.Bool.Decides.{nat_tests}
use Rattle.domain.specs.Checks.{and_then}
use Rattle.domain.specs.declared.Fault.{Fault}
use Rattle.files.specs.Bytes.{unpacked}
use Rattle.files.specs.Records.{encoded_reading, decoded_reading, WholeReading, encoded_line, decoded_line, WholeLine, row_size, encoded_row, decoded_row, WholeRow, encoded_intro, decoded_intro, WholeIntro}
use Rattle.files.specs.Formats.{kind_number, kind_of, allowed, body_size, file_size, header_of}
use Rattle.files.specs.Reads.{Head, Told, seen_by, opened, fitted, by_kind, said, read_of}
use Rattle.files.specs.Contents.{Content, of_schedule, of_readings, of_statement, file_of, content_of, content_read, writing, over, settled}
use Rattle.files.specs.declared.formats.Kind.{Kind}
use Rattle.files.specs.declared.formats.Kind.TheVariants.{Schedule, Readings, Statement}
use Rattle.files.specs.declared.records.ReadingRecord.{ReadingRecord}
use Rattle.files.specs.declared.records.Intro.{Intro}
use Rattle.domain.specs.declared.AllocationRow.{AllocationRow}
use Rattle.domain.specs.declared.Line.{Line}
use Rattle.files.specs.Laws.{row_long, row_back}
use Rattle.files.proofs.Buffers.{take-over}
use Rattle.files.specs.Packs.{length_joined, unpacked_joined}

-- what a header says, with the bytes past it
abbrev pub head_with : ℕ → ℕ → List ℕ → Head
head_with kind count body = record { kind = kind; count = count; size = length (header_of kind count ++ body); rest = body }

abbrev reads : Result Head Fault → Result Told Fault
reads r = and_then r (λ h. by_kind (kind_of h.kind) h)

pub opened_header : (kind count : ℕ) (body : List ℕ) → count < 65536 → opened (header_of kind count ++ body) ≡ Ok (head_with kind count body)
opened_header kind count body h =
    let number : count / 256 % 256 * 256 + count % 256 ≡ count = omega arith in
    grind (arith, nat_tests)

pub fitted_ok : (k : Kind) (h : Head) → allowed k h.count ≡ true → length h.rest ≡ body_size k h.count → fitted k h ≡ Ok tt
fitted_ok k h few long = grind (arith, nat_tests)

pub reading_long : (r : ReadingRecord) → WholeReading r → length (encoded_reading r) ≡ 8
reading_long r h = refl

pub reading_back : (r : ReadingRecord) → WholeReading r → decoded_reading (encoded_reading r) ≡ r
reading_back r h = search rules

-- a file with an allowed count and the length that it should have is read
pub read_kind : (k : Kind) (count : ℕ) (body : List ℕ) → count < 65536 → allowed k count ≡ true → length body ≡ body_size k count → read_of (header_of (kind_number k) count ++ body) ≡ Ok (said k (head_with (kind_number k) count body))
read_kind Schedule count body few ok long =
    ap reads (opened_header 1 count body few) ∙ ap (λ r. and_then r (λ _. Ok (said Schedule (head_with 1 count body)))) (fitted_ok Schedule (head_with 1 count body) ok long)
read_kind Readings count body few ok long =
    ap reads (opened_header 2 count body few) ∙ ap (λ r. and_then r (λ _. Ok (said Readings (head_with 2 count body)))) (fitted_ok Readings (head_with 2 count body) ok long)
read_kind Statement count body few ok long =
    ap reads (opened_header 3 count body few) ∙ ap (λ r. and_then r (λ _. Ok (said Statement (head_with 3 count body)))) (fitted_ok Statement (head_with 3 count body) ok long)

-- a count that is allowed has 16 bits
pub few_allowed : (k : Kind) (count : ℕ) → allowed k count ≡ true → count < 65536
few_allowed Schedule count ok = grind (arith, nat_tests)
few_allowed Readings count ok = grind (arith, nat_tests)
few_allowed Statement count ok = grind (arith, nat_tests)

-- where writing is not refused the count is allowed, and the bytes are the file's
pub writing_ok : (k : Kind) (count room n : ℕ) → ◌≡◌ {A = Result ℕ Fault} (Ok n) (writing k count room) → (allowed k count ≡ true) × (n ≡ file_size k count)
writing_ok k count room n e = (grind (arith, nat_tests), grind (arith, nat_tests))

pub readings_back : (rs : List ReadingRecord) → allowed Readings (length rs) ≡ true → AllByRecursion WholeReading rs → content_read (file_of (of_readings rs)) ≡ Ok (of_readings rs)
readings_back rs ok all =
    let body = flat_map encoded_reading rs in
    let long = length_joined encoded_reading 8 WholeReading reading_long rs all in
    let same = unpacked_joined encoded_reading decoded_reading 8 WholeReading reading_long reading_back rs all in
    ap (seen_by content_of) (read_kind Readings (length rs) body (few_allowed Readings (length rs) ok) ok long) ∙ ap (λ xs. Ok (of_readings xs)) same

pub line_long : (l : Line) → WholeLine l → length (encoded_line l) ≡ 11
line_long l h = refl

pub line_back : (l : Line) → WholeLine l → decoded_line (encoded_line l) ≡ l
line_back l h = search rules

pub lines_back : (ls : List Line) → allowed Statement (length ls) ≡ true → AllByRecursion WholeLine ls → content_read (file_of (of_statement ls)) ≡ Ok (of_statement ls)
lines_back ls ok all =
    let body = flat_map encoded_line ls in
    let long = length_joined encoded_line 11 WholeLine line_long ls all in
    let same = unpacked_joined encoded_line decoded_line 11 WholeLine line_long line_back ls all in
    ap (seen_by content_of) (read_kind Statement (length ls) body (few_allowed Statement (length ls) ok) ok long) ∙ ap (λ xs. Ok (of_statement xs)) same

pub intro_back : (i : Intro) → WholeIntro i → decoded_intro (encoded_intro i) ≡ i
intro_back i h = search rules

pub length_schedule : (i : Intro) (rows : List AllocationRow) → AllByRecursion WholeRow rows → length (encoded_intro i ++ flat_map encoded_row rows) ≡ body_size Schedule (length rows)
length_schedule i rows all =
    let long = length_joined encoded_row row_size WholeRow row_long rows all in
    omega arith

pub schedule_back : (i : Intro) (rows : List AllocationRow) → allowed Schedule (length rows) ≡ true → WholeIntro i → AllByRecursion WholeRow rows → content_read (file_of (of_schedule i.sender i.day i.moment rows)) ≡ Ok (of_schedule i.sender i.day i.moment rows)
schedule_back i rows ok fits all =
    let body = encoded_intro i ++ flat_map encoded_row rows in
    let same = unpacked_joined encoded_row decoded_row row_size WholeRow row_long row_back rows all in
    ap (seen_by content_of) (read_kind Schedule (length rows) body (few_allowed Schedule (length rows) ok) ok (length_schedule i rows all))
    ∙ ap (λ j. Ok (of_schedule j.sender j.day j.moment (unpacked decoded_row row_size (length rows) (flat_map encoded_row rows)))) (intro_back i fits)
    ∙ ap (λ xs. Ok (of_schedule i.sender i.day i.moment xs)) same

-- what was written at the start of a buffer is read back
pub read_over : (k : Kind) (count room n : ℕ) (content : Content) (old out : List ℕ) → ◌≡◌ {A = Result ℕ Fault} (Ok n) (writing k count room) → length (file_of content) ≡ file_size k count → out ≡ over (file_of content) old → content_read (file_of content) ≡ Ok content → content_read (take n out) ≡ Ok content
read_over k count room n content old out written long wrote back =
    let size : length (file_of content) ≡ n = long ∙ sym (writing_ok k count room n written).1 in
    ap content_read (ap (take n) wrote ∙ take-over n (file_of content) old size) ∙ back

-- the same of a buffer after an answer
pub settled_back : {W : Type 0} (k : Kind) (count room : ℕ) (content : Content) (old out : List ℕ) (r : Result ℕ Fault) → r ≡ writing k count room → out ≡ settled r (file_of content) old → OnOk r W → (W → length (file_of content) ≡ file_size k count) → (allowed k count ≡ true → W → content_read (file_of content) ≡ Ok content) → IfOk r (λ n. content_read (take n out) ≡ Ok content)
settled_back k count room content old out (Ok n) written wrote whole long back =
    read_over k count room n content old out written (long whole) wrote (back (writing_ok k count room n written).0 whole)
settled_back k count room content old out (Err fault) written wrote whole long back = tt
