-- An accepted file, its records written again.
use Rattle.std.proofs.Common.{◌≡◌, ℕ, ◌+◌, ◌*◌, ◌<◌, ◌≤◌, true, cond, eqb, leb, List, [], ◌++◌, length, get_or, take, drop, Some, None, Ok, Err, Option, Result, sym, refl, ap, ◌∙◌, subst, arith, length-drop}
use Rattle.std.specs.Prelude.{OnOk}
use Rattle.std.specs.List.{flat_map}
use Rattle.std.proofs.lemmas.List.{take-append-drop, length-take-le, get_or-drop}
use Rattle.std.proofs.ByRecursion.{All-take, All-drop, All-get_or}
use Rattle.std.proofs.lemmas.Bool.Decides.{nat_tests}
use Rattle.domain.specs.Checks.{and_then}
use Rattle.domain.specs.declared.Fault.{Fault}
use Rattle.domain.specs.declared.Fault.TheVariants.{OutputTooShort, CountNotAllowed}
use Rattle.files.specs.Bytes.{Bytes, word16, number16, unpacked}
use Rattle.files.specs.Records.{row_size, reading_size, line_size, encoded_row, decoded_row, encoded_reading, decoded_reading, encoded_line, decoded_line, encoded_intro, decoded_intro}
use Rattle.files.specs.Formats.{kind_number, kind_of, allowed, body_size, file_size, header_of}
use Rattle.files.specs.Reads.{Head, Told, seen_by, marked, opened, fitted, by_kind, said, read_of}
use Rattle.files.specs.Contents.{file_of, content_of, rewritten, writing, rewriting, settled}
use Rattle.files.specs.declared.formats.Kind.{Kind}
use Rattle.files.specs.declared.formats.Kind.TheVariants.{Schedule, Readings, Statement}
use Rattle.files.specs.Words.{word16_again, listed_front}
use Rattle.files.specs.Packs.{length-unpacked, joined_unpacked}
use Rattle.files.specs.Laws.{row_again, reading_again, line_again, intro_again}

-- what is known of a file that was accepted: its header, its kind, and that its length is right
pub record Accepted (bs : List ℕ) (t : Told) : Type 0 where
  pub head : Head
  pub kind : Kind
  pub begun : opened bs ≡ Ok head
  pub named : head.kind ≡ kind_number kind
  pub few : allowed kind head.count ≡ true
  pub long : length head.rest ≡ body_size kind head.count
  pub says : t ≡ said kind head

never : {X : Type 0} (t : X) (f : Fault) → ◌≡◌ {A = Result X Fault} (Ok t) (Err f) → ⊥
never t f e = let z : ◌≡◌ {A = ℕ} 0 1 = cc in omega arith

kind_number_lem : (n : ℕ) (k : Kind) → kind_of n ≡ Some k → n ≡ kind_number k
kind_number_lem n Schedule e = grind (arith, nat_tests)
kind_number_lem n Readings e = grind (arith, nat_tests)
kind_number_lem n Statement e = grind (arith, nat_tests)

fitted_long : (k : Kind) (h : Head) (u : Unit {0}) → fitted k h ≡ Ok u → length h.rest ≡ body_size k h.count
fitted_long k h u e = grind (arith, nat_tests)

fitted_few : (k : Kind) (h : Head) (u : Unit {0}) → fitted k h ≡ Ok u → allowed k h.count ≡ true
fitted_few k h u e = grind (arith, nat_tests)

accepted_fit : (bs : List ℕ) (t : Told) (h : Head) (k : Kind) → opened bs ≡ Ok h → kind_of h.kind ≡ Some k → (r : Result (Unit {0}) Fault) → fitted k h ≡ r → ◌≡◌ {A = Result Told Fault} (Ok t) (and_then r (λ _. Ok (said k h))) → Accepted bs t
accepted_fit bs t h k begun which (Ok u) fits e =
    record { head = h; kind = k; begun = begun; named = kind_number_lem h.kind k which; few = fitted_few k h u fits; long = fitted_long k h u fits; says = cc }
accepted_fit bs t h k begun which (Err f) fits e = absurd (never t f e)

accepted_kind : (bs : List ℕ) (t : Told) (h : Head) → opened bs ≡ Ok h → (o : Option Kind) → kind_of h.kind ≡ o → ◌≡◌ {A = Result Told Fault} (Ok t) (by_kind o h) → Accepted bs t
accepted_kind bs t h begun (Some k) which e = accepted_fit bs t h k begun which (fitted k h) refl e
accepted_kind bs t h begun None which e = absurd (never t _ e)

accepted_open : (bs : List ℕ) (t : Told) (r : Result Head Fault) → opened bs ≡ r → ◌≡◌ {A = Result Told Fault} (Ok t) (and_then r (λ h. by_kind (kind_of h.kind) h)) → Accepted bs t
accepted_open bs t (Ok h) begun e = accepted_kind bs t h begun (kind_of h.kind) refl e
accepted_open bs t (Err f) begun e = absurd (never t f e)

pub accepted : (bs : List ℕ) (t : Told) → ◌≡◌ {A = Result Told Fault} (Ok t) (read_of bs) → Accepted bs t
accepted bs t e = accepted_open bs t (opened bs) refl e

opened_long : (bs : List ℕ) (h : Head) → opened bs ≡ Ok h → 8 ≤ length bs
opened_long bs h e = grind (arith, nat_tests)

opened_marked : (bs : List ℕ) (h : Head) → opened bs ≡ Ok h → marked bs ≡ true
opened_marked bs h e = grind (arith, nat_tests)

opened_version : (bs : List ℕ) (h : Head) → opened bs ≡ Ok h → number16 (drop 3 bs) ≡ 1
opened_version bs h e = grind (arith, nat_tests)

opened_head : (bs : List ℕ) (h : Head) → opened bs ≡ Ok h → h ≡ record { kind = get_or bs 5 0; count = number16 (drop 6 bs); size = length bs; rest = drop 8 bs }
opened_head bs h e = grind (arith, nat_tests)

-- a header that was read, written again with what lies past it
pub header_again : (bs : List ℕ) (h : Head) → Bytes bs → opened bs ≡ Ok h → header_of h.kind h.count ++ h.rest ≡ bs
header_again bs h all e =
    let room = opened_long bs h e in
    let mark = opened_marked bs h e in
    let m0 : get_or bs 0 0 ≡ 83 = grind (arith, nat_tests) in
    let m1 : get_or bs 1 0 ≡ 83 = grind (arith, nat_tests) in
    let m2 : get_or bs 2 0 ≡ 77 = grind (arith, nat_tests) in
    let v = opened_version bs h e in
    let at3 = get_or-drop 3 bs 0 0 in
    let at4 = get_or-drop 3 bs 1 0 in
    let v1 : get_or bs 3 0 ≡ 0 = omega arith in
    let v0 : get_or bs 4 0 ≡ 1 = omega arith in
    let at6 = get_or-drop 6 bs 0 0 in
    let at7 = get_or-drop 6 bs 1 0 in
    let count = word16_again (get_or bs 6 0) (get_or bs 7 0) (All-get_or (λ b. b < 256) bs 6 0 (omega arith) all) (All-get_or (λ b. b < 256) bs 7 0 (omega arith) all) in
    let shape = listed_front 8 0 bs room in
    let is = opened_head bs h e in
    let number : h.count ≡ get_or bs 6 0 * 256 + get_or bs 7 0 = ap (λ h. h.count) is ∙ omega arith in
    let kind : h.kind ≡ get_or bs 5 0 = ap (λ h. h.kind) is in
    let rest : h.rest ≡ drop 8 bs = ap (λ h. h.rest) is in
    let words = ap word16 number ∙ count in
    cc

-- the numbers that a file says before its records, in bytes
abbrev pub intro_bytes : ℕ → List ℕ → List ℕ
intro_bytes kind numbers = cond (eqb kind 1) (encoded_intro (record { sender = get_or numbers 1 0; day = get_or numbers 2 0; moment = get_or numbers 3 0 })) []

-- the bytes of a file, from what it says
abbrev pub told_bytes : Told → List ℕ
told_bytes t = header_of t.kind (get_or t.numbers 0 0) ++ (intro_bytes t.kind t.numbers ++ t.records)

told_said : (k : Kind) (h : Head) → Bytes h.rest → length h.rest ≡ body_size k h.count → told_bytes (said k h) ≡ header_of (kind_number k) h.count ++ h.rest
told_said Schedule h all long =
    let room : 8 ≤ length h.rest = omega arith in
    let front = intro_again (take 8 h.rest) (length-take-le 8 h.rest room) (All-take (λ b. b < 256) 8 h.rest all) in
    let whole = take-append-drop 8 h.rest in
    ap (λ t. header_of 1 h.count ++ t) (ap (λ t. t ++ drop 8 h.rest) front ∙ whole)
told_said Readings h all long = refl
told_said Statement h all long = refl

content_said : (k : Kind) (h : Head) → Bytes h.rest → length h.rest ≡ body_size k h.count → file_of (content_of (said k h)) ≡ header_of (kind_number k) h.count ++ h.rest
content_said Schedule h all long =
    let rows = drop 8 h.rest in
    let short : length rows ≡ h.count * 34 = length-drop 8 h.rest ∙ omega arith in
    let same = joined_unpacked encoded_row decoded_row row_size row_again h.count rows short (All-drop (λ b. b < 256) 8 h.rest all) in
    let intro = encoded_intro (decoded_intro (take 8 h.rest)) in
    ap (λ n. header_of 1 n ++ (intro ++ flat_map encoded_row (unpacked decoded_row row_size h.count rows))) (length-unpacked decoded_row row_size h.count rows)
    ∙ ap (λ t. header_of 1 h.count ++ (intro ++ t)) same
    ∙ told_said Schedule h all long
content_said Readings h all long =
    ap (λ n. header_of 2 n ++ flat_map encoded_reading (unpacked decoded_reading reading_size h.count h.rest)) (length-unpacked decoded_reading reading_size h.count h.rest)
    ∙ ap (λ t. header_of 2 h.count ++ t) (joined_unpacked encoded_reading decoded_reading reading_size reading_again h.count h.rest long all)
content_said Statement h all long =
    ap (λ n. header_of 3 n ++ flat_map encoded_line (unpacked decoded_line line_size h.count h.rest)) (length-unpacked decoded_line line_size h.count h.rest)
    ∙ ap (λ t. header_of 3 h.count ++ t) (joined_unpacked encoded_line decoded_line line_size line_again h.count h.rest long all)

head_same : (bs : List ℕ) (t : Told) → Bytes bs → (a : Accepted bs t) → header_of (kind_number a.kind) a.head.count ++ a.head.rest ≡ bs
head_same bs t all a =
    ap (λ k. header_of k a.head.count ++ a.head.rest) (sym a.named) ∙ header_again bs a.head all a.begun

rest_bytes : (bs : List ℕ) (t : Told) → Bytes bs → (a : Accepted bs t) → Bytes a.head.rest
rest_bytes bs t all a =
    subst Bytes (ap (λ h. h.rest) (sym (opened_head bs a.head a.begun))) (All-drop (λ b. b < 256) 8 bs all)

-- the bytes of what a file says are the file
pub told_again : (bs : List ℕ) (t : Told) → Bytes bs → Accepted bs t → told_bytes t ≡ bs
told_again bs t all a =
    ap told_bytes a.says ∙ told_said a.kind a.head (rest_bytes bs t all a) a.long ∙ head_same bs t all a

-- the file of the records that a file holds is the file
pub content_again : (bs : List ℕ) (t : Told) → Bytes bs → Accepted bs t → file_of (content_of t) ≡ bs
content_again bs t all a =
    ap (λ t. file_of (content_of t)) a.says ∙ content_said a.kind a.head (rest_bytes bs t all a) a.long ∙ head_same bs t all a

pub rewritten_same : (bs : List ℕ) (t : Told) → Bytes bs → ◌≡◌ {A = Result Told Fault} (Ok t) (read_of bs) → rewritten bs ≡ Ok bs
rewritten_same bs t all e =
    ap (λ r. seen_by file_of (seen_by content_of r)) (sym e) ∙ ap Ok (content_again bs t all (accepted bs t e))

rows_said : (k : Kind) (h : Head) → (said k h).kind ≡ 1 → length h.rest ≡ body_size k h.count → length (said k h).records ≡ get_or (said k h).numbers 0 0 * 34
rows_said Schedule h e long = length-drop 8 h.rest ∙ omega arith
rows_said Readings h e long = absurd (omega arith)
rows_said Statement h e long = absurd (omega arith)

-- a schedule's record bytes are its rows'
pub told_rows : (bs : List ℕ) (t : Told) → Accepted bs t → t.kind ≡ 1 → length t.records ≡ get_or t.numbers 0 0 * 34
told_rows bs t a e =
    let P : Told → Type 0 = λ t. length t.records ≡ get_or t.numbers 0 0 * 34 in
    subst P (sym a.says) (rows_said a.kind a.head (sym (ap (λ t. t.kind) a.says) ∙ e) a.long)

-- an accepted file is written again where there is room
pub rewriting_ok : (bs : List ℕ) (t : Told) (room : ℕ) → ◌≡◌ {A = Result Told Fault} (Ok t) (read_of bs) → length bs ≤ room → ◌≡◌ {A = Result ℕ Fault} (Ok (length bs)) (rewriting bs room)
rewriting_ok bs t room e h =
    let enough : leb (length bs) room ≡ true = grind (arith, nat_tests) in
    let next : Told → Result ℕ Fault = λ t. cond (leb (length bs) room) (Ok (length bs)) (Err (OutputTooShort (length bs))) in
    sym (ap (λ b. cond b (Ok (length bs)) (Err (OutputTooShort (length bs)))) enough) ∙ ap (λ r. and_then r next) e

one_kind : (k j : Kind) → kind_number k ≡ kind_number j → k ≡ j
one_kind k j e =
    let named : (k : Kind) → kind_of (kind_number k) ≡ Some k = elim [ Schedule ↦ refl | Readings ↦ refl | Statement ↦ refl ] in
    let first = named k in
    let second = named j in
    cc

said_kind : (k : Kind) (h : Head) → (said k h).kind ≡ kind_number k
said_kind Schedule h = refl
said_kind Readings h = refl
said_kind Statement h = refl

said_count : (k : Kind) (h : Head) → get_or (said k h).numbers 0 0 ≡ h.count
said_count Schedule h = refl
said_count Readings h = refl
said_count Statement h = refl

-- what an accepted file says, by its kind
pub told_kind : (bs : List ℕ) (t : Told) (k : Kind) (a : Accepted bs t) → t.kind ≡ kind_number k → a.kind ≡ k
told_kind bs t k a e =
    one_kind a.kind k (sym (said_kind a.kind a.head) ∙ ap (λ t. t.kind) (sym a.says) ∙ e)

-- writing the records of an accepted file answers what writing it again does
pub writing_again : (bs : List ℕ) (t : Told) (k : Kind) (room : ℕ) (r : Result ℕ Fault) → ◌≡◌ {A = Result Told Fault} (Ok t) (read_of bs) → t.kind ≡ kind_number k → r ≡ writing k (get_or t.numbers 0 0) room → r ≡ rewriting bs room
writing_again bs t k room r e named written =
    let a = accepted bs t e in
    let is = told_kind bs t k a named in
    let count : get_or t.numbers 0 0 ≡ a.head.count = ap (λ t. get_or t.numbers 0 0) a.says ∙ said_count a.kind a.head in
    let size : file_size a.kind a.head.count ≡ length bs = omega (arith, a.long, opened_long bs a.head a.begun, ap (λ h. length h.rest) (opened_head bs a.head a.begun), length-drop 8 bs) in
    let next : Told → Result ℕ Fault = λ t. cond (leb (length bs) room) (Ok (length bs)) (Err (OutputTooShort (length bs))) in
    written
    ∙ ap (λ n. writing k n room) count
    ∙ ap (λ k. writing k a.head.count room) (sym is)
    ∙ ap (λ b. cond b (cond (leb (file_size a.kind a.head.count) room) (Ok (file_size a.kind a.head.count)) (Err (OutputTooShort (file_size a.kind a.head.count)))) (Err CountNotAllowed)) a.few
    ∙ ap (λ n. cond (leb n room) (Ok n) (Err (OutputTooShort n))) size
    ∙ ap (λ r. and_then r next) e

-- what the contract of writing a file again says
pub record Rewrote (bs old out : List ℕ) (r : Result ℕ Fault) : Type 0 where
  pub result : r ≡ rewriting bs (length old)
  pub after : out ≡ settled r bs old
  pub again : OnOk r (rewritten bs ≡ Ok bs)

on_ok : {X P : Type 0} (r : Result X Fault) → P → OnOk r P
on_ok (Ok x) p = p
on_ok (Err fault) p = tt

-- a file that was read, its records written as a file of its kind
pub again : (bs : List ℕ) (t : Told) (k : Kind) (old out : List ℕ) (r : Result ℕ Fault) → Bytes bs → ◌≡◌ {A = Result Told Fault} (Ok t) (read_of bs) → t.kind ≡ kind_number k → r ≡ writing k (get_or t.numbers 0 0) (length old) → out ≡ settled r (told_bytes t) old → Rewrote bs old out r
again bs t k old out r all e named written wrote =
    record {
      result = writing_again bs t k (length old) r e named written;
      after = wrote ∙ ap (λ b. settled r b old) (told_again bs t all (accepted bs t e));
      again = on_ok r (rewritten_same bs t all e);
    }
