-- The laws of the records: what is decoded and encoded again is the same bytes.
use Rattle.std.specs.Prelude.{◌≡◌, ℕ, ◌+◌, ◌*◌, ◌<◌, ◌≤◌, List, [], ◌∷◌, ◌++◌, length, drop, slice_index, slice_set, refl}
use Rattle.std.proofs.Common.{sym, ap, subst, ◌∙◌, arith, length-drop, of_z, to_z, Fits, rules}
use Rattle.std.specs.Int.{w32}
use Rattle.std.proofs.Math.Facts.{of_z-to_z}
use borrow.Rule.Slice.PartMut.{put_mid}
use Rattle.std.specs.List.{flat_map}
use Rattle.std.proofs.lemmas.List.{drop_more, drop_all, append-nil}
use Rattle.std.proofs.ByRecursion.{All-drop}
use Rattle.domain.specs.declared.AllocationRow.{AllocationRow}
use Rattle.files.specs.Bytes.{Bytes, word32, number32, unpacked}
use Rattle.files.specs.Records.{encoded_reading, decoded_reading, encoded_line, decoded_line, Whole32, row_size, encoded_row, decoded_row, WholeRow, encoded_intro, decoded_intro}
use Rattle.files.specs.Packs.{length_joined, unpacked_joined, joined_unpacked}
use Rattle.files.specs.Words.{by_listed, word16_again, word32_again}

pub number_again : (bs : List ℕ) → length bs ≡ 4 → Bytes bs → word32 (number32 bs) ≡ bs
number_again bs h =
    let P : List ℕ → Type 0 = λ bs. Bytes bs → word32 (number32 bs) ≡ bs in
    by_listed P 4 bs h (λ all. word32_again _ _ _ _ all.0 all.1.0 all.1.1.0 all.1.1.1.0)

reading_bytes : (a b c d e f g h : ℕ) → Bytes (a ∷ b ∷ c ∷ d ∷ e ∷ f ∷ g ∷ h ∷ []) → encoded_reading (decoded_reading (a ∷ b ∷ c ∷ d ∷ e ∷ f ∷ g ∷ h ∷ [])) ≡ a ∷ b ∷ c ∷ d ∷ e ∷ f ∷ g ∷ h ∷ []
reading_bytes a b c d e f g h all =
    let day = word16_again a b (omega arith) (omega arith) in
    let kwh = word32_again e f g h (omega arith) (omega arith) (omega arith) (omega arith) in
    cc

pub reading_again : (bs : List ℕ) → length bs ≡ 8 → Bytes bs → encoded_reading (decoded_reading bs) ≡ bs
reading_again bs h =
    let P : List ℕ → Type 0 = λ bs. Bytes bs → encoded_reading (decoded_reading bs) ≡ bs in
    by_listed P 8 bs h (reading_bytes _ _ _ _ _ _ _ _)

intro_bytes_lem : (a b c d e f g h : ℕ) → Bytes (a ∷ b ∷ c ∷ d ∷ e ∷ f ∷ g ∷ h ∷ []) → encoded_intro (decoded_intro (a ∷ b ∷ c ∷ d ∷ e ∷ f ∷ g ∷ h ∷ [])) ≡ a ∷ b ∷ c ∷ d ∷ e ∷ f ∷ g ∷ h ∷ []
intro_bytes_lem a b c d e f g h all =
    let sender = word16_again a b (omega arith) (omega arith) in
    let day = word16_again c d (omega arith) (omega arith) in
    let moment = word32_again e f g h (omega arith) (omega arith) (omega arith) (omega arith) in
    cc

pub intro_again : (bs : List ℕ) → length bs ≡ 8 → Bytes bs → encoded_intro (decoded_intro bs) ≡ bs
intro_again bs h =
    let P : List ℕ → Type 0 = λ bs. Bytes bs → encoded_intro (decoded_intro bs) ≡ bs in
    by_listed P 8 bs h (intro_bytes_lem _ _ _ _ _ _ _ _)

line_bytes : (a b c d e f g h i j k : ℕ) → Bytes (a ∷ b ∷ c ∷ d ∷ e ∷ f ∷ g ∷ h ∷ i ∷ j ∷ k ∷ []) → encoded_line (decoded_line (a ∷ b ∷ c ∷ d ∷ e ∷ f ∷ g ∷ h ∷ i ∷ j ∷ k ∷ [])) ≡ a ∷ b ∷ c ∷ d ∷ e ∷ f ∷ g ∷ h ∷ i ∷ j ∷ k ∷ []
line_bytes a b c d e f g h i j k all =
    let day = word16_again a b (omega arith) (omega arith) in
    let supplier = word16_again e f (omega arith) (omega arith) in
    let n = h * 16777216 + i * 65536 + j * 256 + k in
    let fits : Fits w32 n = search rules in
    let bits : of_z w32 (to_z w32 n) ≡ n = of_z-to_z fits in
    let volume = ap word32 bits ∙ word32_again h i j k (omega arith) (omega arith) (omega arith) (omega arith) in
    cc

pub line_again : (bs : List ℕ) → length bs ≡ 11 → Bytes bs → encoded_line (decoded_line bs) ≡ bs
line_again bs h =
    let P : List ℕ → Type 0 = λ bs. Bytes bs → encoded_line (decoded_line bs) ≡ bs in
    by_listed P 11 bs h (line_bytes _ _ _ _ _ _ _ _ _ _ _)

pub number_long : (n : ℕ) → Whole32 n → length (word32 n) ≡ 4
number_long n h = refl

pub number_back : (n : ℕ) → Whole32 n → number32 (word32 n) ≡ n
number_back n h = search rules

pub row_long : (row : AllocationRow) → WholeRow row → length (encoded_row row) ≡ row_size
row_long row h =
    let long = length_joined word32 4 Whole32 number_long row.nominations h.1 in
    omega arith

pub row_back : (row : AllocationRow) → WholeRow row → decoded_row (encoded_row row) ≡ row
row_back row h =
    let same = unpacked_joined word32 number32 4 Whole32 number_long number_back row.nominations h.1 in
    ap (λ ns. record { method = row.method; balance = row.balance; nominations = ns }) (ap (λ n. unpacked number32 4 n (flat_map word32 row.nominations)) (sym h.0) ∙ same)

pub row_again : (bs : List ℕ) → length bs ≡ row_size → Bytes bs → encoded_row (decoded_row bs) ≡ bs
row_again bs h all =
    let first = drop_more bs 0 0 (omega arith) in
    let second = drop_more bs 1 0 (omega arith) in
    let left : length (drop 2 bs) ≡ 8 * 4 = length-drop 2 bs ∙ omega arith in
    let same = joined_unpacked word32 number32 4 number_again 8 (drop 2 bs) left (All-drop (λ b. b < 256) 2 bs all) in
    cc

-- what a buffer of a row's size holds when method, balance place and nominations have been written into it
pub row_written : (row : AllocationRow) (out w t : List ℕ) (k : ℕ) → length out ≡ row_size → k ≡ 32 → length t ≤ 32 → w ≡ flat_map word32 row.nominations ++ drop 32 t → put_mid 2 k (slice_set (slice_set out 0 row.method) 1 row.balance) w ≡ encoded_row row
row_written row out w t k h size short wrote =
    let m = row.method in
    let b = row.balance in
    let j = flat_map word32 row.nominations in
    let rest = drop 2 out in
    let shape : out ≡ slice_index out 0 ∷ slice_index out 1 ∷ rest = drop_more out 0 0 (omega arith) ∙ ap (λ t. slice_index out 0 ∷ t) (drop_more out 1 0 (omega arith)) in
    let none : drop k rest ≡ [] = drop_all k rest (simp length-drop (omega arith)) in
    let all : w ≡ j = wrote ∙ ap (λ t. j ++ t) (drop_all 32 t short) ∙ append-nil j in
    let P : List ℕ → Type 0 = λ out. put_mid 2 k (slice_set (slice_set out 0 m) 1 b) w ≡ m ∷ b ∷ j in
    subst P (sym shape) (ap (λ t. m ∷ b ∷ t) (ap (λ t. w ++ t) none ∙ append-nil w ∙ all))
