-- Bytes by their places, and numbers and records that are written and read again.
use Rattle.std.specs.Prelude.{◌≡◌, ℕ, zero, suc, ◌+◌, ◌*◌, ◌/◌, ◌%◌, ◌<◌, ◌≤◌, List, [], ◌∷◌, ◌++◌, length, drop, slice_index}
use Rattle.std.proofs.Common.{sym, ap, subst, ◌∙◌, arith}
use Rattle.std.proofs.lemmas.List.{drop_more, drop_all}
use Rattle.files.specs.Bytes.{word16, word32}

-- the n bytes from the place i on, one by one
abbrev pub listed : ℕ → ℕ → List ℕ → List ℕ
listed zero i bs = []
listed (suc n) i bs = slice_index bs i ∷ listed n (i + 1) bs

pub listed_is : (n i : ℕ) (bs : List ℕ) → length bs ≡ i + n → listed n i bs ≡ drop i bs
listed_is zero i bs h = sym (drop_all i bs (omega arith))
listed_is (suc n) i bs h =
    ap (λ t. slice_index bs i ∷ t) (listed_is n (i + 1) bs (omega arith)) ∙ sym (drop_more bs i 0 (omega arith))

-- the first bytes one by one, and the others behind them
pub listed_front : (n i : ℕ) (bs : List ℕ) → i + n ≤ length bs → listed n i bs ++ drop (i + n) bs ≡ drop i bs
listed_front zero i bs h = ap (λ m. drop m bs) (omega arith)
listed_front (suc n) i bs h =
    let far : drop (i + suc n) bs ≡ drop (i + 1 + n) bs = ap (λ m. drop m bs) (omega arith) in
    ap (λ t. slice_index bs i ∷ (listed n (i + 1) bs ++ t)) far ∙ ap (λ t. slice_index bs i ∷ t) (listed_front n (i + 1) bs (omega arith)) ∙ sym (drop_more bs i 0 (omega arith))

-- what holds of bytes that are written out holds of every list of so many
pub by_listed : (P : List ℕ → Type 0) (n : ℕ) (bs : List ℕ) → length bs ≡ n → P (listed n 0 bs) → P bs
by_listed P n bs h p = subst P (listed_is n 0 bs (omega arith)) p

pub word16_again : (a b : ℕ) → a < 256 → b < 256 → word16 (a * 256 + b) ≡ a ∷ b ∷ []
word16_again a b p q =
    let high : (a * 256 + b) / 256 % 256 ≡ a = omega arith in
    let low : (a * 256 + b) % 256 ≡ b = omega arith in
    cc

pub word32_again : (a b c d : ℕ) → a < 256 → b < 256 → c < 256 → d < 256 → word32 (a * 16777216 + b * 65536 + c * 256 + d) ≡ a ∷ b ∷ c ∷ d ∷ []
word32_again a b c d p q r s =
    let n = a * 16777216 + b * 65536 + c * 256 + d in
    let e3 : n / 16777216 % 256 ≡ a = omega arith in
    let e2 : n / 65536 % 256 ≡ b = omega arith in
    let e1 : n / 256 % 256 ≡ c = omega arith in
    let e0 : n % 256 ≡ d = omega arith in
    cc
