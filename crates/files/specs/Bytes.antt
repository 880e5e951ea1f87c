-- Numbers in bytes, and lists of records in bytes.
use Rattle.std.specs.Prelude.{◌≡◌, ℕ, zero, suc, ◌+◌, ◌*◌, ◌/◌, ◌%◌, ◌<◌, List, [], ◌∷◌, length, take, drop, Option, MatchOption, slice_index}
use Rattle.std.specs.Iterator.{YieldsFirst}
use Rattle.std.specs.List.{AllByRecursion, slice_get}

-- each number is a byte
abbrev pub Bytes : List ℕ → Type 0
Bytes bs = AllByRecursion (λ b. b < 256) bs

-- a 16-bit number, high byte first
abbrev pub word16 : ℕ → List ℕ
word16 n = (n / 256 % 256) ∷ (n % 256) ∷ []

-- a 32-bit number, high byte first
abbrev pub word32 : ℕ → List ℕ
word32 n = (n / 16777216 % 256) ∷ (n / 65536 % 256) ∷ (n / 256 % 256) ∷ (n % 256) ∷ []

-- the 16-bit number at the start of the bytes
abbrev pub number16 : List ℕ → ℕ
number16 bs = slice_index bs 0 * 256 + slice_index bs 1

-- the 32-bit number at the start of the bytes
abbrev pub number32 : List ℕ → ℕ
number32 bs = slice_index bs 0 * 16777216 + slice_index bs 1 * 65536 + slice_index bs 2 * 256 + slice_index bs 3

-- the first n records, each decoded from the next `size` bytes
unfoldable pub unpacked : {X : Type 0} → (List ℕ → X) → ℕ → ℕ → List ℕ → List X
unpacked decode size zero bs = []
unpacked decode size (suc n) bs = decode (take size bs) ∷ unpacked decode size n (drop size bs)

-- all records that the bytes have
abbrev pub records_in : {X : Type 0} → (List ℕ → X) → ℕ → List ℕ → List X
records_in decode size bs = unpacked decode size (length bs / size) bs

-- the record at a place, of as many as the bytes have, or none past the last
abbrev pub record_in : {X : Type 0} → (List ℕ → X) → ℕ → List ℕ → ℕ → Option X
record_in decode size bs index = slice_get (records_in decode size bs) index

-- a call took the first record of the bytes that were left, if any, and left the bytes behind it
abbrev pub TakesRecord : {X : Type 0} → (List ℕ → X) → ℕ → List ℕ → Option X → List ℕ → Type 0
TakesRecord decode size was taken is =
    YieldsFirst (records_in decode size) was taken is × MatchOption taken (is ≡ was) (λ _. is ≡ drop size was)
