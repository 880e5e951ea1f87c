-- Fixed blocks: each place has its nomination, and the balance place has the rest, which may be negative.
use Rattle.std.specs.Prelude.{ℕ, Bool, true, ◌&&◌, List, [], ◌∷◌, map, length, ℤ, pos, ◌-ℤ◌, sum, ◌==◌, nat_le, nat_lt, slice_index, slice_set}
use Rattle.domain.specs.Limits.{most_kwh}
use Rattle.rules.specs.Meaning.{Agreement, Meaning}

-- no nomination exceeds what a meter can count
abbrev pub modest : List ℕ → Bool
modest [] = true
modest (n ∷ ns) = nat_le n most_kwh && modest ns

-- the nominations, and at the balance place the energy less all of them
abbrev pub block_shares : Agreement → ℕ → List ℤ
block_shares t e = slice_set (map pos t.nominations) t.balance (pos e -ℤ pos (sum t.nominations))

-- from `least` to `most` places; the balance place nominates nothing, and the others at most C together
abbrev pub is_blocks : ℕ → ℕ → Agreement → Bool
is_blocks least most t =
    nat_le least (length t.nominations) && (nat_le (length t.nominations) most && (nat_lt t.balance (length t.nominations) && (slice_index t.nominations t.balance == 0 && (modest t.nominations && nat_le (sum t.nominations) t.capacity))))

-- the rule of fixed blocks with from `least` to `most` places
abbrev pub blocks : ℕ → ℕ → Meaning
blocks least most = record { lawful = is_blocks least most; shares = λ t p e. block_shares t e }

-- method 3, Fixed Block
abbrev pub fixed_block : Meaning
fixed_block = blocks 2 2

-- method 4, Multiple Fixed Block
abbrev pub multiple_block : Meaning
multiple_block = blocks 3 8
