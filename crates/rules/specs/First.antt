-- A first block: place 0 has its nomination, as far as the energy goes, and a rule below splits the rest.
use Rattle.std.specs.Prelude.{◌-◌, Bool, ◌&&◌, ◌∷◌, length, drop, pos, nat_le}
use Rattle.domain.specs.Limits.{most_kwh}
use Rattle.rules.specs.Meaning.{Agreement, Meaning}
use Rattle.rules.specs.Pairs.{first_of, taken}

-- three places or more, the first not the balance place and with a nomination within the limit
abbrev pub opens : Agreement → Bool
opens t = nat_le 3 (length t.nominations) && (nat_le 1 t.balance && nat_le (first_of t) most_kwh)

-- the row of the places after the first, with the same method and capacity
abbrev pub after_first : Agreement → Agreement
after_first t =
    record { method = t.method; capacity = t.capacity; nominations = drop 1 t.nominations; balance = t.balance - 1 }

-- a first block on a rule
abbrev pub first_block : Meaning → Meaning
first_block m = record {
  lawful = λ t. opens t && m.lawful (after_first t);
  shares = λ t p e. pos (taken t e) ∷ m.shares (after_first t) p (e - taken t e);
}
