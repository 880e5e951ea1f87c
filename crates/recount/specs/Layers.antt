-- A number of first blocks on a rule.
use Rattle.std.specs.Prelude.{ℕ, zero, suc, cond, ℤ, pos, Some, None, Option, slice_index_or}
use Rattle.rules.specs.Meaning.{Agreement, Meaning}
use Rattle.rules.specs.First.{first_block}

-- a place's share, or none where the row is unlawful
abbrev pub split : Meaning → Agreement → ℕ → ℕ → ℕ → Option ℤ
split m t p e i = cond (m.lawful t) (Some (slice_index_or (m.shares t p e) i (pos 0))) None

-- so many first blocks on a rule
abbrev pub layers : ℕ → Meaning → Meaning
layers zero m = m
layers (suc n) m = first_block (layers n m)
