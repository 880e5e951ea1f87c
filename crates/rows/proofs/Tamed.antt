-- The laws keep a rule's answers within what a meter can count.
use Rattle.std.proofs.Common.{ℕ, ◌<◌, ◌≤◌, ◌&&◌, List, length, get_or, ℤ, pos, ⊎_elim, arith}
use Rattle.std.proofs.lemmas.List.{get_or_past}
use Rattle.std.proofs.lemmas.Int.{ints}
use Rattle.std.proofs.lemmas.Bool.{cases_lt, cond_both, and_parts}
use Rattle.std.proofs.lemmas.Bool.Decides.{nat_tests}
use Rattle.domain.specs.Limits.{most_kwh}
use Rattle.rules.specs.Meaning.{Agreement, Meaning, Laws, Split, answered, in_range}
use Rattle.rows.specs.Rows.{Tame}

pub tame_none : Tame (pos 0)
tame_none = record { low = omega (arith, ints); high = omega (arith, ints) }

-- a split of an energy within its limit, at a capacity within its limit
tame_split : (t : Agreement) (e : ℕ) (s : List ℤ) → Split t e s → e ≤ most_kwh → t.capacity ≤ most_kwh → (i : ℕ) → Tame (get_or s i (pos 0))
tame_split t e s split few room i =
    ⊎_elim
    (λ (h : i < length s). let f = split.each i h in record { low = omega (arith, ints, f.low); high = omega (arith, ints, f.high) })
    (λ (h : length s ≤ i). rw (get_or_past s i (pos 0) h) tame_none)
    (cases_lt i (length s))

pub tame_answered : (m : Meaning) → Laws m → (t : Agreement) → t.capacity ≤ most_kwh → (p e i : ℕ) → Tame (answered m t p e i)
tame_answered m laws t room p e i =
    cond_both (m.lawful t && in_range p e) _ _ Tame
    (λ both. let parts = and_parts (m.lawful t) (in_range p e) both in
    tame_split t e (m.shares t p e) (laws t p e parts.0 parts.1) (grind (arith, nat_tests)) room i)
    (λ _. tame_none)
