-- The general conditions hold of each method, and so of the house rule.
use Rattle.std.specs.Prelude.{◌≡◌, ℕ, zero, suc, ◌+◌, ◌-◌, ◌≤◌, true, length, slice_index, slice_index_or}
use Rattle.std.proofs.Common.{ap, arith, length-drop, get_or-drop}
use Rattle.std.proofs.lemmas.List.{get_or_past}
use Rattle.std.proofs.lemmas.Bool.{false≢true}
use Rattle.std.proofs.lemmas.Bool.Decides.{nat_tests}
use Rattle.domain.specs.Limits.{most_kwh}
use Rattle.rules.specs.Meaning.{Agreement, Meaning}
use Rattle.rules.specs.Pairs.{is_pair, pairs, percent_of, whole, taken}
use Rattle.rules.specs.Blocks.{blocks}
use Rattle.rules.specs.First.{after_first, first_block}
use Rattle.rules.specs.House.{nothing, house}
use Rattle.rules.specs.General.{General, AsksGeneral}
use Rattle.rules.specs.Blocked.{booked, modest_each}
use Rattle.rules.specs.Housed.{by_method}

module _ (most : ℕ) (part : Agreement → ℕ → ℕ → ℕ) (few : most ≤ most_kwh) (t : Agreement) (lawful : is_pair most t ≡ true) where
  pair_each : (i : ℕ) → slice_index t.nominations i ≤ most_kwh
  pair_each zero = grind (arith, nat_tests)
  pair_each (suc zero) = grind (arith, nat_tests)
  pair_each (suc (suc i)) =
      let two : length t.nominations ≡ 2 = grind (arith, nat_tests) in
      omega (arith, get_or_past t.nominations (suc (suc i)) 0 (omega arith))

pairs_general : (most : ℕ) (part : Agreement → ℕ → ℕ → ℕ) → most ≤ most_kwh → AsksGeneral (pairs most part)
pairs_general most part few t lawful = record { balances = grind (arith, nat_tests); leaves = grind (arith, nat_tests); each = pair_each most part few t lawful }

pub blocks_general : (least most : ℕ) → AsksGeneral (blocks least most)
blocks_general least most t lawful =
    let b = booked least most t lawful in
    record { balances = b.within; leaves = b.none; each = modest_each t.nominations b.modest }

module _ (m : Meaning) (general : AsksGeneral m) (t : Agreement) (lawful : (first_block m).lawful t ≡ true) where
  rest : General (after_first t)
  rest = general (after_first t) (grind (arith, nat_tests))

  some : 1 ≤ t.balance
  some = grind (arith, nat_tests)

  first_each : (i : ℕ) → slice_index t.nominations i ≤ most_kwh
  first_each zero = grind (arith, nat_tests)
  first_each (suc i) =
      let e : 1 + i ≡ suc i = omega arith in
      omega (arith, rest.each i, get_or-drop 1 t.nominations i 0, ap (λ (k : ℕ). slice_index t.nominations k) e)

  first_leaves : slice_index_or t.nominations t.balance 0 ≡ 0
  first_leaves =
      let e : 1 + (t.balance - 1) ≡ t.balance = omega (arith, some) in
      omega (arith, rest.leaves, get_or-drop 1 t.nominations (t.balance - 1) 0, ap (λ (k : ℕ). slice_index t.nominations k) e)

first_general : (m : Meaning) → AsksGeneral m → AsksGeneral (first_block m)
first_general m general t lawful = record {
  balances = omega (arith, (rest m general t lawful).balances, some m general t lawful, length-drop 1 t.nominations);
  leaves = first_leaves m general t lawful;
  each = first_each m general t lawful;
}

nothing_general : AsksGeneral nothing
nothing_general t lawful = absurd (false≢true lawful)

pub house_general : AsksGeneral house
house_general t lawful =
    by_method AsksGeneral (pairs_general whole percent_of (omega arith)) (pairs_general most_kwh (λ t p e. taken t e) (omega arith)) (blocks_general 2 2) (blocks_general 3 8) first_general nothing_general t.method t lawful
