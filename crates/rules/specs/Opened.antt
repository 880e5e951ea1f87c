-- A first block on a rule that keeps the laws keeps them too.
use Rattle.std.specs.Prelude.{◌≡◌, ℕ, zero, suc, ◌-◌, ◌<◌, ◌≤◌, true, length, pos, slice_index_or}
use Rattle.std.proofs.Common.{arith, length-drop}
use Rattle.std.proofs.lemmas.Bool.Decides.{nat_tests}
use Rattle.std.proofs.lemmas.Int.{ints}
use Rattle.rules.specs.Meaning.{Agreement, Meaning, Laws, Split, Fair, in_range}
use Rattle.rules.specs.Pairs.{taken}
use Rattle.rules.specs.First.{after_first, first_block}
use Rattle.rules.specs.Shares.{fair_part}

module _ (m : Meaning) (laws : Laws m) (t : Agreement) (p e : ℕ) (lawful : (first_block m).lawful t ≡ true) (range : in_range p e ≡ true) where
  rest : Split (after_first t) (e - taken t e) (m.shares (after_first t) p (e - taken t e))
  rest = laws (after_first t) p (e - taken t e) (grind (arith, nat_tests)) (grind (arith, nat_tests))

  each : (i : ℕ) → i < length ((first_block m).shares t p e) → Fair t e i (slice_index_or ((first_block m).shares t p e) i (pos 0))
  each zero h = fair_part t e _ _ (omega arith)
  each (suc i) h =
      let f = rest.each i (omega arith) in
      let b : 1 ≤ t.balance = grind (arith, nat_tests) in
      record { low = f.low; high = omega (arith, ints, f.high); sign = λ ne. f.sign (λ q. ne (omega arith)) }

  long : 3 ≤ length t.nominations
  long = grind (arith, nat_tests)

  split : Split t e ((first_block m).shares t p e)
  split = record {
    places = omega (arith, rest.places, length-drop 1 t.nominations, long);
    whole = omega (arith, ints, rest.whole);
    each = each;
  }

pub first_laws : (m : Meaning) → Laws m → Laws (first_block m)
first_laws m laws t p e lawful range = split m laws t p e lawful range
