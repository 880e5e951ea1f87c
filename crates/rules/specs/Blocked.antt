-- Fixed blocks keep the laws.
use Rattle.std.specs.Prelude.{◌≡◌, ℕ, zero, suc, ◌<◌, ◌≤◌, true, false, ◌≢◌, List, [], ◌∷◌, map, length, get_or, ℤ, pos, ◌+ℤ◌, ◌-ℤ◌, sum, slice_index, slice_index_or, slice_set, refl}
use Rattle.std.proofs.Common.{⊎_elim, arith, length-set, get_or-set_same, get_or-set_other}
use Rattle.std.proofs.lemmas.List.{length-map}
use Rattle.std.proofs.lemmas.Bool.{cases_eq, cases_Bool}
use Rattle.std.proofs.lemmas.Bool.Decides.{nat_tests}
use Rattle.std.proofs.lemmas.List.Sums.{sum_by-cons, get_or-le-sum_by}
use Rattle.std.proofs.lemmas.Int.{ints}
use Rattle.domain.specs.Limits.{most_kwh}
use Rattle.rules.specs.Meaning.{Agreement, Laws, Fair, total}
use Rattle.rules.specs.Blocks.{modest, is_blocks, blocks, block_shares}
use Rattle.rules.specs.Shares.{fair_part}

total_pos : (ns : List ℕ) → total (map pos ns) ≡ pos (sum ns)
total_pos [] = refl
total_pos (n ∷ ns) = omega (arith, ints, total_pos ns, sum_by-cons (λ x. x) n ns)

total_set : (xs : List ℤ) (b : ℕ) (v : ℤ) → b < length xs → total (slice_set xs b v) +ℤ slice_index_or xs b (pos 0) ≡ total xs +ℤ v
total_set [] b v h = absurd (omega arith)
total_set (x ∷ xs) zero v h = omega (arith, ints)
total_set (x ∷ xs) (suc b) v h = omega (arith, ints, total_set xs b v (omega arith))

get_or_pos : (ns : List ℕ) (i : ℕ) → slice_index_or (map pos ns) i (pos 0) ≡ pos (slice_index ns i)
get_or_pos [] i = refl
get_or_pos (n ∷ ns) zero = refl
get_or_pos (n ∷ ns) (suc i) = get_or_pos ns i

-- no nomination exceeds the limit just where each place's does not
pub modest_each : (ns : List ℕ) → modest ns ≡ true → (i : ℕ) → slice_index ns i ≤ most_kwh
modest_each [] h i = omega arith
modest_each (n ∷ ns) h zero = grind (arith, nat_tests)
modest_each (n ∷ ns) h (suc i) = modest_each ns (grind (arith, nat_tests)) i

pub modest_from : (ns : List ℕ) → ((i : ℕ) → i < length ns → slice_index ns i ≤ most_kwh) → modest ns ≡ true
modest_from [] each = refl
modest_from (n ∷ ns) each =
    let here = each 0 (omega arith) in
    let rest = modest_from ns (λ i h. each (suc i) (omega arith)) in
    grind (arith, nat_tests)

pub immodest : (ns : List ℕ) (i : ℕ) → most_kwh < slice_index ns i → modest ns ≡ false
immodest ns i over =
    ⊎_elim (λ (e : modest ns ≡ true). absurd (omega (arith, modest_each ns e i))) (λ (e : modest ns ≡ false). e) (cases_Bool (modest ns))

-- the share of the balance place, and of any other
pub block_here : (t : Agreement) (e i : ℕ) → t.balance < length t.nominations → i ≡ t.balance → slice_index_or (block_shares t e) i (pos 0) ≡ pos e -ℤ pos (sum t.nominations)
block_here t e i h here = grind (arith, get_or-set_same, length-map)

pub block_there : (t : Agreement) (e i : ℕ) → i ≢ t.balance → slice_index_or (block_shares t e) i (pos 0) ≡ pos (slice_index t.nominations i)
block_there t e i there = rw get_or-set_other (get_or_pos t.nominations i)

-- what a lawful row of blocks has
pub record Booked (t : Agreement) : Type 0 where
  pub within : t.balance < length t.nominations
  pub none : get_or t.nominations t.balance 0 ≡ 0
  pub modest : modest t.nominations ≡ true
  pub room : sum t.nominations ≤ t.capacity

pub booked : (least most : ℕ) (t : Agreement) → is_blocks least most t ≡ true → Booked t
booked least most t lawful = record { within = grind (arith, nat_tests); none = grind (arith, nat_tests); modest = grind (arith, nat_tests); room = grind (arith, nat_tests) }

module _ (t : Agreement) (e : ℕ) (b : Booked t) where
  each : (i : ℕ) → i < length t.nominations → Fair t e i (slice_index_or (block_shares t e) i (pos 0))
  each i h =
      ⊎_elim
      (λ here. rw (block_here t e i b.within here) (record { low = omega (arith, ints); high = omega (arith, ints); sign = λ there. absurd (there here) }))
      (λ there. rw (block_there t e i there) (fair_part t e i _ (omega (arith, get_or-le-sum_by (λ x. x) t.nominations i 0 h))))
      (cases_eq i t.balance)

  whole : total (block_shares t e) ≡ pos e
  whole =
      let ns = t.nominations in
      omega (arith, ints, total_set (map pos ns) t.balance (pos e -ℤ pos (sum ns)) (simp length-map b.within), total_pos ns, get_or_pos ns t.balance)

pub blocks_laws : (least most : ℕ) → Laws (blocks least most)
blocks_laws least most t p e lawful range =
    let b = booked least most t lawful in
    record {
      places = simp (length-set, length-map);
      whole = whole t e b;
      each = λ i h. each t e b i (simp (length-set, length-map) at h);
    }
