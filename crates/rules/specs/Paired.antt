-- A first place that has no more than the energy, and a second that has the rest, keep the laws.
use Rattle.std.specs.Prelude.{◌≡◌, ℕ, zero, suc, ◌*◌, ◌<◌, ◌≤◌, true, pos, slice_index_or}
use Rattle.std.proofs.Common.{ap, mul-le-mul_right, arith}
use Rattle.std.proofs.lemmas.Bool.Decides.{nat_tests}
use Rattle.rules.specs.Meaning.{Agreement, Laws, Fair}
use Rattle.rules.specs.Pairs.{is_pair, pairs, whole, nearest, first_of, percent_of, percentage}
use Rattle.rules.specs.Rounding.{Nearest}
use Rattle.rules.specs.Shares.{fair_part}

module _ (most : ℕ) (part : Agreement → ℕ → ℕ → ℕ) (within : (t : Agreement) (p e : ℕ) → is_pair most t ≡ true → part t p e ≤ e) where
  module _ (t : Agreement) (p e : ℕ) (lawful : is_pair most t ≡ true) where
    each : (i : ℕ) → i < 2 → Fair t e i (slice_index_or ((pairs most part).shares t p e) i (pos 0))
    each zero h = fair_part t e _ _ (omega (arith, within t p e lawful))
    each (suc zero) h = fair_part t e _ _ (omega arith)
    each (suc (suc i)) h = absurd (omega arith)

  pub pairs_laws : Laws (pairs most part)
  pairs_laws t p e lawful range = record {
    places = grind (arith, nat_tests);
    whole = let h = within t p e lawful in ap pos (omega arith);
    each = each t p e lawful;
  }

pub nearest_le : (p m e : ℕ) → m ≤ whole → nearest p (m * e) ≤ e
nearest_le p m e h = let x = mul-le-mul_right e h in grind (arith, nat_tests)

-- the first place of a lawful percentage row nominates no more than all
pub percent_of_all : (t : Agreement) → is_pair whole t ≡ true → first_of t ≤ whole
percent_of_all t lawful = grind (arith, nat_tests)

pub percentage_laws : Laws percentage
percentage_laws = pairs_laws whole percent_of (λ t p e lawful. nearest_le p (first_of t) e (percent_of_all t lawful))

-- what is rounded is nearest
pub nearest_is : (p x : ℕ) → Nearest p x (nearest p x)
nearest_is p x = record { above = grind (arith, nat_tests); below = grind (arith, nat_tests); upper = λ odd half. grind (arith, nat_tests); lower = λ even half. grind (arith, nat_tests) }
