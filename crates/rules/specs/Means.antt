-- What the rules of fixed blocks mean, with no test and no list in it.
use Rattle.std.specs.Prelude.{◌≡◌, ◌≢◌, ℕ, ◌≤◌, true, List, length, ℤ, pos, ◌-ℤ◌, sum, slice_index, slice_index_or}
use Rattle.rules.specs.Meaning.{Agreement, Meaning}
use Rattle.rules.specs.General.{General}

-- a row of from `least` to `most` places that keeps the general conditions, and nominates no more than the Relevant Capacity together
pub record HasBlocks (least most : ℕ) (t : Agreement) : Type 0 where
  pub enough : least ≤ length t.nominations
  pub few : length t.nominations ≤ most
  pub general : General t
  pub room : sum t.nominations ≤ t.capacity

-- each place has its nomination, and the balance place the energy e less all of them
pub record SharesBlocks (t : Agreement) (e : ℕ) (s : List ℤ) : Type 0 where
  pub places : length s ≡ length t.nominations
  pub balance : slice_index_or s t.balance (pos 0) ≡ pos e -ℤ pos (sum t.nominations)
  pub others : (i : ℕ) → i ≢ t.balance → slice_index_or s i (pos 0) ≡ pos (slice_index t.nominations i)

-- just such rows are lawful, and their energy is shared so
pub record MeansBlocks (least most : ℕ) (m : Meaning) : Type 0 where
  pub asks : (t : Agreement) → m.lawful t ≡ true → HasBlocks least most t
  pub takes : (t : Agreement) → HasBlocks least most t → m.lawful t ≡ true
  pub shares : (t : Agreement) (p e : ℕ) → m.lawful t ≡ true → SharesBlocks t e (m.shares t p e)

-- a Fixed Block has two places, and a Multiple Fixed Block three to eight
pub record BlocksMean (fixed multiple : Meaning) : Type 0 where
  pub two : MeansBlocks 2 2 fixed
  pub three_to_eight : MeansBlocks 3 8 multiple
