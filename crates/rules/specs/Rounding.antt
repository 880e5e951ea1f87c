-- What rounding to the nearest kWh means, with no division in it.
use Rattle.std.specs.Prelude.{◌≡◌, ℕ, ◌+◌, ◌*◌, ◌%◌, ◌≤◌, ◌⊎◌, ℤ, pos}
use Rattle.rules.specs.Pairs.{whole}

-- 10,000 times the share s differs from x by exactly 5,000
abbrev pub IsHalf : ℕ → ℕ → Type 0
IsHalf x s = (whole * s ≡ x + 5000) ⊎ (whole * s + 5000 ≡ x)

-- 10,000 times the share s is x, to within 5,000; a half is the upper neighbour in an odd period p, the lower in an even one
pub record Nearest (p x s : ℕ) : Type 0 where
  pub above : whole * s ≤ x + 5000
  pub below : x ≤ whole * s + 5000
  pub upper : p % 2 ≡ 1 → IsHalf x s → whole * s ≡ x + 5000
  pub lower : p % 2 ≡ 0 → IsHalf x s → whole * s + 5000 ≡ x

-- the answer z is such a share
abbrev pub RoundedTo : ℕ → ℕ → ℤ → Type 0
RoundedTo p x z = (s : ℕ) × (z ≡ pos s) × Nearest p x s
