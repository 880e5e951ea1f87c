-- Calls to attempt, with one thing wrong, two or none, and what each is answered.
use Rattle.std.specs.Prelude.{ℕ, List, [], ◌∷◌, ◌++◌, map, Some, None}
use Rattle.samples.specs.declared.Attempt.{Attempt}

-- with nothing wrong a call is accepted
abbrev pub faultless : {W : Type 0} → Attempt W
faultless = record { one = None; other = None; expected = None }

-- what is wrong alone has its own refusal
abbrev pub alone : {W : Type 0} → W × (ℕ × ℕ) → Attempt W
alone wrong = record { one = Some wrong.0; other = None; expected = Some wrong.1 }

-- of two that are wrong the first is answered
abbrev pub beside : {W : Type 0} → W × (ℕ × ℕ) → W × (ℕ × ℕ) → Attempt W
beside first later = record { one = Some first.0; other = Some later.0; expected = Some first.1 }

-- each alone, and beside each of the list that comes after it
unfoldable pub in_order : {W : Type 0} → List (W × (ℕ × ℕ)) → List (Attempt W)
in_order [] = []
in_order (first ∷ later) = alone first ∷ (map (beside first) later ++ in_order later)
