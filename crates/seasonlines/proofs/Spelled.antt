use Rattle.std.proofs.Common.{◌≡◌, ℕ, zero, suc, ◌+◌, ◌<◌, List, [], ◌∷◌, length, get_or, sym, ap, ◌∙◌, arith}
use Rattle.std.proofs.lemmas.Grind.{same_number_lists}
use Rattle.seasonlines.specs.Verbs.{verb_of}

-- the letters of t stand in w from the place i on
abbrev pub SpelledFrom : ℕ → List ℕ → List ℕ → Type 0
SpelledFrom i [] w = Unit {0}
SpelledFrom i (c ∷ t) w = (get_or w i 0 ≡ c) × SpelledFrom (i + 1) t w

spelled_at : (i : ℕ) (t w : List ℕ) (k : ℕ) → SpelledFrom i t w → k < length t → get_or w (i + k) 0 ≡ get_or t k 0
spelled_at i [] w k s h = absurd (omega arith)
spelled_at i (c ∷ t) w zero s h = let e : i + 0 ≡ i = omega arith in ap (λ j. get_or w j 0) e ∙ s.0
spelled_at i (c ∷ t) w (suc k) s h =
    let e : i + suc k ≡ (i + 1) + k = omega arith in ap (λ j. get_or w j 0) e ∙ spelled_at (i + 1) t w k s.1 (omega arith)

-- a word of these letters is this one
pub verb_spelled : (t w : List ℕ) → length w ≡ length t → SpelledFrom 0 t w → verb_of t ≡ verb_of w
verb_spelled t w n s =
    let same : w ≡ t = same_number_lists w t n (λ k h. let z : 0 + k ≡ k = omega arith in ap (λ j. get_or w j 0) (sym z) ∙ spelled_at 0 t w k s (omega arith)) in
    ap verb_of (sym same)
