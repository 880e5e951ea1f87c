-- A turn of the loop over what can be wrong, and its end.
use Rattle.std.proofs.Common.{◌≡◌, List, [], ◌∷◌, ◌++◌, map, ℕ, length, ap, sym, ◌∙◌, arith}
use Rattle.std.proofs.lemmas.List.{append_assoc, append-nil}
use Rattle.samples.specs.declared.Attempt.{Attempt}
use Rattle.samples.specs.Attempts.{alone, beside, in_order}

-- what is added for the first is what the rest has more than what comes after it
pub first_added : {W : Type 0} (made : List (Attempt W)) {now all : List (Attempt W)} {rest : List (W × (ℕ × ℕ))} (first : W × (ℕ × ℕ)) (later : List (W × (ℕ × ℕ)))
    → made ++ in_order rest ≡ all → rest ≡ first ∷ later → now ≡ made ++ (alone first ∷ map (beside first) later) → now ++ in_order later ≡ all
unfolding in_order
first_added made first later before split added =
    ap (λ now. now ++ in_order later) added ∙ append_assoc made (alone first ∷ map (beside first) later) (in_order later) ∙ ap (λ rest. made ++ in_order rest) (sym split) ∙ before

-- nothing is left to add
pub all_added : {W : Type 0} (made : List (Attempt W)) {all : List (Attempt W)} (rest : List (W × (ℕ × ℕ))) → made ++ in_order rest ≡ all → length rest ≡ 0 → made ≡ all
unfolding in_order
all_added made [] before none = sym (append-nil made) ∙ before
all_added made (first ∷ later) before none = absurd (omega arith)
