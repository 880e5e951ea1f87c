-- The numbers of an input's lines.
use Rattle.std.proofs.Common.{ℕ, ◌+◌, ◌≤◌, Bool, true, false, cond, eqb, List, [], ◌∷◌, ◌++◌, length, arith, length-append}
use Rattle.text.specs.Words.{ended, lines_after, lines_of}

ended_few : (l : List ℕ) → length (ended l) ≤ length l
ended_few [] = omega arith
ended_few (c ∷ l) = omega arith

either : {A : Type 0} (b : Bool) (x y : List A) (n : ℕ) → length x ≤ n → length y ≤ n → length (cond b x y) ≤ n
either true x y n h k = h
either false x y n h k = k

lines_few : (l cs : List ℕ) → length (lines_after l cs) ≤ length l + length cs
lines_few l [] = let e = ended_few l in omega arith
lines_few l (c ∷ cs) =
    let h = lines_few [] cs in
    let k = lines_few (l ++ c ∷ []) cs in
    either (eqb c 10) (l ∷ lines_after [] cs) (lines_after (l ++ c ∷ []) cs) (length l + length (c ∷ cs)) (omega arith) (omega (arith, length-append l (c ∷ [])))

-- an input has no more lines than bytes
pub few_lines : (cs : List ℕ) → length (lines_of cs) ≤ length cs
few_lines cs = let h = lines_few [] cs in omega arith
