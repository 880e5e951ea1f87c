use Rattle.std.proofs.Common.{◌≡◌, ℕ, Bool, not, cond, ltb, List, [], ◌∷◌, length, take, drop, Some, None, Option, refl, ap, ◌∙◌, rules, tests, arith}
use Rattle.std.specs.List.{prefix_len, position_or_len}
use Rattle.std.specs.Option.{unwrap_or}
use Rattle.std.proofs.lemmas.Bool.Decides.{nat_tests}
use Rattle.std.proofs.lemmas.List.Sums.{prefix_len-le-length}
use Rattle.std.proofs.lemmas.Iterator.{YieldsList-from_slice}
use Rattle.std.proofs.lemmas.Iterator.Search.{position_from_yields_List}
use Rattle.text.proofs.split_while.Goals as goal

-- the first that fails stands behind all that pass before it
fails_at : (p : ℕ → Bool) (xs : List ℕ) → position_or_len (λ x. not (p x)) xs ≡ prefix_len p xs
fails_at p [] = refl
fails_at p (x ∷ xs) = grind (arith, fails_at p xs)

-- where the bytes end that pass, by what `position` answers
ends_at : (p : ℕ → Bool) (xs : List ℕ) (r : Option ℕ) → r ≡ cond (ltb (position_or_len (λ x. not (p x)) xs) (length xs)) (Some (position_or_len (λ x. not (p x)) xs)) None → unwrap_or r (length xs) ≡ prefix_len p xs
ends_at p xs r e = grind (arith, nat_tests, fails_at p xs, prefix_len-le-length p xs)

pub returns : goal.returns
returns g c =
    let bs = c.args.bytes.now in
    let end : (test : ℕ → Bool) → ((n : ℕ) (r : Bool) → g.F.Fn.post c.args.passes (n, tt) r → r ≡ test n) → c.unwrap_or.result ≡ prefix_len test bs = λ test acts.
    let found = position_from_yields_List (λ x. not (test x)) _ _ c.position-end.result c.position-end.ensures.ran (YieldsList-from_slice bs cc) (λ x b q k. search (rules, tests, acts)) in
    c.unwrap_or.ensures ∙ ends_at test bs c.position-end.result found in
    record {
      front = λ test acts. c.split_at.ensures.front ∙ ap (λ n. take n bs) (end test acts);
      back = λ test acts. c.split_at.ensures.back ∙ ap (λ n. drop n bs) (end test acts);
    }
