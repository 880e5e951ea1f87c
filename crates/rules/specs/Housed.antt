-- What holds of each method holds of the house rule: so do the laws.
use Rattle.std.specs.Prelude.{ℕ, ◌==◌}
use Rattle.std.proofs.Common.{arith}
use Rattle.std.proofs.lemmas.Bool.{cond_both, false≢true}
use Rattle.domain.specs.Limits.{most_kwh}
use Rattle.rules.specs.Meaning.{Meaning, Laws}
use Rattle.rules.specs.Pairs.{percentage, capped_block, taken}
use Rattle.rules.specs.Blocks.{fixed_block, multiple_block}
use Rattle.rules.specs.First.{first_block}
use Rattle.rules.specs.House.{nothing, method, house}
use Rattle.rules.specs.Paired.{pairs_laws, percentage_laws}
use Rattle.rules.specs.Blocked.{blocks_laws}
use Rattle.rules.specs.Opened.{first_laws}

-- the methods are four rules, and first blocks on them
pub by_method : (P : Meaning → Type 0) → P percentage → P capped_block → P fixed_block → P multiple_block → ((m : Meaning) → P m → P (first_block m)) → P nothing → (n : ℕ) → P (method n)
by_method P one two three four first none n =
    cond_both (n == 1) _ _ P (λ _. one) (λ _.
    cond_both (n == 2) _ _ P (λ _. two) (λ _.
    cond_both (n == 3) _ _ P (λ _. three) (λ _.
    cond_both (n == 4) _ _ P (λ _. four) (λ _.
    cond_both (n == 5) _ _ P (λ _. first _ one) (λ _.
    cond_both (n == 6) _ _ P (λ _. first _ four) (λ _.
    cond_both (n == 7) _ _ P (λ _. first _ (first _ one)) (λ _. none)))))))

capped_laws : Laws capped_block
capped_laws = pairs_laws most_kwh (λ t p e. taken t e) (λ t p e lawful. omega arith)

nothing_laws : Laws nothing
nothing_laws t p e lawful range = absurd (false≢true lawful)

pub method_laws : (n : ℕ) → Laws (method n)
method_laws n =
    by_method Laws percentage_laws capped_laws (blocks_laws 2 2) (blocks_laws 3 8) first_laws nothing_laws n

pub house_laws : Laws house
house_laws t p e lawful range = method_laws t.method t p e lawful range
