-- The house rule: the seven methods by their numbers.
use Rattle.std.specs.Prelude.{ℕ, false, cond, [], ◌==◌}
use Rattle.rules.specs.Meaning.{Meaning}
use Rattle.rules.specs.Pairs.{percentage, capped_block}
use Rattle.rules.specs.Blocks.{fixed_block, multiple_block}
use Rattle.rules.specs.First.{first_block}

-- no row is lawful
abbrev pub nothing : Meaning
nothing = record { lawful = λ t. false; shares = λ t p e. [] }

-- the rule that a method number stands for
abbrev pub method : ℕ → Meaning
method n =
    cond (n == 1) percentage (cond (n == 2) capped_block (cond (n == 3) fixed_block (cond (n == 4) multiple_block (cond (n == 5) (first_block percentage) (cond (n == 6) (first_block multiple_block) (cond (n == 7) (first_block (first_block percentage)) nothing))))))

-- each row by the method that it names
abbrev pub house : Meaning
house = record {
  lawful = λ t. (method t.method).lawful t;
  shares = λ t p e. (method t.method).shares t p e;
}
