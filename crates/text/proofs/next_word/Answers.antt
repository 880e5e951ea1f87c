use Rattle.std.proofs.Common.{rules, tests}
use Rattle.text.specs.Words.{blank}
use Rattle.text.proofs.Pieced.{letter, no_word, word_cut, word_rest}
use Rattle.text.proofs.next_word.Goals as goal

pub returns-then-is_empty : goal.returns-then-is_empty
returns-then-is_empty c =
    record {
      word = no_word _ _ (c.split_while.ensures.back blank (λ x r e. e)) (search rules);
      rest = search rules;
    }

pub returns : goal.returns
returns c =
    let skipped = c.split_while.ensures.back blank (λ x r e. e) in
    let first = c.split_while-2.ensures.front letter (λ x r e. search (rules, tests)) in
    let rest = c.split_while-2.ensures.back letter (λ x r e. search (rules, tests)) in
    record {
      word = word_cut _ _ _ _ skipped (search rules) (search first) (search rest);
      rest = word_rest c.args.line.now c.split_while.result.1.now c.split_while-2.result.0.now c.split_while-2.result.1.now skipped (search rules) (search first) (search rest);
    }
