use Rattle.std.proofs.Common.{rules, tests}
use Rattle.text.proofs.Pieced.{inside, line_cut, line_rest}
use Rattle.text.proofs.next_line.Goals as goal

pub returns : goal.returns
returns c =
    let front = c.split_while.ensures.front inside (λ x r e. search (rules, tests)) in
    let back = c.split_while.ensures.back inside (λ x r e. search (rules, tests)) in
    record {
      line = line_cut _ _ _ _ (search rules) front back c.after_first.ensures;
      rest = line_rest _ _ _ _ (search rules) front back c.after_first.ensures;
    }
