use Rattle.std.proofs.Common.{true, false, get_or, pos, arith, rules}
use Rattle.std.proofs.lemmas.Int.{ints, to_z-of_z}
use Rattle.std.specs.Fn.{FnReturnsAt}
use Rattle.domain.specs.Lines.{line_of}
use Rattle.seasontext.proofs.Totals.{sum_picked, sum_left}
use Rattle.seasontext.proofs.sums.sum_of.Goals as goal
use Rattle.seasontext.proofs.sums.sum_of.Goals.{then-picks, else-picks}

pub loop-line-preserved : goal.loop-line-preserved
loop-line-preserved g c =
    let l = get_or c.args.lines.now c.loop-line.line-index (line_of 0 0 0 0 0 (pos 0)) in
    elim c.if-picks.branch [
      | then-picks w ↦ record {
        low = omega (arith, ints);
        high = omega (arith, ints);
        so_far = λ p k. sum_picked p c.args.lines.now c.loop-line.line-index (line_of 0 0 0 0 0 (pos 0)) _ _ (omega arith) (c.loop-line.invariant.so_far p k) (let a : FnReturnsAt g.F.Fn c.args.picks l true = search rules in k l true a) (grind (arith, ints, to_z-of_z));
      }
      | else-picks w ↦ record {
        low = omega (arith, ints);
        high = omega (arith, ints);
        so_far = λ p k. sum_left p c.args.lines.now c.loop-line.line-index (line_of 0 0 0 0 0 (pos 0)) _ _ (omega arith) (c.loop-line.invariant.so_far p k) (let a : FnReturnsAt g.F.Fn c.args.picks l false = search rules in k l false a) (search rules);
      }
    ]
