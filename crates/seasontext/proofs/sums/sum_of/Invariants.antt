use Rattle.std.proofs.Common.{◌≡◌, ◌*◌, Bool, take, pos, neg_ℤ, ◌≤ℤ◌}
use Rattle.std.specs.Fn.{FnReturnsAt}
use Rattle.domain.specs.declared.Line.{Line}
use Rattle.season.specs.Law.{sum_of}
use Rattle.seasontext.specs.Sums.{Tells}
use Rattle.seasontext.proofs.sums.sum_of.Given as goal

abbrev pub invariant-loop-line : goal.invariant-loop-line
invariant-loop-line g l = record {
  low : neg_ℤ (pos (2147483648 * l.line-index)) ≤ℤ l.sum;
  high : l.sum ≤ℤ pos (2147483648 * l.line-index);
  so_far : (p : Line → Bool) → Tells (FnReturnsAt g.F.Fn l.picks) p → l.sum ≡ sum_of p (take l.line-index l.lines);
}
