use Rattle.std.proofs.Common.{◌≡◌}
use Rattle.text.specs.Left.{lines_left}
use Rattle.seasontext.specs.Openings.{HasNumbers}
use Rattle.seasontext.specs.Seasons.{run_lines}
use Rattle.seasontext.specs.Seen.{seen}
use Rattle.seasontext.proofs.desk.Desk.lines.Given as goal

abbrev pub invariant-loop-number : goal.invariant-loop-number
invariant-loop-number l = record {
  can : (goal.iterator-loop-number).can_next l.number-iterator;
  finite : (goal.iterator-loop-number).is_finite l.number-iterator;
  room : HasNumbers l.number-iterator.a.start (lines_left l.number-iterator.b);
  so_far : run_lines l.number-iterator.a.start (seen l.self) (lines_left l.number-iterator.b) ≡ run_lines l.initial.number-iterator.a.start (seen l.initial.self) (lines_left l.initial.number-iterator.b);
}
