use Rattle.std.proofs.Common.{◌≡◌, length}
use Rattle.seasontext.specs.Runs.{read_all}
use Rattle.seasontext.specs.Seen.{seen}
use Rattle.seasontext.proofs.desk.Desk.readings.Given as goal

abbrev pub invariant-loop-period : goal.invariant-loop-period
invariant-loop-period l = record {
  can : (goal.iterator-loop-period).can_next l.period-iterator;
  finite : (goal.iterator-loop-period).is_finite l.period-iterator;
  so_far : seen l.self ≡ read_all l.day l.quality l.figures (length l.yielded) (seen l.initial.self);
}
