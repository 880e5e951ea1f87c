use Rattle.std.proofs.Common.{◌≡◌, ◌-◌, ◌≤◌}
use Rattle.seasontext.specs.Runs.{copied}
use Rattle.seasontext.proofs.desk.copy_kwh.Given as goal

abbrev pub invariant-loop-slot : goal.invariant-loop-slot
invariant-loop-slot l = record {
  begun : l.first ≤ l.slot;
  so_far : l.split ≡ copied l.readings l.first (l.slot - l.first) l.initial.split;
}
