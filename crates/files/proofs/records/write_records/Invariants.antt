use Rattle.std.proofs.Common.{◌≡◌, ◌*◌, ◌++◌, take, drop}
use Rattle.std.specs.List.{flat_map, AllByRecursion}
use Rattle.files.proofs.records.write_records.Given as goal

abbrev pub invariant-loop-i : goal.invariant-loop-i
invariant-loop-i g l =
    (l.out ≡ flat_map g.R.Record.encoded (take l.i l.records) ++ drop (l.i * g.R.Record.SIZE) l.initial.out)
    × AllByRecursion g.R.Record.whole (take l.i l.records)
