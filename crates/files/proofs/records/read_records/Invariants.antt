use Rattle.std.proofs.Common.{◌≡◌, ◌+◌, ◌++◌, length, take}
use Rattle.files.specs.Bytes.{records_in, unpacked}
use Rattle.files.proofs.records.read_records.Given as goal

abbrev pub invariant-loop-i : goal.invariant-loop-i
invariant-loop-i g l =
    let left = records_in g.R.Record.decoded g.R.Record.SIZE l.record-iterator.bytes.now in
    record {
      count : l.i + length left ≡ length l.out;
      done : take l.i l.out ++ left ≡ unpacked g.R.Record.decoded g.R.Record.SIZE (length l.fn.out) l.bytes;
    }
