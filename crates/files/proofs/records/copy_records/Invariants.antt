use Rattle.std.proofs.Common.{◌≡◌, ◌+◌, ◌*◌, length}
use Rattle.std.specs.List.{flat_map}
use Rattle.files.specs.Bytes.{records_in}
use Rattle.files.specs.Packs.{Copied}
use Rattle.files.proofs.records.copy_records.Given as goal

abbrev pub invariant-loop-i : goal.invariant-loop-i
invariant-loop-i g l =
    let s = g.R.Record.SIZE in
    let left = records_in g.R.Record.decoded s l.record-iterator.bytes.now in
    record {
      count : l.i * s + length left * s ≡ length l.bytes;
      copied : Copied l.i s l.bytes l.fn.out l.out (flat_map g.R.Record.encoded left);
    }
