use Rattle.std.proofs.Common.{◌≡◌, length, ap, ◌∙◌, arith}
use Rattle.files.specs.Bytes.{records_in, unpacked}
use Rattle.files.specs.Packs.{length-unpacked, records_all}
use Rattle.files.proofs.records.read_records.Goals as goal

pub loop-i-init : goal.loop-i-init
loop-i-init g c =
    let d = g.R.Record.decoded in
    let s = g.R.Record.SIZE in
    let n = length c.args.out.now in
    let all : records_in d s c.iter-record-items.result.bytes.now ≡ unpacked d s n c.args.bytes.now = ap (records_in d s) (c.iter-record-items.ensures.bytes ∙ c.new.ensures) ∙ records_all d s n c.args.bytes.now g.met.R.Record.some c.requires in
    record { count = omega (arith, ap length all, length-unpacked d s n c.args.bytes.now); done = all }
