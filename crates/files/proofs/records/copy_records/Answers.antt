use Rattle.std.proofs.Common.{◌≡◌, ◌+◌, ◌*◌, ◌/◌, ◌≤◌, length, ap, ◌∙◌, zero-mul, arith}
use borrow.Rule.Slice.PartMut.{put_mid}
use Rattle.std.specs.List.{flat_map}
use Rattle.files.specs.Bytes.{records_in}
use Rattle.files.specs.Packs.{bytes_typed, one_more, length-unpacked, copied_none, copied_more}
use Rattle.files.proofs.records.copy_records.Goals as goal

pub loop-i-init : goal.loop-i-init
loop-i-init g c =
    let d = g.R.Record.decoded in
    let s = g.R.Record.SIZE in
    let bs = c.args.bytes.now in
    let from : c.iter-record-items.result.bytes.now ≡ bs = c.iter-record-items.ensures.bytes ∙ c.new.ensures in
    let count : length (records_in d s c.iter-record-items.result.bytes.now) * s ≡ length bs = ap (λ bs. length (records_in d s bs) * s) from ∙ ap (λ n. n * s) (length-unpacked d s (length bs / s) bs) ∙ c.requires.whole in
    record {
      count = omega (arith, zero-mul s);
      copied = copied_none g.R.Record.encoded d s g.met.R.Record.again bs c.args.out.now _ from c.requires.whole (bytes_typed bs c.type_inv.bytes);
    }

pub loop-i-preserved : goal.loop-i-preserved
loop-i-preserved g c =
    let e = g.R.Record.encoded in
    let s = g.R.Record.SIZE in
    let bs = c.args.bytes.now in
    let i = c.loop-i.i in
    let x = c.in-Some.record in
    let left = records_in g.R.Record.decoded s c.loop-i.record-iterator.bytes.now in
    let rest = records_in g.R.Record.decoded s c.next.new.self.bytes.now in
    let inv = c.loop-i.invariant in
    let steps = c.in-Some.ensures.steps.0 in
    let fewer : length left ≡ length rest + 1 = omega (arith, ap length steps) in
    let count : length left * s ≡ length rest * s + s = ap (λ n. n * s) fewer ∙ one_more (length rest) s in
    let room : i * s + s ≤ length bs = omega arith in
    let long = g.met.R.Record.long x c.encode.ensures.fits in
    record {
      count = omega (arith, one_more i s);
      copied = copied_more i s bs c.args.out.now c.loop-i.out _ (flat_map e left) (e x) (flat_map e rest) _ _ inv.copied (ap (flat_map e) steps) long room (ap (λ m. i * m) c.SIZE.ensures) (omega arith) (ap (put_mid _ _ c.loop-i.out) c.encode.ensures.after);
    }
