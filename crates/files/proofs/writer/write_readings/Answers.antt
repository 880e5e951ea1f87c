use Rattle.std.proofs.Common.{length, arith}
use Rattle.files.specs.Contents.{of_readings}
use Rattle.files.specs.Records.{encoded_reading, WholeReading}
use Rattle.files.specs.declared.formats.Kind.TheVariants.{Readings}
use Rattle.files.specs.Packs.{length_joined}
use Rattle.files.proofs.Backs.{reading_long, readings_back, settled_back}
use Rattle.files.proofs.writer.write_readings.Goals as goal

pub returns : goal.returns
returns c =
    let rs = c.args.records.now in
    let answer = c.write_file.ensures in
    record {
      result = answer.result;
      after = answer.after;
      back =
          settled_back Readings (length rs) (length c.args.out.now) (of_readings rs) c.args.out.now c.write_file.new.out c.write_file.result answer.result answer.after answer.fits
          (λ whole. let long = length_joined encoded_reading 8 WholeReading reading_long rs whole in omega arith)
          (λ ok whole. readings_back rs ok whole);
    }
