use Rattle.std.proofs.Common.{length, arith}
use Rattle.files.specs.Contents.{of_schedule}
use Rattle.files.specs.declared.records.Intro.{Intro}
use Rattle.files.specs.declared.formats.Kind.TheVariants.{Schedule}
use Rattle.files.proofs.Backs.{length_schedule, schedule_back, settled_back}
use Rattle.files.proofs.writer.write_schedule.Goals as goal

pub returns : goal.returns
returns c =
    let rows = c.args.rows.now in
    let intro : Intro = record { sender = c.args.sender; day = c.args.day; moment = c.args.moment } in
    let answer = c.write_file.ensures in
    record {
      result = answer.result;
      after = answer.after;
      back =
          settled_back Schedule (length rows) (length c.args.out.now) (of_schedule c.args.sender c.args.day c.args.moment rows) c.args.out.now c.write_file.new.out c.write_file.result answer.result answer.after answer.fits
          (λ whole. let long = length_schedule intro rows whole.1 in omega arith)
          (λ ok whole. schedule_back intro rows ok whole.0 whole.1);
    }
