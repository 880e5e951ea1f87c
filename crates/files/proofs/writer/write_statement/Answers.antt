use Rattle.std.proofs.Common.{length, arith}
use Rattle.files.specs.Contents.{of_statement}
use Rattle.files.specs.Records.{encoded_line, WholeLine}
use Rattle.files.specs.declared.formats.Kind.TheVariants.{Statement}
use Rattle.files.specs.Packs.{length_joined}
use Rattle.files.proofs.Backs.{line_long, lines_back, settled_back}
use Rattle.files.proofs.writer.write_statement.Goals as goal

pub returns : goal.returns
returns c =
    let rs = c.args.lines.now in
    let answer = c.write_file.ensures in
    record {
      result = answer.result;
      after = answer.after;
      back =
          settled_back Statement (length rs) (length c.args.out.now) (of_statement rs) c.args.out.now c.write_file.new.out c.write_file.result answer.result answer.after answer.fits
          (λ whole. let long = length_joined encoded_line 11 WholeLine line_long rs whole in omega arith)
          (λ ok whole. lines_back rs ok whole);
    }
