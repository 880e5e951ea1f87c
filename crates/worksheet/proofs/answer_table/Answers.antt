use Rattle.std.proofs.Common.{◌≡◌, [], ◌++◌, codes, string_bytes, ⊎_elim, arith}
use Rattle.std.specs.Iterator.Adapters.{zip_first, zip_second}
use Rattle.text.specs.Left.{lines_left}
use Rattle.text.specs.Words.{lines_of}
use Rattle.worksheet.specs.Tables.{tally_of, counts_text}
use Rattle.worksheet.proofs.Told.{table_all, lines_few, counts_line}
use Rattle.worksheet.proofs.answer_table.Goals as goal

pub returns : goal.returns
returns g c =
    let m = g.R.Rule.meaning c.args.rule.now in
    let k = g.S.Rule.meaning c.args.second.now in
    let left = lines_left (zip_second c.loop-number.number-iterator) in
    let inv = c.loop-number.invariant in
    let few = lines_few c.args.input.now in
    let none : left ≡ [] = ⊎_elim (λ h. absurd (let top = h.1.0 in omega arith)) (λ h. h.1.0.0) c.in-None.ensures.steps in
    let last = counts_line c.loop-number.tally in
    table_all m k (zip_first c.loop-number.number-iterator).start c.loop-number.tally (tally_of 0 0 0 0) left (lines_of c.args.input.now) (string_bytes c.loop-number.text) (counts_text c.loop-number.tally ++ codes "\n") (string_bytes c.writeln.new.self) none inv.0 inv.1 last c.in_ok-writeln.ensures.bytes
