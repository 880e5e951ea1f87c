use Rattle.std.proofs.Common.{◌≡◌, ◌+◌, ◌++◌, length, string_bytes}
use Rattle.std.specs.Iterator.Adapters.{zip_first, zip_second}
use Rattle.text.specs.Left.{lines_left}
use Rattle.text.specs.Words.{lines_of}
use Rattle.worksheet.specs.Tables.{Under, tally_of, tally_from, lines_text}
use Rattle.worksheet.proofs.answer_table.Given as goal

abbrev pub invariant-loop-number : goal.invariant-loop-number
invariant-loop-number g l =
    let m = g.R.Rule.meaning l.rule in
    let k = g.S.Rule.meaning l.second in
    let number = (zip_first l.number-iterator).start in
    let left = lines_left (zip_second l.number-iterator) in
    (string_bytes l.text ++ lines_text m k number left ≡ lines_text m k 1 (lines_of l.input))
    × (tally_from m k l.tally left ≡ tally_from m k (tally_of 0 0 0 0) (lines_of l.input))
    × Under number l.tally
    × (number + length left ≡ 1 + length (lines_of l.input))
