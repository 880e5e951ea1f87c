use Rattle.std.proofs.Common.{◌≡◌, ◌≤◌, [], length}
use Rattle.text.specs.Left.{words_left}
use Rattle.seasonlines.specs.Lists.{numbers_in}
use Rattle.seasonlines.proofs.numbers.list.Given as goal

abbrev pub invariant-loop-text : goal.invariant-loop-text
invariant-loop-text g l =
    (numbers_in l.first g.row.N l.numbers.items (words_left l.text-iterator) ≡ numbers_in l.first g.row.N [] (words_left l.fn.words)) × (length l.numbers.items ≤ g.row.N)
