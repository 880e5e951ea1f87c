use Rattle.std.proofs.Common.{◌≡◌, ◌≤◌, [], length, vec_items}
use Rattle.text.specs.Left.{words_left}
use Rattle.entries.specs.Fields.{nominations_in}
use Rattle.entries.proofs.nominations.Given as goal

abbrev pub invariant-loop-text : goal.invariant-loop-text
invariant-loop-text l = (nominations_in (vec_items l.list) (words_left l.text-iterator) ≡ nominations_in [] (words_left l.fn.words)) × (length (vec_items l.list) ≤ 16)
