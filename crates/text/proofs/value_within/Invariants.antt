use Rattle.std.proofs.Common.{◌≡◌, true, drop}
use Rattle.std.specs.Str.{all_ascii_digits}
use Rattle.text.specs.Numbers.{number_after}
use Rattle.text.proofs.value_within.Given as goal

abbrev pub invariant-loop-digit : goal.invariant-loop-digit
invariant-loop-digit l = (number_after l.value (drop l.digit-index l.word) ≡ number_after 0 l.word) × (all_ascii_digits (drop l.digit-index l.word) ≡ true)
