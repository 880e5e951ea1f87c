use Rattle.std.proofs.Common.{◌≡◌, ◌++◌, string_bytes}
use Rattle.domain.specs.Lines.{gathered}
use Rattle.seasontext.specs.Sums.{day_text}
use Rattle.seasontext.proofs.sums.put_days.Given as goal

abbrev pub invariant-loop-day : goal.invariant-loop-day
invariant-loop-day l = string_bytes l.text ≡ string_bytes l.initial.text ++ gathered (day_text l.lines l.split) l.day
