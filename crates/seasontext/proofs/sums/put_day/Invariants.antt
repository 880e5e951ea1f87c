use Rattle.std.proofs.Common.{◌≡◌, ◌+◌, ◌-◌, ◌≤◌, ◌++◌, get_or, None, string_bytes}
use Rattle.domain.specs.Lines.{gathered}
use Rattle.domain.specs.Slots.{reading_slot}
use Rattle.seasontext.specs.Sums.{period_text}
use Rattle.seasontext.proofs.sums.put_day.Given as goal

abbrev pub invariant-loop-period : goal.invariant-loop-period
invariant-loop-period l = record {
  begun : 1 ≤ l.period;
  so_far : string_bytes l.text ≡ string_bytes l.initial.text ++ gathered (λ i. period_text l.lines l.day (i + 1) (get_or l.split (reading_slot l.day (i + 1)) None)) (l.period - 1);
}
