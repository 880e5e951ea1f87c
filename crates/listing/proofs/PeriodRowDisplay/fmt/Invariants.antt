use Rattle.std.proofs.Common.{take}
use Rattle.std.specs.List.{flat_map}
use Rattle.std.specs.Fmt.{HasWritten, IsPlainFormatter}
use Rattle.listing.specs.Texts.{spaced}
use Rattle.listing.proofs.PeriodRowDisplay.fmt.Given as goal

abbrev pub invariant-loop-nomination : goal.invariant-loop-nomination
invariant-loop-nomination g l =
    IsPlainFormatter l.initial.f → HasWritten g.W.Write.write_str_gives l.initial.f (flat_map spaced (take l.nomination-index l.nomination-items)) l.f
