use Rattle.std.proofs.Common.{◌≡◌, Bool, length, string_bytes}
use Rattle.text.specs.Left.{lines_left}
use Rattle.seasontext.specs.Openings.{HasNumbers}
use Rattle.seasontext.specs.Seasons.{until_terms}
use Rattle.seasontext.proofs.find_terms.Given as goal

abbrev pub invariant-loop-number : goal.invariant-loop-number
invariant-loop-number l = record {
  room : HasNumbers l.lines.a.start (lines_left l.lines.b);
  so_far : (quiet : Bool) → until_terms quiet l.lines.a.start (string_bytes l.text) (lines_left l.lines.b) ≡ until_terms quiet l.initial.lines.a.start (string_bytes l.initial.text) (lines_left l.initial.lines.b);
}

abbrev pub decreases-loop-number : goal.decreases-loop-number
decreases-loop-number l = length (lines_left l.lines.b)
