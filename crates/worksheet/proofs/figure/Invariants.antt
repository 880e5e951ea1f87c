use Rattle.std.proofs.Common.{◌≡◌, string_bytes}
use Rattle.entries.specs.Held.{held}
use Rattle.worksheet.specs.Figures.{shares_text, share_of}
use Rattle.worksheet.proofs.figure.Given as goal

abbrev pub invariant-loop-place : goal.invariant-loop-place
invariant-loop-place g l = string_bytes l.text ≡ shares_text (share_of (g.R.Rule.meaning l.rule) (held l.half)) l.place
