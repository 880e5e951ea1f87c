use Rattle.std.proofs.Common.{◌≡◌, ◌++◌, take, drop}
use Rattle.book.specs.Kept.{kept}
use Rattle.season.specs.Steps.{run}
use Rattle.season.specs.Outcomes.{state_in, outcomes}
use Rattle.season.specs.Lent.{SameTables}
use Rattle.season.proofs.replay.Given as goal

abbrev pub invariant-loop-i : goal.invariant-loop-i
invariant-loop-i g l =
    let m = g.R.Rule.meaning l.initial.book.rule in
    let t = l.initial.book.terms in
    let start = state_in (kept l.initial.book) l.initial.tables in
    (state_in (kept l.book) l.tables ≡ run t m start (take l.i l.made))
    × (l.book.terms ≡ t)
    × (l.book.rule ≡ l.initial.book.rule)
    × (l.outcomes ≡ outcomes t m start (take l.i l.made) ++ drop l.i l.initial.outcomes)
    × SameTables l.initial.tables l.tables
