use Rattle.std.proofs.Common.{◌≡◌, ◌+◌, length, drop}
use Rattle.book.specs.Sharing.{rows_allowed}
use Rattle.book.proofs.Book.admit_rows.Given as goal

abbrev pub invariant-loop-period : goal.invariant-loop-period
invariant-loop-period g l =
    let i = length l.yielded in
    (goal.iterator-loop-period g).can_next l.period-iterator × (goal.iterator-loop-period g).is_finite l.period-iterator × (rows_allowed (g.R.Rule.meaning l.self.rule) l.self.terms (i + 1) (drop i l.schedule) ≡ rows_allowed (g.R.Rule.meaning l.self.rule) l.self.terms 1 l.schedule)
