use Rattle.std.proofs.Common.{◌≡◌, ℕ, ◌+◌, [], ◌∷◌, ◌++◌, length, drop, Err, sym, ap, ◌∙◌, arith}
use Rattle.std.proofs.lemmas.List.{length_push}
use Rattle.domain.specs.declared.Fault.TheVariants.{UnlawfulRow}
use Rattle.rows.specs.Rows.{allowed}
use Rattle.history.proofs.Numbered.{pair_turn, pair_end}
use Rattle.book.specs.Sharing.{rows_allowed}
use Rattle.book.proofs.Rows.{rows_no, rows_yes, rows_all}
use Rattle.book.proofs.Book.admit_rows.Goals as goal

pub loop-period-preserved : goal.loop-period-preserved
loop-period-preserved g c =
    let m = g.R.Rule.meaning c.args.self.now.rule in
    let t = c.args.self.now.terms in
    let rows = c.args.schedule.now in
    let i = length c.loop-period.yielded in
    let turn = pair_turn 1 48 rows c.into_iter-period-iterator.result c.loop-period.period-iterator c.next.new.self (cc) (cc) (cc) (cc) c.loop-period.yielded c.loop-period.yielded_by c.next.result c.in-Some.period c.in-Some.row c.in-Some.is c.next.ensures.steps in
    let lawful = ap (allowed m t) (sym turn.2) ∙ sym c.is_allowed.ensures ∙ c.if-not-is_allowed.false in
    let next = sym (rows_yes m t (i + 1) i c.in-Some.row.now rows turn.0 lawful) ∙ c.loop-period.invariant.2 in
    let more : length (c.loop-period.yielded ++ (c.in-Some.period, c.in-Some.row) ∷ []) ≡ i + 1 = length_push c.loop-period.yielded (c.in-Some.period, c.in-Some.row) in
    ((tt, tt), tt, ap (λ (k : ℕ). rows_allowed m t (k + 1) (drop k rows)) more ∙ next)

pub returns-then-not-is_allowed : goal.returns-then-not-is_allowed
returns-then-not-is_allowed g c =
    let m = g.R.Rule.meaning c.args.self.now.rule in
    let t = c.args.self.now.terms in
    let rows = c.args.schedule.now in
    let i = length c.loop-period.yielded in
    let turn = pair_turn 1 48 rows c.into_iter-period-iterator.result c.loop-period.period-iterator c.next.new.self (cc) (cc) (cc) (cc) c.loop-period.yielded c.loop-period.yielded_by c.next.result c.in-Some.period c.in-Some.row c.in-Some.is c.next.ensures.steps in
    let unlawful = ap (allowed m t) (sym turn.2) ∙ sym c.is_allowed.ensures ∙ c.if-not-is_allowed.true in
    let period : c.in-Some.period ≡ i + 1 = omega arith in
    ap (λ (p : ℕ). Err (UnlawfulRow p)) period ∙ sym (rows_no m t (i + 1) i c.in-Some.row.now rows turn.0 unlawful) ∙ c.loop-period.invariant.2

pub returns : goal.returns
returns g c =
    let rows = c.args.schedule.now in
    let i = length c.loop-period.yielded in
    let end = pair_end 1 48 rows c.into_iter-period-iterator.result c.loop-period.period-iterator c.next.new.self (cc) (cc) (cc) (cc) c.loop-period.yielded c.loop-period.yielded_by c.next.result c.in-None.is c.next.ensures.steps c.requires in
    sym (rows_all (g.R.Rule.meaning c.args.self.now.rule) c.args.self.now.terms (i + 1) i rows (omega arith)) ∙ c.loop-period.invariant.2
