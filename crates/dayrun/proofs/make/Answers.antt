use Rattle.std.proofs.lemmas.Result.{err_from_is_err_and}
use Rattle.dayrun.proofs.Chain.{made, refused}
use Rattle.dayrun.proofs.make.Goals as goal

pub returns-in_err-apply-clause-came : goal.returns-in_err-apply-clause-came
returns-in_err-apply-clause-came c =
    let p = err_from_is_err_and c.from_residual.result c.from_residual.ensures.1 in
    rw (p.1, p.2) (refused c.args.book.now.terms c.args.call _ c.in_err-apply.ensures.answer)

pub returns-clause-came : goal.returns-clause-came
returns-clause-came c = made c.args.book.now.terms c.args.call _ c.in_ok-apply.ensures.answer c.in_ok-apply.ensures.after
