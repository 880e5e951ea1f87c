use Rattle.std.proofs.Common.{refl, ◌∙◌}
use Rattle.std.proofs.lemmas.Result.{err_from_is_err_and}
use Rattle.dayrun.proofs.Chain.{under, on, lent_same}
use Rattle.dayrun.proofs.make_calls.Goals as goal

pub returns-in_err-make : goal.returns-in_err-make
returns-in_err-make c =
    let p = err_from_is_err_and c.from_residual.result c.from_residual.ensures.1 in
    let t = c.args.book.now.terms in
    rw (p.1, p.2) (on t _ _ _ refl c.in_err-make.ensures.came)

pub returns-in_err-make-2 : goal.returns-in_err-make-2
returns-in_err-make-2 c =
    let p = err_from_is_err_and c.from_residual-in_err-make-2.result c.from_residual-in_err-make-2.ensures.1 in
    let t = c.args.book.now.terms in
    rw (p.1, p.2) (on t _ _ _ c.make.ensures.terms c.in_err-make-2.ensures.came ∙ on t _ _ _ refl c.in_ok-make.ensures.came)

pub returns-in_err-make-3 : goal.returns-in_err-make-3
returns-in_err-make-3 c =
    let p = err_from_is_err_and c.from_residual-in_err-make-3.result c.from_residual-in_err-make-3.ensures.1 in
    let t = c.args.book.now.terms in
    let terms = c.make-2.ensures.terms ∙ c.make.ensures.terms in
    rw (p.1, p.2) (on t _ _ _ terms (c.in_err-make-3.ensures.came ∙ lent_same _ _ _ _ _ _) ∙ on t _ _ _ c.make.ensures.terms c.in_ok-make-2.ensures.came ∙ on t _ _ _ refl c.in_ok-make.ensures.came)

pub returns-in_err-make_readings : goal.returns-in_err-make_readings
returns-in_err-make_readings c =
    let p = err_from_is_err_and c.from_residual-in_err-make_readings.result c.from_residual-in_err-make_readings.ensures.1 in
    let t = c.args.book.now.terms in
    let second = c.make-2.ensures.terms ∙ c.make.ensures.terms in
    let third = c.make-3.ensures.terms ∙ second in
    rw (p.1, p.2) (on t _ _ _ third c.in_err-make_readings.ensures.came ∙ on t _ _ _ second (c.in_ok-make-3.ensures.came ∙ lent_same _ _ _ _ _ _) ∙ on t _ _ _ c.make.ensures.terms c.in_ok-make-2.ensures.came ∙ on t _ _ _ refl c.in_ok-make.ensures.came)

pub returns : goal.returns
returns c =
    let t = c.args.book.now.terms in
    let second = c.make-2.ensures.terms ∙ c.make.ensures.terms in
    let third = c.make-3.ensures.terms ∙ second in
    under t _ _ (c.make_readings.ensures.terms ∙ third) c.make-4.ensures.came
    ∙ on t _ _ _ third c.in_ok-make_readings.ensures.came
    ∙ on t _ _ _ second (c.in_ok-make-3.ensures.came ∙ lent_same _ _ _ _ _ _)
    ∙ on t _ _ _ c.make.ensures.terms c.in_ok-make-2.ensures.came
    ∙ on t _ _ _ refl c.in_ok-make.ensures.came
