use Rattle.std.proofs.Common.{[], ◌∷◌, map, sym, ap, ◌∙◌}
use Rattle.std.proofs.lemmas.Result.{err_from_is_err_and}
use Rattle.book.specs.Kept.{kept}
use Rattle.season.specs.Outcomes.{state_in}
use Rattle.dayrun.specs.Calls.{run_until, reading_call}
use Rattle.dayrun.specs.Files.{readings_in}
use Rattle.dayrun.proofs.Chain.{on, none}
use Rattle.dayrun.proofs.make_readings.Goals as goal

pub loop-reading-preserved : goal.loop-reading-preserved
loop-reading-preserved c =
    let t = c.args.book.now.terms in
    let so_far = c.loop-reading.invariant in
    let was = state_in (kept c.loop-reading.book) c.loop-reading.tables in
    let rest = map reading_call (readings_in c.next.new.self.bytes.now) in
    record {
      came = on t (reading_call c.in-Some.reading ∷ []) rest was so_far.terms c.in_ok-make.ensures.came ∙ ap (λ rs. run_until t was (map reading_call rs)) (sym c.in-Some.ensures.steps.0) ∙ so_far.came;
      terms = c.make.ensures.terms ∙ so_far.terms;
    }

pub returns-in_err-make-clause-came : goal.returns-in_err-make-clause-came
returns-in_err-make-clause-came c =
    let p = err_from_is_err_and c.from_residual.result c.from_residual.ensures.1 in
    let t = c.args.book.now.terms in
    let so_far = c.loop-reading.invariant in
    let was = state_in (kept c.loop-reading.book) c.loop-reading.tables in
    let rest = map reading_call (readings_in c.next.new.self.bytes.now) in
    rw (p.1, p.2) (on t (reading_call c.in-Some.reading ∷ []) rest was so_far.terms c.in_err-make.ensures.came ∙ ap (λ rs. run_until t was (map reading_call rs)) (sym c.in-Some.ensures.steps.0) ∙ so_far.came)

pub returns-clause-came : goal.returns-clause-came
returns-clause-came c =
    let t = c.args.book.now.terms in
    let was = state_in (kept c.loop-reading.book) c.loop-reading.tables in
    sym (none t was) ∙ ap (λ rs. run_until t was (map reading_call rs)) (sym c.in-None.ensures.steps.0.0) ∙ c.loop-reading.invariant.came
