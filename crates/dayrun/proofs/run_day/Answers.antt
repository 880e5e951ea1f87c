use Rattle.std.proofs.Common.{ap}
use Rattle.std.proofs.lemmas.Result.{err_from_is_err_and}
use Rattle.season.specs.Outcomes.{state_in}
use Rattle.dayrun.specs.Calls.{site_terms}
use Rattle.dayrun.specs.Files.{readings_in}
use Rattle.dayrun.proofs.Chain.{day_ends}
use Rattle.dayrun.proofs.run_day.Goals as goal

pub returns-in_err-make_calls : goal.returns-in_err-make_calls
returns-in_err-make_calls c =
    let p = err_from_is_err_and c.from_residual.result c.from_residual.ensures.1 in
    let f = c.args.files in
    rw (p.1, p.2) (day_ends site_terms f.schedule.intro.sender f.schedule.intro.day f.schedule.intro.moment c.args.schedule.now (readings_in f.readings.bytes.now) _ c.open_site-book.ensures.terms (ap (λ k. state_in k c.args.tables.now) c.open_site-book.ensures.keeps) c.in_err-make_calls.ensures)

pub returns : goal.returns
returns c =
    let f = c.args.files in
    rw c.lines.ensures (day_ends site_terms f.schedule.intro.sender f.schedule.intro.day f.schedule.intro.moment c.args.schedule.now (readings_in f.readings.bytes.now) _ c.open_site-book.ensures.terms (ap (λ k. state_in k c.args.tables.now) c.open_site-book.ensures.keeps) c.in_ok-make_calls.ensures)
