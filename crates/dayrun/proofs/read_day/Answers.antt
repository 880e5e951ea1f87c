use Rattle.std.proofs.Common.{◌∙◌, arith}
use Rattle.std.proofs.lemmas.Result.{err_from_is_err_and}
use Rattle.dayrun.specs.Files.{most_input, schedule_bytes}
use Rattle.dayrun.proofs.Lists.{take_min, drop_min}
use Rattle.dayrun.proofs.Parts.{first_refused, rest_read}
use Rattle.dayrun.proofs.read_day.Goals as goal

pub returns-in_err-schedule : goal.returns-in_err-schedule
returns-in_err-schedule c =
    let p = err_from_is_err_and c.from_residual.result c.from_residual.ensures.1 in
    let bs = c.args.input.now in
    let all = c.split_at.result.0.now in
    let first = c.split_at-2.result.0.now in
    let ea = c.split_at.ensures.front ∙ take_min most_input c.min.result bs (omega arith) in
    let ef = c.split_at-2.ensures.front ∙ take_min schedule_bytes c.min-2.result all (omega arith) in
    rw (p.1, p.2) (first_refused bs all first first ea ef c.in_err-schedule.ensures)

pub returns-in_err-readings : goal.returns-in_err-readings
returns-in_err-readings c =
    let p = err_from_is_err_and c.from_residual-in_err-readings.result c.from_residual-in_err-readings.ensures.1 in
    let bs = c.args.input.now in
    let all = c.split_at.result.0.now in
    let first = c.split_at-2.result.0.now in
    let ea = c.split_at.ensures.front ∙ take_min most_input c.min.result bs (omega arith) in
    let ef = c.split_at-2.ensures.front ∙ take_min schedule_bytes c.min-2.result all (omega arith) in
    let er = c.split_at-2.ensures.back ∙ drop_min schedule_bytes c.min-2.result all (omega arith) in
    rw (p.1, p.2) (rest_read bs all first c.split_at-2.result.1.now ea ef er c.in_ok-schedule.ensures c.in_err-readings.ensures)

pub returns : goal.returns
returns c =
    let bs = c.args.input.now in
    let all = c.split_at.result.0.now in
    let first = c.split_at-2.result.0.now in
    let ea = c.split_at.ensures.front ∙ take_min most_input c.min.result bs (omega arith) in
    let ef = c.split_at-2.ensures.front ∙ take_min schedule_bytes c.min-2.result all (omega arith) in
    let er = c.split_at-2.ensures.back ∙ drop_min schedule_bytes c.min-2.result all (omega arith) in
    rest_read bs all first c.split_at-2.result.1.now ea ef er c.in_ok-schedule.ensures c.in_ok-readings.ensures
