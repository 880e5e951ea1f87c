use Rattle.std.proofs.Common.{◌+◌, ◌*◌, ◌^◌, ◌<◌, ◌≤◌, length, replicate, sym, ap, ◌∙◌, arith, rules}
use Rattle.std.proofs.lemmas.Result.{err_from_is_err_and}
use Rattle.std.proofs.lemmas.List.{length-replicate}
use Rattle.std.proofs.lemmas.Nat.{mul-le}
use Rattle.domain.specs.Checks.{no_volume}
use Rattle.issuing.specs.Posted.{posted}
use Rattle.issuing.specs.Plans.{slot_by}
use Rattle.issuing.proofs.Passed.{count_passed}
use Rattle.issuing.proofs.Periods.{day_most}
use Rattle.issuing.proofs.Drafts.{drafted}
use Rattle.issuing.proofs.Refused.{call_ok, standing_ok, stop2, stop7, past1, past6, past_all}
use Rattle.issuing.proofs.Answered.{ending, tame_before, lines_same, slots_same, refused_room, sends}
use Rattle.issuing.proofs.Order.issue.Goals as goal

pub returns-in_err-sheet-clause-answer : goal.returns-in_err-sheet-clause-answer
returns-in_err-sheet-clause-answer g c =
    let o = c.args.self in
    let m = g.R.Rule.meaning o.rule.now in
    let t = c.args.issued.now in
    let room = length c.args.journal.now in
    let p = err_from_is_err_and c.from_residual-in_err-sheet.result c.from_residual-in_err-sheet.ensures.1 in
    rw (p.1, p.2) (sym (past1 m o t room (ending m o t room) c.in_ok-admit_call.ensures ∙ stop2 m o t room (ending m o t room) c.in_err-sheet.field-0.0 c.in_err-sheet.ensures))

pub returns-in_err-complete_holders-clause-answer : goal.returns-in_err-complete_holders-clause-answer
returns-in_err-complete_holders-clause-answer g c =
    let o = c.args.self in
    let m = g.R.Rule.meaning o.rule.now in
    let t = c.args.issued.now in
    let room = length c.args.journal.now in
    let p = err_from_is_err_and c.from_residual-in_err-complete_holders.result c.from_residual-in_err-complete_holders.ensures.1 in
    rw (p.1, p.2) (sym (past6 m o t room (ending m o t room) c.in_ok-admit_call.ensures c.in_ok-sheet.ensures.passed c.in_ok-sound_readings.ensures _ _ c.in_ok-new.ensures.answer c.in_ok-admit_day.ensures c.in_ok-complete_readings.ensures ∙ stop7 m o t room (ending m o t room) c.is_ended.result c.is_ended.ensures c.in_ok-sheet.sheet.holders c.in_ok-sheet.ensures.suppliers c.in_err-complete_holders.field-0.0 c.in_err-complete_holders.ensures))

pub overflow_add-result : goal.overflow_add-result
overflow_add-result g c =
    let o = c.args.self in
    let m = g.R.Rule.meaning o.rule.now in
    let held = standing_ok o.standing (length c.args.journal.now) o.day _ (sym c.in_ok-admit_day.ensures) in
    let cells : (2 * o.terms.places) * 48 ≤ 16 * 48 = mul-le (2 * o.terms.places) 48 16 48 (omega (arith, o.terms.few)) (omega arith) in
    let most : c.in_ok-new.new ≤ 768 = omega (arith, (count_passed _ _ _ c.in_ok-new.ensures.answer).1, day_most o.terms (slot_by m o.terms c.in_ok-sheet.sheet o.readings.now o.day) o.day o.run c.args.issued.now 48) in
    let long : length c.args.journal.now + 768 < 2 ^ 64 = search rules in
    omega arith

pub returns-then-new-room-clause-answer : goal.returns-then-new-room-clause-answer
returns-then-new-room-clause-answer g c =
    let o = c.args.self in
    let m = g.R.Rule.meaning o.rule.now in
    let t = c.args.issued.now in
    let room = length c.args.journal.now in
    let held = standing_ok o.standing room o.day _ (sym c.in_ok-admit_day.ensures) in
    let count = count_passed _ _ _ c.in_ok-new.ensures.answer in
    refused_room m o t c.in_ok-sheet.sheet c.in_ok-sheet.ensures room c.in_ok-new.new count.1 (omega (arith, c.if-new-room.true)) ∙ sym (past_all m o t room (ending m o t room) c.in_ok-admit_call.ensures c.in_ok-sheet.ensures.passed c.in_ok-sound_readings.ensures _ _ c.in_ok-new.ensures.answer c.in_ok-admit_day.ensures c.in_ok-complete_readings.ensures c.is_ended.result c.is_ended.ensures c.in_ok-sheet.sheet.holders c.in_ok-sheet.ensures.suppliers c.in_ok-complete_holders.ensures)

pub send-requires-clause-ready : goal.send-requires-clause-ready
send-requires-clause-ready g c =
    let o = c.args.self in
    record {
      slots = (call_ok o.terms o.readings.now c.args.issued.now o.day o.run _ (sym c.in_ok-admit_call.ensures)).2;
      tame = tame_before (g.R.Rule.meaning o.rule.now) o c.args.issued.now (count_passed _ _ _ c.in_ok-new.ensures.answer).0;
    }

pub send-requires-clause-drafted : goal.send-requires-clause-drafted
send-requires-clause-drafted g c =
    let o = c.args.self in
    drafted o.terms (slot_by (g.R.Rule.meaning o.rule.now) o.terms c.in_ok-sheet.sheet o.readings.now o.day) (replicate (48 * 8) no_volume) _ c.in_ok-new.ensures.draft (omega (arith, length-replicate (48 * 8) no_volume))

pub returns : goal.returns
returns g c =
    let o = c.args.self in
    let m = g.R.Rule.meaning o.rule.now in
    let t = c.args.issued.now in
    let room = length c.args.journal.now in
    let sheet = c.in_ok-sheet.sheet in
    let known = c.in_ok-sheet.ensures in
    let held = standing_ok o.standing room o.day _ (sym c.in_ok-admit_day.ensures) in
    let count = count_passed _ _ _ c.in_ok-new.ensures.answer in
    record {
      answer = sends m o t sheet known room c.in_ok-new.new count.1 (omega (arith, c.if-new-room.false)) ∙ sym (past_all m o t room (ending m o t room) c.in_ok-admit_call.ensures known.passed c.in_ok-sound_readings.ensures _ _ c.in_ok-new.ensures.answer c.in_ok-admit_day.ensures c.in_ok-complete_readings.ensures c.is_ended.result c.is_ended.ensures sheet.holders known.suppliers c.in_ok-complete_holders.ensures);
      issued = c.send.ensures.issued ∙ slots_same m o t sheet known;
      journal = c.send.ensures.journal ∙ ap (posted c.args.journal.now o.standing.lines) (lines_same m o t sheet known);
    }
