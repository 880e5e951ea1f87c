use Rattle.std.proofs.Common.{◌≡◌, ◌+◌, [], ◌∷◌, ◌++◌, length, get_or, sym, ap, ◌∙◌, arith}
use Rattle.std.proofs.lemmas.List.{length_push, get_or_default}
use Rattle.history.proofs.Numbered.{pair_turn}
use Rattle.season.specs.declared.Call.TheVariants as call
use Rattle.seasontext.specs.Runs.{called, read_all}
use Rattle.seasontext.specs.Seen.{seen}
use Rattle.seasontext.proofs.Loops.{read_more}
use Rattle.seasontext.proofs.desk.Desk.readings.Goals as goal

pub loop-period-preserved : goal.loop-period-preserved
loop-period-preserved c =
    let day = c.args.day in
    let quality = c.args.quality in
    let figures = c.args.figures.now in
    let start = seen c.args.self.now in
    let so_far = seen c.loop-period.self in
    let xs = c.loop-period.yielded in
    let i = length xs in
    let kwh = c.in-Some.field-0-1 in
    let turn = pair_turn 1 48 figures c.into_iter-period-iterator.result c.loop-period.period-iterator c.next.new.self (cc) (cc) (cc) (cc) xs c.loop-period.yielded_by c.next.result c.in-Some.period kwh c.in-Some.is c.next.ensures.steps in
    let period : c.in-Some.period ≡ i + 1 = omega arith in
    let figure : kwh.now ≡ get_or figures i 0 = turn.2 ∙ get_or_default figures i kwh.now 0 turn.0 in
    let more : i + 1 ≡ length (xs ++ (c.in-Some.period, kwh) ∷ []) = sym (length_push xs (c.in-Some.period, kwh)) in
    record {
      can = (tt, tt);
      finite = tt;
      so_far =
          c.in_ok-reading.ensures
          ∙ ap (λ p. called (call.Reading day p quality kwh.now) so_far) period
          ∙ ap (λ k. called (call.Reading day (i + 1) quality k) so_far) figure
          ∙ ap (called (call.Reading day (i + 1) quality (get_or figures i 0))) c.loop-period.invariant.so_far
          ∙ sym (read_more day quality figures i start)
          ∙ ap (λ n. read_all day quality figures n start) more;
    }
