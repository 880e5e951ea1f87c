use Rattle.std.proofs.Common.{◌-◌, length, ap, ◌∙◌, arith}
use Rattle.issuing.specs.Plans.{planned}
use Rattle.issuing.proofs.Periods.{length_days, period_tame, period_room, period_sent}
use Rattle.issuing.proofs.plan.Plan.send.Goals as goal

pub send_period-end-requires : goal.send_period-end-requires
send_period-end-requires g c =
    let o = c.args.self.now.order in
    let t = c.args.issued.now in
    let p = c.loop-period.period in
    let low = c.loop-period.auto.period in
    let next = planned (g.R.Rule.meaning o.rule.now) c.args.self.now in
    let ended = c.loop-period.invariant.0 in
    let came = c.loop-period.invariant.2 in
    record {
      ready = record {
        slots = ap length came ∙ length_days o.terms.places next o.day (p - 1) t ∙ c.requires.ready.slots;
        low = low;
        high = c.loop-period-test.true;
        tame = period_tame o.terms next o.day o.run t p low c.args.at c.loop-period.end c.loop-period.issued ended came (c.requires.ready.tame p low c.loop-period-test.true);
      };
      drafted = c.requires.drafted p low c.loop-period-test.true;
      room = period_room o.terms next o.day o.run t p low c.args.at c.loop-period.end c.loop-period.issued ended came (length c.loop-period.journal) c.loop-period-test.true (omega (arith, c.requires.room, c.loop-period.auto.journal));
    }

pub loop-period-preserved : goal.loop-period-preserved
loop-period-preserved g c =
    let o = c.args.self.now.order in
    let next = planned (g.R.Rule.meaning o.rule.now) c.args.self.now in
    period_sent o.terms next o.day o.run c.args.issued.now c.loop-period.period c.loop-period.auto.period c.args.at c.loop-period.end c.loop-period.issued c.loop-period.invariant.0 c.loop-period.invariant.2 c.args.journal.now c.loop-period.journal c.send_period-end.new.journal c.send_period-end.result c.send_period-end.new.issued (omega (arith, c.requires.room)) c.loop-period.invariant.1 c.send_period-end.ensures.next c.send_period-end.ensures.journal c.send_period-end.ensures.issued
