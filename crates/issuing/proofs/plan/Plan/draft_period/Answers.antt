use Rattle.std.proofs.Common.{◌+◌, sym, ◌∙◌, arith}
use Rattle.issuing.specs.Plans.{planned}
use Rattle.issuing.proofs.Passed.{place_more}
use Rattle.issuing.proofs.Periods.{count_step, period_most, turn_slots}
use Rattle.issuing.proofs.plan.Plan.draft_period.Goals as goal

pub overflow_add-needed : goal.overflow_add-needed
overflow_add-needed g c =
    let p = c.args.self.now in
    omega (arith, count_step p.order.terms (planned (g.R.Rule.meaning p.order.rule.now) p) p.order.day p.order.run c.args.issued.now c.args.period c.loop-place.place c.issued_slot.result c.next_slot-next.result c.issued_slot.ensures c.next_slot-next.ensures.is c.loop-place.needed c.count_slot-needed.result c.loop-place.invariant.1 (c.count_slot-needed.ensures p.order.day p.order.run c.args.period c.loop-place.place), period_most p.order.terms (planned (g.R.Rule.meaning p.order.rule.now) p) p.order.day p.order.run c.args.issued.now c.args.period (c.loop-place.place + 1), c.args.self.now.order.terms.few)

pub loop-place-preserved : goal.loop-place-preserved
loop-place-preserved g c =
    let p = c.args.self.now in
    let o = p.order in
    let at = c.args.period in
    let q = c.loop-place.place in
    let next = planned (g.R.Rule.meaning o.rule.now) p in
    let is = c.next_slot-next.ensures.is in
    (place_more o.terms c.args.issued.now o.day at q c.issued_slot.result c.issued_slot.ensures c.loop-place.invariant.0 (sym c.is_spoiled.ensures ∙ c.if-is_spoiled.false), count_step o.terms next o.day o.run c.args.issued.now at q c.issued_slot.result c.next_slot-next.result c.issued_slot.ensures is c.loop-place.needed c.count_slot-needed.result c.loop-place.invariant.1 (c.count_slot-needed.ensures o.day o.run at q), turn_slots o.terms next 0 o.run c.args.draft.now at q c.issued_slot-in-loop-place.result c.next_slot-next.result c.issued_slot-in-loop-place.ensures is c.loop-place.draft c.loop-place.invariant.2)
