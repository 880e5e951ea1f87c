use Rattle.std.proofs.Common.{ℕ, length, get_or, ap, ◌∙◌, arith}
use Rattle.domain.specs.Checks.{no_volume}
use Rattle.issuing.specs.Days.{place_lines}
use Rattle.issuing.specs.Plans.{planned}
use Rattle.issuing.proofs.Gathered.{turn_room, turn_end, turn_journal}
use Rattle.issuing.proofs.Drafts.{tame_planned}
use Rattle.issuing.proofs.Periods.{turn_read, turn_lines, turn_slots}
use Rattle.issuing.proofs.plan.Plan.send_period.Goals as goal

pub send_slot-end-requires : goal.send_slot-end-requires
send_slot-end-requires g c =
    let p = c.args.self.now in
    let t = c.args.issued.now in
    let at = c.args.period in
    let q = c.loop-place.place in
    let next = planned (g.R.Rule.meaning p.order.rule.now) p in
    let is = ap (λ (i : ℕ). get_or c.args.draft.now i no_volume) c.issued_slot.ensures ∙ c.requires.drafted q c.loop-place-test.true in
    let ls = turn_lines p.order.terms next p.order.day p.order.run t at q c.issued_slot-slot.result _ c.issued_slot-slot.ensures is c.loop-place.issued c.loop-place.invariant.2 in
    record {
      was = rw (turn_read p.order.terms next p.order.day p.order.run t at q c.issued_slot-slot.result _ c.issued_slot-slot.ensures is c.loop-place.issued c.loop-place.invariant.2) (c.requires.ready.tame q c.loop-place-test.true);
      next = rw is (tame_planned (g.R.Rule.meaning p.order.rule.now) (g.met.R.Rule.laws p.order.rule.now) p at q);
      room = turn_room (place_lines p.order.terms t next p.order.day p.order.run at) q p.order.terms.places c.args.at c.loop-place.end (length c.loop-place.journal) _ ls c.loop-place.invariant.0 c.loop-place-test.true (omega (arith, c.requires.room, c.loop-place.auto.journal));
    }

pub loop-place-preserved : goal.loop-place-preserved
loop-place-preserved g c =
    let p = c.args.self.now in
    let t = c.args.issued.now in
    let at = c.args.period in
    let q = c.loop-place.place in
    let next = planned (g.R.Rule.meaning p.order.rule.now) p in
    let is = ap (λ (i : ℕ). get_or c.args.draft.now i no_volume) c.issued_slot.ensures ∙ c.requires.drafted q c.loop-place-test.true in
    let ls = turn_lines p.order.terms next p.order.day p.order.run t at q c.issued_slot-slot.result _ c.issued_slot-slot.ensures is c.loop-place.issued c.loop-place.invariant.2 in
    (turn_end (place_lines p.order.terms t next p.order.day p.order.run at) q c.args.at c.loop-place.end c.send_slot-end.result _ ls c.loop-place.invariant.0 c.send_slot-end.ensures.next, turn_journal (place_lines p.order.terms t next p.order.day p.order.run at) q c.args.at c.loop-place.end _ c.args.journal.now c.loop-place.journal c.send_slot-end.new.journal (omega (arith, c.requires.room)) ls c.loop-place.invariant.0 c.loop-place.invariant.1 c.send_slot-end.ensures.journal, turn_slots p.order.terms next p.order.day p.order.run t at q c.issued_slot-slot.result _ c.issued_slot-slot.ensures is c.loop-place.issued c.loop-place.invariant.2)
