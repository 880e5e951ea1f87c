use Rattle.std.proofs.Common.{◌≡◌, ◌+◌, ◌++◌, length, pos, ◌-ℤ◌, sym, ap, ◌∙◌, arith, length-append}
use Rattle.domain.specs.declared.Line.{Line}
use Rattle.domain.specs.Lines.{sent, slot_lines}
use Rattle.issuing.specs.Posted.{posted, headed}
use Rattle.issuing.proofs.Sent.{kept, same_bits, moved_bits}
use Rattle.issuing.proofs.Gathered.{posted_twice}
use Rattle.issuing.proofs.lines.send_slot.Goals as goal

pub send-requires : goal.send-requires
send-requires c =
    omega (arith, ap length (ap sent c.line.ensures ∙ same_bits (headed c.args.heading) c.args.was c.args.next c.requires.was c.requires.next c.if-was-next.true))

pub returns-then-was-next : goal.returns-then-was-next
returns-then-was-next c =
    let e = ap sent c.line.ensures ∙ same_bits (headed c.args.heading) c.args.was c.args.next c.requires.was c.requires.next c.if-was-next.true in
    record {
      next = c.send.ensures.next ∙ ap (λ ls. c.args.at + length ls) e;
      journal = c.send.ensures.journal ∙ ap (posted c.args.journal.now c.args.at) e;
    }

pub send-at-requires : goal.send-at-requires
send-at-requires c =
    omega (arith, ap length (ap sent c.line-back.ensures), simp length-append at (ap length (moved_bits (headed c.args.heading) c.args.was c.args.next c.requires.was c.requires.next c.if-was-next.false)))

pub send-requires-2 : goal.send-requires-2
send-requires-2 c =
    omega (arith, ap length (ap sent c.line-back.ensures), ap length (ap sent c.line-2.ensures), simp length-append at (ap length (moved_bits (headed c.args.heading) c.args.was c.args.next c.requires.was c.requires.next c.if-was-next.false)))

pub returns : goal.returns
returns c =
    let back = c.line-back.result in
    let came = c.line-2.result in
    let e : sent back ++ sent came ≡ slot_lines (headed c.args.heading) c.args.was c.args.next =
    ap (λ (l : Line). sent l ++ sent came) c.line-back.ensures ∙ ap (λ (l : Line). sent (headed c.args.heading c.args.was.supplier (kept (pos 0 -ℤ kept c.args.was.volume))) ++ sent l) c.line-2.ensures ∙ moved_bits (headed c.args.heading) c.args.was c.args.next c.requires.was c.requires.next c.if-was-next.false in
    record {
      next = omega (arith, simp length-append at (ap length e));
      journal = posted_twice c.args.journal.now c.args.at _ _ (omega (arith, c.requires.room)) c.send-at.ensures.journal c.send-at.ensures.next c.send-2.ensures.journal (sym e);
    }
