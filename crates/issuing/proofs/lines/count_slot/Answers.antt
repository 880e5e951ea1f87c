use Rattle.std.proofs.Common.{length, ap, ◌∙◌, arith, length-append}
use Rattle.domain.specs.Lines.{line_of}
use Rattle.issuing.proofs.Sent.{same_bits, moved_bits, slot_most}
use Rattle.issuing.proofs.lines.count_slot.Goals as goal

pub overflow_add-result : goal.overflow_add-result
overflow_add-result c =
    omega (arith, c.count_line-else-was-next.ensures 0 0 0 0 c.args.was.supplier, c.count_line-else-was-next-2.ensures 0 0 0 0 c.args.next.supplier, slot_most (line_of 0 0 0 0) c.args.was c.args.next, simp length-append at (ap length (moved_bits (line_of 0 0 0 0) c.args.was c.args.next c.requires.was c.requires.next c.if-was-next.false)))

pub returns-then-was-next : goal.returns-then-was-next
returns-then-was-next c d r p q =
    c.count_line.ensures d r p q c.args.next.supplier ∙ ap length (same_bits (line_of d r p q) c.args.was c.args.next c.requires.was c.requires.next c.if-was-next.true)

pub returns-else-was-next : goal.returns-else-was-next
returns-else-was-next c d r p q =
    omega (arith, c.count_line-else-was-next.ensures d r p q c.args.was.supplier, c.count_line-else-was-next-2.ensures d r p q c.args.next.supplier, simp length-append at (ap length (moved_bits (line_of d r p q) c.args.was c.args.next c.requires.was c.requires.next c.if-was-next.false)))
