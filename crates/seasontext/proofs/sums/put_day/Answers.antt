use Rattle.std.proofs.Common.{◌≡◌, ◌+◌, ◌-◌, get_or, None, string_bytes, ap, ◌∙◌, arith}
use Rattle.std.proofs.lemmas.Grind.{common_steps}
use Rattle.domain.specs.Slots.{reading_slot}
use Rattle.seasontext.specs.Sums.{period_text}
use Rattle.seasontext.proofs.Totals.{gathered_next}
use Rattle.seasontext.proofs.sums.put_day.Goals as goal

pub loop-period-preserved : goal.loop-period-preserved
loop-period-preserved c =
    let ls = c.args.lines.now in
    let d = c.args.day in
    let p = c.loop-period.period in
    let value : c.flatten-part.result ≡ get_or c.args.split.now (reading_slot d p) None = grind (arith, common_steps) in
    let e : p ≡ p - 1 + 1 = omega arith in
    record {
      begun = omega arith;
      so_far = gathered_next (λ i. period_text ls d (i + 1) (get_or c.args.split.now (reading_slot d (i + 1)) None)) p (string_bytes c.args.text.now) (string_bytes c.loop-period.text) (string_bytes c.put_period.new.text) _ c.loop-period.invariant.begun c.loop-period.invariant.so_far c.in_ok-put_period.ensures (ap (period_text ls d p) value ∙ ap (λ q. period_text ls d q (get_or c.args.split.now (reading_slot d q) None)) e);
    }
