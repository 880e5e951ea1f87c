use Rattle.std.proofs.Common.{◌≡◌, ℕ, ◌<◌, false, length, sym, ap, ◌∙◌, arith, length-set}
use Rattle.issuing.specs.InForce.{is_ended, supplier_of, spoiled_holder}
use Rattle.issuing.proofs.Firsts.{first_more}
use Rattle.issuing.proofs.Lookups.{each_more, spoiled_zero}
use Rattle.issuing.proofs.Order.holders_of.Goals as goal

pub loop-place-preserved : goal.loop-place-preserved
loop-place-preserved g c =
    let o = c.args.self in
    let f = λ (q : ℕ). supplier_of c.args.held.entries.now (is_ended o.standing.ended o.day) o.day q in
    let q = c.loop-place.place in
    let sound : spoiled_holder c.supplier_of-holder.result ≡ false = spoiled_zero c.supplier_of-holder.result ∙ sym c.eq.ensures ∙ c.if-eq.false in
    let e : spoiled_holder (f q) ≡ false = sym (ap spoiled_holder c.supplier_of-holder.ensures) ∙ sound in
    let l : q < length c.loop-place.holders = omega (arith, c.loop-place-test.true, o.terms.few, c.loop-place.invariant.2) in
    (first_more (λ k. spoiled_holder (f k)) q c.loop-place.invariant.0 e, each_more f c.loop-place.holders q c.from.result c.supplier_of-holder.result c.from.ensures l c.supplier_of-holder.ensures c.loop-place.invariant.1, length-set c.loop-place.holders c.from.result c.supplier_of-holder.result ∙ c.loop-place.invariant.2)
