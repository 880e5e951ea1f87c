use Rattle.std.proofs.Common.{◌≡◌, ℕ, ◌+◌, cond, eqb, [], ◌∷◌, pos, sym, ap, ◌∙◌, arith}
use Rattle.std.specs.List.{list_any}
use Rattle.std.proofs.lemmas.List.{take_all}
use Rattle.seasontext.proofs.Suppliers.{has_is, in_order}
use Rattle.std.proofs.lemmas.List.Folds.{list_any_more}
use Rattle.std.proofs.lemmas.Grind.{common_steps}
use Rattle.domain.specs.Lines.{line_of}
use Rattle.seasontext.specs.Sums.{suppliers, to_supplier, sent_to}
use Rattle.seasontext.proofs.sums.suppliers_of.Goals as goal

pub loop-line-preserved : goal.loop-line-preserved
loop-line-preserved c = record {
  ascending = c.in_ok-insert.ensures.ordered;
  sent = λ k. let m = list_any_more (to_supplier k) c.args.lines.now c.loop-line.line-index (line_of 0 0 0 0 0 (pos 0)) (omega arith) in grind (arith, common_steps, c.loop-line.invariant.sent k);
  few = λ k h. grind (arith, common_steps, c.loop-line.invariant.few k);
}

pub returns : goal.returns
returns c =
    let ls = c.args.lines.now in
    let ks = c.loop-line.suppliers.keys in
    let whole : (k : ℕ) → list_any (eqb k) ks ≡ sent_to k ls = λ k. sym (has_is k ks) ∙ c.loop-line.invariant.sent k ∙ ap (sent_to k) (take_all c.loop-line.line-index ls (omega arith)) in
    in_order suppliers 0 ks (λ k. cond (sent_to k ls) (k ∷ []) []) c.loop-line.invariant.ascending (λ k h. let few = c.loop-line.invariant.few k (has_is k ks ∙ h) in (omega arith, omega (arith, few))) (λ k. ap (λ b. cond b (k ∷ []) []) (sym (whole k)) ∙ ap (λ m. cond (list_any (eqb m) ks) (m ∷ []) []) (let e : k ≡ 0 + k = omega arith in e))
