use Rattle.std.proofs.Common.{◌≡◌, true, false, None, sym, refl, ◌∙◌, rules, tests}
use Rattle.std.proofs.lemmas.Bool.{cond-true, cond-false}
use Rattle.std.proofs.lemmas.Iterator.{YieldsList-from_slice}
use Rattle.std.proofs.lemmas.Iterator.Search.{any_from_yields_List}
use Rattle.domain.specs.Limits.{periods}
use Rattle.history.proofs.Eaches.{none_at}
use Rattle.issuing.specs.InForce.{is_ended, spoiled_row}
use Rattle.issuing.proofs.Lookups.{row_spoiled, rows_split}
use Rattle.issuing.proofs.Order.rows_of.Goals as goal

pub returns-then-is_ended : goal.returns-then-is_ended
returns-then-is_ended g c =
    let o = c.args.self in
    let rs = c.args.held.entries.now in
    let ended : is_ended o.standing.ended o.day ≡ true = sym c.is_ended.ensures ∙ c.if-is_ended.true in
    rows_split (g.R.Rule.meaning o.rule.now) o.terms rs (is_ended o.standing.ended o.day) o.day _ refl (λ i h. none_at periods i ∙ sym (cond-true (is_ended o.standing.ended o.day) None _ ended)) refl refl

pub returns-then-any : goal.returns-then-any
returns-then-any g c =
    let o = c.args.self in
    let rs = c.args.held.entries.now in
    let ended : is_ended o.standing.ended o.day ≡ false = sym c.is_ended.ensures ∙ c.if-is_ended.false in
    let spoiled = any_from_yields_List (spoiled_row (g.R.Rule.meaning o.rule.now) o.terms) _ _ c.any.result c.any.ensures.ran (YieldsList-from_slice _ c.iter.ensures.rest) (λ x b q k. search (rules, tests)) in
    row_spoiled (g.R.Rule.meaning o.rule.now) o.terms rs (is_ended o.standing.ended o.day) o.day c.entries_in_force-rows.result c.entries_in_force-rows.ensures.size (λ i h. c.entries_in_force-rows.ensures.each i h ∙ sym (cond-false (is_ended o.standing.ended o.day) None _ ended)) spoiled c.if-any.true

pub returns : goal.returns
returns g c =
    let o = c.args.self in
    let rs = c.args.held.entries.now in
    let ended : is_ended o.standing.ended o.day ≡ false = sym c.is_ended.ensures ∙ c.if-is_ended.false in
    let spoiled = any_from_yields_List (spoiled_row (g.R.Rule.meaning o.rule.now) o.terms) _ _ c.any.result c.any.ensures.ran (YieldsList-from_slice _ c.iter.ensures.rest) (λ x b q k. search (rules, tests)) in
    rows_split (g.R.Rule.meaning o.rule.now) o.terms rs (is_ended o.standing.ended o.day) o.day c.entries_in_force-rows.result c.entries_in_force-rows.ensures.size (λ i h. c.entries_in_force-rows.ensures.each i h ∙ sym (cond-false (is_ended o.standing.ended o.day) None _ ended)) spoiled c.if-any.false
