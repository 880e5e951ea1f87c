use Rattle.std.proofs.Common.{◌+◌, length, is_ok, ap, ◌∙◌}
use Rattle.std.proofs.lemmas.List.{with_items_is}
use Rattle.std.proofs.lemmas.Result.{IfOk-weaker}
use Rattle.seasontext.specs.Runs.{answered}
use Rattle.seasontext.specs.Seen.{seen}
use Rattle.seasontext.specs.Texts.{buffer_text}
use Rattle.seasontext.proofs.Statements.{statement_told}
use Rattle.seasontext.proofs.desk.Desk.statement.Goals as goal

pub returns : goal.returns
unfolding seen
returns c =
    let s = seen c.args.self.now in
    let a = c.statement-answer.result in
    let file = c.in_ok-file.file in
    let out = c.statement-answer.new.out in
    let whole = c.as_slice-2.ensures.value ∙ with_items_is file out (c.statement-answer.auto.out ∙ c.as_mut_slice.ensures.len) in
    IfOk-weaker c.tell_statement.result _ _ (λ _ h. statement_told c.args.first c.args.count (length c.as_mut_slice.result.now) s _ a c.as_slice.result.now out c.as_mut_slice.result.now c.as_slice.ensures.value (c.as_mut_slice.ensures.len ∙ c.in_ok-file.ensures.len) c.statement-answer.ensures.answer c.statement-answer.ensures.out (h ∙ ap (λ x. answered (is_ok a) (buffer_text (s.calls + 1) x a) s) whole)) c.tell_statement.ensures
