use Rattle.std.proofs.Common.{◌≡◌, ℕ, ◌<◌, length, Option, ◌∙◌, sym, rules, tests}
use Rattle.std.specs.Prelude.{IfSome, MatchOption}
use Rattle.std.specs.List.{position}
use Rattle.std.proofs.lemmas.Iterator.{YieldsList-from_slice}
use Rattle.std.proofs.lemmas.Iterator.Search.{position_from_yields_List}
use Rattle.history.specs.Entries.{is_on, found}
use Rattle.history.specs.Questions.{NoneOn, FirstOn}
use Rattle.history.proofs.Answered.{found_says}
use Rattle.history.proofs.Finding.{found_position}
use Rattle.history.proofs.Placing.{found_within_says}
use Rattle.history.proofs.History.find.Goals as goal

pub returns : goal.returns
returns g c =
    let t = c.args.self.entries.now in
    let s = c.args.subject in
    let d = c.args.day in
    let at : c.position.result ≡ position (is_on s d) t = position_from_yields_List (is_on s d) _ _ c.position.result c.position.ensures.ran (YieldsList-from_slice _ c.iter.ensures.rest) (λ x b q k. search (rules, tests)) in
    let is : c.position.result ≡ found t s d = at ∙ sym (found_position t s d) in
    let within : (o : Option ℕ) → o ≡ found t s d → IfSome o (λ i. i < length t) = λ o e. rw e (found_within_says t s d) in
    let says : (o : Option ℕ) → o ≡ found t s d → MatchOption o (NoneOn t s d) (FirstOn t s d) = λ o e. rw e (found_says t s d) in
    record { is = search rules; within = within _ (search rules); says = says _ (search rules) }
