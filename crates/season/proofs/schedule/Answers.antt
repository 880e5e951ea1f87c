use Rattle.std.proofs.Common.{◌≡◌, ℕ, Ok, Err, Result, rules, arith}
use Rattle.std.specs.Result.{MatchResult, IsOkAnd}
use Rattle.std.proofs.lemmas.Result.{MatchResult-weaker}
use Rattle.domain.specs.declared.Fault.{Fault}
use Rattle.files.specs.Contents.{notice_of}
use Rattle.book.specs.Sharing.{receipt_for}
use Rattle.book.specs.declared.notices.Receipt.{Receipt}
use Rattle.season.specs.declared.Accepted.{Accepted}
use Rattle.season.specs.declared.Accepted.TheVariants.{Scheduled}
use Rattle.season.specs.Outcomes.{scheduled_by}
use Rattle.season.proofs.schedule.Goals as goal

-- a receipt that is confirmed says what the schedule comes to
confirmed : (day sender moment : ℕ) (r : Result ℕ Fault) (answer : Result Receipt Fault) (came : Result Accepted Fault) → answer ≡ receipt_for r day sender moment → MatchResult answer (λ x. IsOkAnd came (λ y. y ≡ Scheduled (notice_of x.intro.day x.intro.sender x.intro.moment))) (λ e. came ≡ Err e) → came ≡ scheduled_by r (notice_of day sender moment)
confirmed day sender moment (Ok n) answer (Ok y) e h = grind arith
confirmed day sender moment (Ok n) answer (Err y) e h = grind arith
confirmed day sender moment (Err n) answer came e h = grind arith

pub returns-clause-answer : goal.returns-clause-answer
returns-clause-answer g c =
    let made = c.map.ensures.cases in
    confirmed c.args.day c.args.sender c.args.moment _ c.schedule.result c.map.result c.schedule.ensures.answer (MatchResult-weaker c.schedule.result made (λ x h. search rules) (λ e h. h))
