use Rattle.std.proofs.Common.{None, refl}
use Rattle.std.proofs.lemmas.Result.{IfOk-weaker}
use Rattle.seasontext.specs.Seen.{seen}
use Rattle.seasontext.proofs.Desks.{close_some}
use Rattle.seasontext.proofs.desk.Desk.close.Goals as goal

pub returns : goal.returns
unfolding seen
returns c =
    let d = c.args.self.now in
    IfOk-weaker c.call.result _ _ (λ _ h. close_some d.draft None c.in-Some.draft (seen d) (seen c.call.new.self) _ c.in-Some.is refl refl h) c.call.ensures
