use Rattle.std.proofs.Common.{◌≡◌, true, sym, ◌∙◌, arith, w64, to_z, of_z}
use Rattle.std.proofs.lemmas.Int.{ints}
use Rattle.std.proofs.lemmas.Bool.{not-false}
use Rattle.rules.specs.Meaning.{in_range}
use Rattle.rules.specs.House.{house}
use Rattle.rules.specs.Agreed.{agreed}
use Rattle.recount.proofs.Ranged.{answered_split}
use Rattle.recount.proofs.RecountRule.share.Goals as goal

pub returns : goal.returns
returns c =
    let within : in_range c.args.period c.args.energy ≡ true = not-false _ (sym c.if-outside.ensures) in
    let same : to_z w64 (of_z w64 c.unwrap_or.result) ≡ c.unwrap_or.result = omega (arith, ints) in
    same ∙ c.unwrap_or.ensures ∙ answered_split house (agreed c.args.row) c.args.period c.args.energy c.args.place c.by_method.result within c.by_method.ensures
