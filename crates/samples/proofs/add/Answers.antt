use Rattle.std.proofs.Common.{rules}
use Rattle.std.proofs.lemmas.Iterator.{YieldsList-from_slice, YieldsList-from_map}
use Rattle.std.proofs.lemmas.Iterator.Adapters.{items_from_extend}
use Rattle.std.proofs.lemmas.List.{append_assoc}
use Rattle.std.proofs.lemmas.Result.{on_ok_weaker}
use Rattle.samples.specs.Attempts.{beside}
use Rattle.samples.proofs.add.Goals as goal

pub returns : goal.returns
returns g c =
    on_ok_weaker
    c.extend.result
    (λ added. search (rules, append_assoc))
    (items_from_extend c.extend.result c.extend.ensures.ran (YieldsList-from_map _ (beside c.args.first) (YieldsList-from_slice c.args.later.now cc) c.map.ensures.closure (λ x r q k. search rules)))
