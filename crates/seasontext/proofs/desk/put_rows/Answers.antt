use Rattle.std.proofs.Common.{◌≡◌, ◌-◌, min, length, drop, replicate, ap, ◌∙◌, arith, length-drop}
use Rattle.std.proofs.lemmas.List.{length-take-le}
use Rattle.seasontext.proofs.Loops.{filled_is}
use Rattle.seasontext.proofs.desk.put_rows.Goals as goal

pub returns : goal.returns
returns c =
    let last : c.min-last.result ≡ min c.args.to (length c.args.rows.now) = cc in
    let first : c.min-first.result ≡ min (c.args.from - 1) c.min-last.result = cc in
    filled_is c.args.row (c.args.from - 1) c.args.to c.min-first.result c.min-last.result c.args.rows.now c.fill.new.self last first (c.fill.ensures.after (λ y e. e) ∙ ap (λ n. replicate n c.args.row) (length-take-le (c.min-last.result - c.min-first.result) (drop c.min-first.result c.args.rows.now) (omega (arith, length-drop c.min-first.result c.args.rows.now))))
