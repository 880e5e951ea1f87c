use Rattle.std.proofs.Common.{◌+◌, sym, ap, arith, rules, tests}
use Rattle.std.proofs.lemmas.Iterator.{YieldsList-from_slice}
use Rattle.std.proofs.lemmas.Iterator.Search.{any_from_yields_List}
use Rattle.domain.specs.Limits.{periods}
use Rattle.domain.specs.Checks.{reading_at, no_reading, spoiled_reading}
use Rattle.domain.specs.declared.Table.TheVariants.{Readings}
use Rattle.domain.specs.declared.Fault.TheVariants.{Spoiled}
use Rattle.issuing.proofs.Firsts.{any_answered}
use Rattle.issuing.proofs.plan.Plan.sound_readings.Goals as goal

pub returns-then-any : goal.returns-then-any
returns-then-any g c =
    let any = any_from_yields_List spoiled_reading _ _ c.any.result c.any.ensures.ran (YieldsList-from_slice _ c.iter.ensures.rest) (λ x b q k. search (rules, tests)) in
    rw c.if-any.true at (any_answered spoiled_reading c.readings-readings.result.now no_reading (λ i. spoiled_reading (reading_at c.args.self.now.order.readings.now c.args.self.now.order.day (i + 1))) (λ i h. ap spoiled_reading (sym (c.readings-readings.ensures.each i (omega arith)))) periods (Spoiled Readings) c.readings-readings.ensures.size c.any.result any)

pub returns : goal.returns
returns g c =
    let any = any_from_yields_List spoiled_reading _ _ c.any.result c.any.ensures.ran (YieldsList-from_slice _ c.iter.ensures.rest) (λ x b q k. search (rules, tests)) in
    rw c.if-any.false at (any_answered spoiled_reading c.readings-readings.result.now no_reading (λ i. spoiled_reading (reading_at c.args.self.now.order.readings.now c.args.self.now.order.day (i + 1))) (λ i h. ap spoiled_reading (sym (c.readings-readings.ensures.each i (omega arith)))) periods (Spoiled Readings) c.readings-readings.ensures.size c.any.result any)
