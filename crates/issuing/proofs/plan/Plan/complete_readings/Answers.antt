use Rattle.std.proofs.Common.{ℕ, ◌+◌, sym, ap, arith, rules, tests}
use Rattle.std.proofs.lemmas.Iterator.{YieldsList-from_slice, YieldsList-from_zip}
use Rattle.std.proofs.lemmas.Iterator.Search.{find_from_yields_List}
use Rattle.domain.specs.Limits.{periods}
use Rattle.domain.specs.Checks.{reading_at, no_reading}
use Rattle.domain.specs.declared.Reading.{Reading}
use Rattle.domain.specs.declared.Fault.TheVariants.{ReadingMissing}
use Rattle.history.proofs.Numbered.{YieldsList-from_numbers}
use Rattle.issuing.specs.Slots.{is_empty}
use Rattle.issuing.proofs.Firsts.{answered_beside}
use Rattle.issuing.proofs.plan.Plan.complete_readings.Goals as goal

pub returns-in-Some : goal.returns-in-Some
returns-in-Some g c =
    let day = c.readings.result.now in
    let found = find_from_yields_List (λ (p : ℕ × Reading). is_empty p.1) c.find-empty.new.self _ c.find-empty.result c.find-empty.ensures.ran (YieldsList-from_zip (YieldsList-from_numbers 1 periods (cc) (cc) (cc)) (YieldsList-from_slice day (cc))) (λ x b q k. search (rules, tests)) in
    rw c.in-Some.is at (answered_beside (λ (p : ℕ × Reading). is_empty p.1) no_reading 1 periods day (λ i. is_empty (reading_at c.args.self.now.order.readings.now c.args.self.now.order.day (i + 1))) ReadingMissing (λ i. ReadingMissing (i + 1)) (omega (arith, c.readings.ensures.size)) (λ i h. ap is_empty (sym (c.readings.ensures.each i h))) (λ i. ap ReadingMissing (omega arith)) c.find-empty.result found)

pub returns-in-None : goal.returns-in-None
returns-in-None g c =
    let day = c.readings.result.now in
    let found = find_from_yields_List (λ (p : ℕ × Reading). is_empty p.1) c.find-empty.new.self _ c.find-empty.result c.find-empty.ensures.ran (YieldsList-from_zip (YieldsList-from_numbers 1 periods (cc) (cc) (cc)) (YieldsList-from_slice day (cc))) (λ x b q k. search (rules, tests)) in
    rw c.in-None.is at (answered_beside (λ (p : ℕ × Reading). is_empty p.1) no_reading 1 periods day (λ i. is_empty (reading_at c.args.self.now.order.readings.now c.args.self.now.order.day (i + 1))) ReadingMissing (λ i. ReadingMissing (i + 1)) (omega (arith, c.readings.ensures.size)) (λ i h. ap is_empty (sym (c.readings.ensures.each i h))) (λ i. ap ReadingMissing (omega arith)) c.find-empty.result found)
