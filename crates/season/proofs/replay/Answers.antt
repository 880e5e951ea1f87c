use Rattle.std.proofs.Common.{◌≡◌, ℕ, min, List, ◌++◌, length, take, Ok, Result, sym, refl, ap, ◌∙◌, arith, length-take, take_all}
use Rattle.domain.specs.declared.Fault.{Fault}
use Rattle.domain.specs.declared.terms.Terms.{Terms}
use Rattle.book.specs.Kept.{kept}
use Rattle.book.specs.Readings.{blank_answer}
use Rattle.season.specs.declared.Accepted.{Accepted}
use Rattle.season.specs.Outcomes.{state_of, state_in, start_in}
use Rattle.season.specs.Replays.{calls_made}
use Rattle.season.proofs.Replaying.{agrees_start, replayed, turn_state, turn_outcomes, end_state, end_outcomes, no_outcomes}
use Rattle.season.proofs.replay.Goals as goal

pub loop-i-init : goal.loop-i-init
loop-i-init g c = (refl, refl, refl, sym (ap (λ (os : List (Result Accepted Fault)). os ++ c.args.outcomes.now) (no_outcomes _ _ _)), record { holders = refl; rows = refl; readings = refl; issued = refl; journal = refl })

pub loop-i-preserved : goal.loop-i-preserved
loop-i-preserved g c =
    let b = c.open-book.result in
    let lent = c.args.tables.now in
    let start = state_of (kept b) lent.holders.now lent.rows.now c.blank.new.readings c.blank.new.issued lent.journal.now in
    let was = state_in (kept c.loop-i.book) c.loop-i.tables in
    let inv = c.loop-i.invariant in
    let came = c.apply.ensures in
    let tables = inv.4 in
    let room : c.min-count.result ≡ min (length c.args.calls.now) (length c.args.outcomes.now) = c.min-count.ensures in
    let made = take c.min-count.result c.args.calls.now in
    let still = came.lent in (
      turn_state g.R.Rule.meaning b.terms b.rule start made c.loop-i.i _ c.loop-i.book.terms c.loop-i.book.rule was _ c.loop-i-test.true inv.1 inv.2 inv.0 came.after,
      came.same.0 ∙ inv.1,
      came.same.1 ∙ inv.2,
      turn_outcomes g.R.Rule.meaning b.terms b.rule start made c.loop-i.i _ c.loop-i.book.terms c.loop-i.book.rule was c.apply.result c.args.outcomes.now c.loop-i.outcomes c.loop-i-test.true (omega (arith, length-take c.min-count.result c.args.calls.now)) inv.1 inv.2 inv.0 came.answer inv.3,
      record {
        holders = still.holders ∙ tables.holders;
        rows = still.rows ∙ tables.rows;
        readings = still.readings ∙ tables.readings;
        issued = still.issued ∙ tables.issued;
        journal = still.journal ∙ tables.journal;
      },
    )

pub returns-clause-replayed : goal.returns-clause-replayed
returns-clause-replayed g c =
    let b = c.open-book.result in
    let of = c.open-book.ensures.of in
    let blank = c.in_ok-blank.ensures in
    let m = g.R.Rule.meaning in
    let lent = c.args.tables.now in
    let calls = c.args.calls.now in
    let was = c.args.outcomes.now in
    let inv = c.loop-i.invariant in
    let from = state_of (kept b) lent.holders.now lent.rows.now c.blank.new.readings c.blank.new.issued lent.journal.now in
    let start = start_in lent in
    let same : from ≡ start = cc (c.open-book.ensures.keeps, blank.readings, blank.issued) in
    let room : c.min-count.result ≡ min (length calls) (length was) = c.min-count.ensures in
    let made = take c.min-count.result calls in
    let i = c.loop-i.i in
    let over : i ≡ length made = omega arith in
    let all : take i made ≡ calls_made calls was = take_all i made (omega arith) ∙ ap (λ (n : ℕ). take n calls) room in
    let accepted : blank_answer c.args.terms lent.readings.now lent.issued.now ≡ Ok tt = sym (blank.answer ∙ ap (λ (t : Terms). blank_answer t lent.readings.now lent.issued.now) of.0) in
    let end = state_in (kept c.loop-i.book) c.loop-i.tables in
    replayed c.args.terms (m c.args.rule) (g.met.R.Rule.laws c.args.rule) start (calls_made calls was) was c.loop-i.outcomes end (agrees_start c.args.terms lent.holders.now lent.rows.now lent.readings.now lent.issued.now lent.journal.now accepted)
    (end_state m c.args.terms c.args.rule start (calls_made calls was) b.terms b.rule from (take i made) of.0 of.1 same all end inv.0)
    (end_outcomes m c.args.terms c.args.rule start (calls_made calls was) b.terms b.rule from (take i made) of.0 of.1 same all c.loop-i.outcomes was i (over ∙ ap length (sym (take_all i made (omega arith)))) inv.3)
