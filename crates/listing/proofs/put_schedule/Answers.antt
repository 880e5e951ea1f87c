use Rattle.std.proofs.Common.{◌≡◌, ◌+◌, [], ◌++◌, length, string_bytes, ap, ◌∙◌, ⊎_elim, arith, rules}
use Rattle.std.specs.Iterator.Adapters.{zip_first, zip_second}
use Rattle.std.proofs.lemmas.List.{nil_from_length}
use Rattle.files.specs.Bytes.{records_in}
use Rattle.files.specs.Records.{row_size, decoded_row}
use Rattle.listing.specs.Texts.{row_text, rows_text, schedule_heading}
use Rattle.listing.proofs.Steps.{headed, rows_more, rows_whole}
use Rattle.listing.proofs.put_schedule.Goals as goal

pub loop-period-init : goal.loop-period-init
loop-period-init c =
    let intro = c.args.file.intro in
    let rows = c.args.file.rows.bytes.now in
    let it = c.into_iter-period-iterator.result in
    let same : it ≡ c.zip-period-items.result = c.into_iter-period-iterator.ensures.into_iter_gives in
    let first = c.zip-period-items.ensures.first in
    let second = c.zip-period-items.ensures.second in
    let period : (zip_first it).start ≡ 1 = search rules in
    let bytes : (zip_second it).bytes.now ≡ rows = search rules in
    let text = headed (λ n. schedule_heading n intro.sender intro.day intro.moment) (λ bs. rows_text 1 (records_in decoded_row row_size bs)) _ _ _ _ _ _ c.in_ok-write.ensures.bytes c.len-count.ensures bytes in
    record { few = omega (arith, ap (λ bs. length (records_in decoded_row row_size bs)) bytes, c.iter.ensures.few); written = rw period text }

pub loop-period-preserved : goal.loop-period-preserved
loop-period-preserved c =
    let inv = c.loop-period.invariant in
    let steps = c.in-Some.ensures.steps in
    let period = (zip_first c.loop-period.period-iterator).start in
    let text = string_bytes c.loop-period.text in
    let next : (zip_first c.next.new.self).start ≡ period + 1 = steps.0.1 ∙ ap (λ n. n + 1) steps.0.0 in
    let wrote = c.in_ok-write-2.ensures.bytes ∙ ap (λ n. text ++ row_text n c.in-Some.row) steps.0.0 in
    record { few = omega (arith, ap length steps.1.0); written = rw next (rows_more period c.in-Some.row _ _ text _ _ inv.written steps.1.0 wrote) }

pub returns : goal.returns
returns c =
    let inv = c.loop-period.invariant in
    let left = records_in decoded_row row_size (zip_second c.loop-period.period-iterator).bytes.now in
    let none : left ≡ [] = ⊎_elim (λ h. nil_from_length left (let top = h.1.0 in omega arith)) (λ h. h.1.0.0) c.in-None.ensures.steps in
    rows_whole (zip_first c.loop-period.period-iterator).start left (string_bytes c.loop-period.text) _ inv.written none
