use Rattle.std.proofs.Common.{◌≡◌, ℕ, ◌*◌, replicate, ap, ◌∙◌}
use Rattle.domain.specs.Slots.{reading_slots, issued_slots}
use Rattle.domain.specs.Checks.{no_reading, no_volume}
use Rattle.domain.specs.declared.AllocationRow.{AllocationRow}
use Rattle.history.specs.declared.Dated.{Dated}
use Rattle.book.specs.Kept.{opened}
use Rattle.season.specs.Outcomes.{state_of}
use Rattle.season.specs.Steps.{State}
use Rattle.domain.specs.Blanks.{no_line}
use Rattle.season.specs.Blanks.{no_holder, no_dated_row}
use Rattle.dayrun.specs.Calls.{day_sent, site_terms, start}
use Rattle.dayrun.specs.Files.{readings_in}
use Rattle.dayrun.proofs.Chain.{put_more}
use Rattle.dayrun.proofs.put_day.Goals as goal

-- blank tables, all holders one and all rows one
abbrev blank : Dated ℕ → Dated AllocationRow → State
blank holder row = state_of opened (replicate 2 holder) (replicate (reading_slots 1) row) (replicate (reading_slots 1) no_reading) (replicate (issued_slots 2 1) no_volume) (replicate (2 * issued_slots 2 1) no_line)

begun : (holder : Dated ℕ) (row : Dated AllocationRow) → holder ≡ no_holder → row ≡ no_dated_row → blank holder row ≡ start
unfolding start
begun holder row h r = ap (λ x. blank x row) h ∙ ap (blank no_holder) r

pub returns : goal.returns
returns c =
    let intro = c.args.files.schedule.intro in
    let rs = readings_in c.args.files.readings.bytes.now in
    let same = ap (λ st. day_sent site_terms st intro.sender intro.day intro.moment c.args.schedule.now rs) (begun c.blank-holders.result c.blank-rows.result c.blank-holders.ensures c.blank-rows.ensures) in
    put_more c.put_answer.result _ _ (c.run_day-answer.ensures ∙ same) c.put_answer.ensures
