use Rattle.std.proofs.Common.{◌≡◌, replicate, vec_items, string_bytes, ap, ◌∙◌}
use Rattle.domain.specs.Checks.{no_reading, no_volume}
use Rattle.book.specs.Kept.{kept}
use Rattle.domain.specs.Blanks.{no_line}
use Rattle.season.specs.Blanks.{no_holder, no_dated_row}
use Rattle.seasontext.specs.Seasons.{usual_holders, usual_journal}
use Rattle.seasontext.specs.Seen.{seen}
use Rattle.seasontext.proofs.Desks.{dated_same}
use Rattle.seasontext.proofs.Starts.{start_is}
use Rattle.seasontext.proofs.desk.Desk.open.Goals as goal

pub returns : goal.returns
unfolding seen
returns c =
    let slots = c.reading_slots-slots.result in
    let many = c.issued_slots-issued.result in
    let b = c.open.result in
    let h : vec_items c.in_ok-vec.field-0 ≡ replicate usual_holders no_holder = c.in_ok-vec.ensures.items_if_clones_equal (λ y e. dated_same y c.blank.result e.0 e.1.0 e.1.1) ∙ ap (replicate 512) c.blank.ensures in
    let r : vec_items c.in_ok-vec-2.field-0 ≡ replicate slots no_dated_row = c.in_ok-vec-2.ensures.items_if_clones_equal (λ y e. dated_same y c.blank-2.result e.0 e.1.0 e.1.1) ∙ ap (replicate slots) c.blank-2.ensures in
    let g : vec_items c.in_ok-vec-3.field-0 ≡ replicate slots no_reading = c.in_ok-vec-3.ensures.items_if_clones_equal (λ y e. e) in
    let i : vec_items c.in_ok-vec-4.field-0 ≡ replicate many no_volume = c.in_ok-vec-4.ensures.items_if_clones_equal (λ y e. e) in
    let j : vec_items c.in_ok-vec-5.field-0 ≡ replicate usual_journal no_line = c.in_ok-vec-5.ensures.items_if_clones_equal (λ y e. e) in
    start_is usual_holders usual_journal slots many c.args.terms b.terms (kept b) c.args.quiet (vec_items c.in_ok-vec.field-0) (vec_items c.in_ok-vec-2.field-0) (vec_items c.in_ok-vec-3.field-0) (vec_items c.in_ok-vec-4.field-0) (vec_items c.in_ok-vec-5.field-0) (vec_items c.in_ok-no_splits.field-0) (string_bytes c.args.text) c.open.ensures.of.0 c.open.ensures.keeps c.reading_slots-slots.ensures c.issued_slots-issued.ensures h r g i j c.in_ok-no_splits.ensures
