-- A desk as it is opened.
use Rattle.std.proofs.Common.{◌≡◌, ℕ, Bool, false, List, replicate, None, Option, ap, ◌∙◌}
use Rattle.domain.specs.Checks.{no_reading, no_volume}
use Rattle.domain.specs.Slots.{reading_slots, issued_slots}
use Rattle.domain.specs.declared.AllocationRow.{AllocationRow}
use Rattle.domain.specs.declared.Line.{Line}
use Rattle.domain.specs.declared.Reading.{Reading}
use Rattle.domain.specs.declared.Slot.{Slot}
use Rattle.domain.specs.declared.terms.Terms.{Terms}
use Rattle.history.specs.declared.Dated.{Dated}
use Rattle.book.specs.Kept.{Kept, opened}
use Rattle.season.specs.Outcomes.{state_of}
use Rattle.domain.specs.Blanks.{no_line}
use Rattle.season.specs.Blanks.{no_holder, no_dated_row}
use Rattle.seasontext.specs.Runs.{run_of}
use Rattle.seasontext.specs.Seasons.{start_of}

pub start_is : (holders journal slots many : ℕ) (t t' : Terms) (k : Kept) (quiet : Bool) (h : List (Dated ℕ)) (r : List (Dated AllocationRow)) (g : List Reading) (i : List Slot) (j : List Line) (sp : List (Option ℕ)) (text : List ℕ) → t' ≡ t → k ≡ opened → slots ≡ reading_slots t.days → many ≡ issued_slots t.places t.days → h ≡ replicate holders no_holder → r ≡ replicate slots no_dated_row → g ≡ replicate slots no_reading → i ≡ replicate many no_volume → j ≡ replicate journal no_line → sp ≡ replicate slots None → run_of t' quiet (state_of k h r g i j) sp 0 false None text ≡ start_of holders journal t quiet text
unfolding start_of
start_is holders journal slots many t t' k quiet h r g i j sp text et ek es em eh er eg ei ej ep =
    let r' : r ≡ replicate (reading_slots t.days) no_dated_row = er ∙ ap (λ n. replicate n no_dated_row) es in
    let g' : g ≡ replicate (reading_slots t.days) no_reading = eg ∙ ap (λ n. replicate n no_reading) es in
    let i' : i ≡ replicate (issued_slots t.places t.days) no_volume = ei ∙ ap (λ n. replicate n no_volume) em in
    let p' : sp ≡ replicate (reading_slots t.days) None = ep ∙ ap (λ n. replicate n None) es in
    cc
