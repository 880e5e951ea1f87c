-- What a desk holds, after each of its steps.
use Rattle.std.proofs.Common.{◌≡◌, List, Some, None, Option, sym, ap, ◌∙◌, Bor}
use Rattle.seasontext.specs.declared.desk.Draft.{Draft}
use Rattle.domain.specs.declared.AllocationRow.{AllocationRow}
use Rattle.history.specs.declared.Dated.{Dated}
use Rattle.season.specs.declared.Call.TheVariants.{Schedule}
use Rattle.season.specs.Lent.{lent}
use Rattle.seasontext.specs.Runs.{Run, stepped, came_of, called, closed_by, with_draft}

-- a draft that was taken is called
pub close_some : (draft left : Option Draft) (d : Draft) (s s' : Run) (r : Bor (List AllocationRow)) → draft ≡ Some d → left ≡ None → r.now ≡ d.rows → s' ≡ called (Schedule d.intro.sender d.intro.day d.intro.moment r) (with_draft left s) → s' ≡ closed_by draft s
unfolding closed_by called came_of stepped
close_some draft left d s s' r e none rows is =
    is
    ∙ ap (λ x. called (Schedule d.intro.sender d.intro.day d.intro.moment r) (with_draft x s)) none
    ∙ ap (λ x. called (Schedule d.intro.sender d.intro.day d.intro.moment (lent x)) (with_draft None s)) rows
    ∙ ap (λ x. closed_by x s) (sym e)

-- an entry is another where its parts are
pub dated_same : {A : Type 0} (y b : Dated A) → y.subject ≡ b.subject → y.day ≡ b.day → y.entry ≡ b.entry → y ≡ b
dated_same y b es ed ee = λ i. record { subject = es i; day = ed i; entry = ee i }
