-- What an order's issue comes to, where the order asks of what the book knows.
use Rattle.std.proofs.Common.{◌≡◌, ℕ, ◌+◌, ◌<◌, ◌≤◌, List, length, IfOk, Ok, Err, Result, sym, ap, ◌∙◌, arith}
use Rattle.domain.specs.Checks.{settled}
use Rattle.domain.specs.declared.AllocationRow.{AllocationRow}
use Rattle.domain.specs.declared.Reading.{Reading}
use Rattle.domain.specs.declared.Slot.{Slot}
use Rattle.domain.specs.declared.Line.{Line}
use Rattle.domain.specs.declared.Fault.{Fault}
use Rattle.domain.specs.declared.terms.Terms.{Terms}
use Rattle.rules.specs.Meaning.{Meaning}
use Rattle.history.specs.declared.Dated.{Dated}
use Rattle.issuing.specs.declared.Standing.{Standing}
use Rattle.issuing.specs.Posted.{posted}
use Rattle.issuing.specs.Issue.{issue_answer, issued_after, day_lines}
use Rattle.issuing.proofs.Answered.{accepted}
use Rattle.book.specs.Kept.{Kept}
use Rattle.book.specs.Issues.{standing_of, issue_verdict, slots_issued, journal_sent}

-- an accepted issue is for a day of the book, and its lines fit the journal
pub room_made : (m : Meaning) (t : Terms) (k : Standing) (holders : List (Dated ℕ)) (rows : List (Dated AllocationRow)) (readings : List Reading) (issued : List Slot) (room day run lines : ℕ) (r : Result ℕ Fault) → k.lines ≡ lines → r ≡ issue_answer m t k holders rows readings issued room day run → IfOk r (λ sent. (day < 62) × (lines + sent ≤ room))
room_made m t k holders rows readings issued room day run lines (Err f) same e = tt
room_made m t k holders rows readings issued room day run lines (Ok n) same e =
    let a = accepted m t k holders rows readings issued room day run n (sym e) in
    (omega (arith, a.0.is_day, t.season), omega (arith, a.1, a.2))

module _ (m : Meaning) (t : Terms) (k : Kept) (holders : List (Dated ℕ)) (rows : List (Dated AllocationRow)) (readings : List Reading) (issued : List Slot) (journal : List Line) (day run : ℕ) where
  -- the answer of an issue, and what it leaves in the two tables that it writes
  pub record Came (r : Result ℕ Fault) (is : List Slot) (js : List Line) : Type 0 where
    pub answer : r ≡ issue_verdict m t k holders rows readings issued journal day run
    pub slots : is ≡ settled r (slots_issued m t k holders rows readings issued journal day run) issued
    pub lines : js ≡ settled r (journal_sent m t k holders rows readings issued journal day run) journal

  module _ (s : Standing) (same : s ≡ standing_of k day) (r : Result ℕ Fault) (answer : r ≡ issue_answer m t s holders rows readings issued (length journal) day run) where
    pub came : (x : Result ℕ Fault) (is : List Slot) (js : List Line) → r ≡ x → is ≡ settled r (issued_after m t s holders rows readings issued day) issued → js ≡ settled r (posted journal s.lines (day_lines m t s holders rows readings issued day run)) journal → Came x is js
    unfolding issue_verdict slots_issued journal_sent
    came x is js same_r ei ej = record {
      answer = sym same_r ∙ answer ∙ ap (λ (z : Standing). issue_answer m t z holders rows readings issued (length journal) day run) same;
      slots = ei ∙ ap (λ (z : Standing). settled r (issued_after m t z holders rows readings issued day) issued) same ∙ ap (λ (y : Result ℕ Fault). settled y (slots_issued m t k holders rows readings issued journal day run) issued) same_r;
      lines = ej ∙ ap (λ (z : Standing). settled r (posted journal z.lines (day_lines m t z holders rows readings issued day run)) journal) same ∙ ap (λ (y : Result ℕ Fault). settled y (journal_sent m t k holders rows readings issued journal day run) journal) same_r;
    }

    -- the lines of an accepted issue fit the journal
    pub room_left : (n : ℕ) → r ≡ Ok n → k.lines + n ≤ length journal
    room_left n is =
        let a = accepted m t s holders rows readings issued (length journal) day run n (sym answer ∙ is) in
        let lines = ap (λ (z : Standing). z.lines) same in
        omega (arith, a.1, a.2, lines)
