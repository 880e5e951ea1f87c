-- What an issue does to the book.
use Rattle.std.specs.Prelude.{ℕ, ◌+◌, true, cond, List, length, Ok, Err, Result, ◌==◌, slice_set}
use Rattle.domain.specs.declared.AllocationRow.{AllocationRow}
use Rattle.domain.specs.declared.Reading.{Reading}
use Rattle.domain.specs.declared.Slot.{Slot}
use Rattle.domain.specs.declared.Line.{Line}
use Rattle.domain.specs.declared.Fault.{Fault}
use Rattle.domain.specs.declared.terms.Terms.{Terms}
use Rattle.rules.specs.Meaning.{Meaning}
use Rattle.history.specs.declared.Dated.{Dated}
use Rattle.issuing.specs.Posted.{posted}
use Rattle.issuing.specs.Issue.{day_lines, issued_after, issue_answer}
use Rattle.issuing.specs.declared.Standing.{Standing}
use Rattle.book.specs.Kept.{Kept, is_closed}

-- what the book knows of itself when it issues a day
abbrev pub standing_of : Kept → ℕ → Standing
standing_of k day =
    record { holders = k.holders; rows = k.rows; lines = k.lines; ended = k.ended; closed = is_closed k day }

-- an accepted issue counts the lines that it sent, and run 2 closes the day
abbrev pub after_issue : Result ℕ Fault → ℕ → ℕ → Kept → Kept
after_issue (Ok sent) day run k = record {
  holders = k.holders;
  rows = k.rows;
  lines = k.lines + sent;
  ended = k.ended;
  closed = cond (run == 2) (slice_set k.closed day true) k.closed;
}
after_issue (Err f) day run k = k

module _ (m : Meaning) (t : Terms) (k : Kept) (holders : List (Dated ℕ)) (rows : List (Dated AllocationRow)) (readings : List Reading) (issued : List Slot) (journal : List Line) (day run : ℕ) where
  -- the lines of the issue
  unfoldable pub lines_sent : List Line
  lines_sent = day_lines m t (standing_of k day) holders rows readings issued day run

  -- the refusal of the issue, or how many lines it sends
  unfoldable pub issue_verdict : Result ℕ Fault
  issue_verdict = issue_answer m t (standing_of k day) holders rows readings issued (length journal) day run

  -- the table with each slot of the day as it is to be
  unfoldable pub slots_issued : List Slot
  slots_issued = issued_after m t (standing_of k day) holders rows readings issued day

  -- the journal with the lines behind those that it holds
  unfoldable pub journal_sent : List Line
  journal_sent = posted journal k.lines (day_lines m t (standing_of k day) holders rows readings issued day run)
