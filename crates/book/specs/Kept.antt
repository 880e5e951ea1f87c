-- What a book keeps beside its terms and its rule.
use Rattle.std.specs.Prelude.{◌≡◌, ℕ, Bool, false, List, replicate, None, Option, slice_index_or}
use Rattle.domain.specs.Limits.{most_days}
use Rattle.book.specs.declared.Book.{Book}

-- how many holders, rows and lines are held, from which day on the sharing has ended, and which days are closed
pub record Kept : Type 0 where
  pub holders : ℕ
  pub rows : ℕ
  pub lines : ℕ
  pub ended : Option ℕ
  pub closed : List Bool

-- what this book keeps
abbrev pub kept : {R : Type 0} → Book R → Kept
kept b = record { holders = b.holders; rows = b.rows; lines = b.lines; ended = b.ended; closed = b.closed }

-- a call keeps the terms and the rule of the book
abbrev pub SameTerms : {R : Type 0} → Book R → Book R → Type 0
SameTerms old new = (new.terms ≡ old.terms) × (new.rule ≡ old.rule)

-- a book as it is opened: nothing held, no end, all days open
abbrev pub opened : Kept
opened = record { holders = 0; rows = 0; lines = 0; ended = None; closed = replicate most_days false }

-- the day is closed
abbrev pub is_closed : Kept → ℕ → Bool
is_closed k day = slice_index_or k.closed day false
