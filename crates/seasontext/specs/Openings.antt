-- How far a season has come when the terms are met, or the lines have ended without them.
use Rattle.std.specs.Prelude.{ℕ, ◌+◌, ◌^◌, ◌<◌, Bool, List, [], ◌++◌, length, Some, None, Ok, Err, Option, Result}
use Rattle.domain.specs.declared.Fault.{Fault}
use Rattle.domain.specs.declared.terms.Terms.{Terms}
use Rattle.seasontext.specs.Seasons.{usual_holders, usual_journal, start_of, run_lines, ended, terms_refused}
use Rattle.seasontext.specs.Sums.{tables_text}

-- the numbers of these lines, of which the first is this one, have 64 bits
abbrev pub HasNumbers : ℕ → List (List ℕ) → Type 0
HasNumbers number lines = number + length lines < 2 ^ 64

-- what is printed of a season, where this text stands before its terms, or before its end, and the line `number` and those after it are left
abbrev pub reached : Bool → ℕ → List ℕ → Option (Result Terms Fault) → List (List ℕ) → List ℕ
reached quiet number text None lines = text ++ tables_text [] []
reached quiet number text (Some (Ok terms)) lines = ended (run_lines number (start_of usual_holders usual_journal terms quiet text) lines)
reached quiet number text (Some (Err fault)) lines = text ++ terms_refused fault
