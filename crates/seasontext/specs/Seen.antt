-- The code's desk, by what it holds.
use Rattle.std.specs.Prelude.{vec_items, string_bytes}
use Rattle.book.specs.Kept.{kept}
use Rattle.season.specs.Outcomes.{state_of}
use Rattle.seasontext.specs.Runs.{Run, run_of}
use Rattle.seasontext.specs.declared.desk.Desk.{Desk}

-- what a desk holds
unfoldable pub seen : Desk → Run
seen d =
    run_of d.book.terms d.quiet (state_of (kept d.book) (vec_items d.holders) (vec_items d.rows) (vec_items d.readings) (vec_items d.issued) (vec_items d.journal)) (vec_items d.split) d.calls d.sized d.draft (string_bytes d.text)
