use Rattle.std.proofs.Common.{◌≡◌, map}
use Rattle.book.specs.Kept.{kept}
use Rattle.season.specs.Outcomes.{state_in}
use Rattle.dayrun.specs.Files.{readings_in}
use Rattle.dayrun.specs.Calls.{run_until, reading_call}
use Rattle.dayrun.proofs.make_readings.Given as goal

abbrev pub invariant-loop-reading : goal.invariant-loop-reading
invariant-loop-reading l =
    let t = l.initial.book.terms in record {
      came : run_until t (state_in (kept l.book) l.tables) (map reading_call (readings_in l.reading-iterator.bytes.now)) ≡ run_until t (state_in (kept l.initial.book) l.initial.tables) (map reading_call (readings_in l.fn.file.bytes.now));
      terms : l.book.terms ≡ t;
    }
