-- The numbers that stand for a run and for a quality in tables, files and calls.
use Rattle.std.specs.Prelude.{ℕ, cond, Ok, Err, Result, ◌==◌}
use Rattle.domain.specs.declared.numbers.Run.{Run}
use Rattle.domain.specs.declared.numbers.Run.TheVariants.{Initial, Final}
use Rattle.domain.specs.declared.numbers.Quality.{Quality}
use Rattle.domain.specs.declared.numbers.Quality.TheVariants.{Estimated, Actual}
use Rattle.domain.specs.declared.numbers.UnknownNumber.{UnknownNumber}

-- the run with this number: 1, initial, or 2, final
abbrev pub run_of : ℕ → Result Run UnknownNumber
run_of number = cond (number == 1) (Ok Initial) (cond (number == 2) (Ok Final) (Err (record { number = number })))

-- the quality with this number: 1, estimated, or 2, actual
abbrev pub quality_of : ℕ → Result Quality UnknownNumber
quality_of number = cond (number == 1) (Ok Estimated) (cond (number == 2) (Ok Actual) (Err (record { number = number })))
