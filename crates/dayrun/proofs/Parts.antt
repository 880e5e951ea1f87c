-- The two files of the input.
use Rattle.std.proofs.Common.{◌≡◌, ℕ, List, take, drop, Ok, Err, Result, ap, ◌∙◌}
use Rattle.domain.specs.Checks.{and_then}
use Rattle.domain.specs.declared.Fault.{Fault}
use Rattle.files.specs.Reads.{Told}
use Rattle.dayrun.specs.Files.{files_read, read_as, taken, schedule_bytes}

module _ (input all first rest : List ℕ) (ea : all ≡ taken input) (ef : first ≡ take schedule_bytes all) where
  start : read_as 1 first ≡ read_as 1 (take schedule_bytes (taken input))
  start = ap (read_as 1) (ef ∙ ap (take schedule_bytes) ea)

  pub first_refused : {f : Fault} → Err f ≡ read_as 1 first → Err f ≡ files_read input
  unfolding files_read
  first_refused e = ap (λ x. and_then x (λ s. and_then (read_as 2 (drop schedule_bytes (taken input))) (λ r. Ok (record { schedule = s; readings = r })))) (e ∙ start)

  pub rest_read : (er : rest ≡ drop schedule_bytes all) {s : Told} → Ok s ≡ read_as 1 first → {x : Result Told Fault} → x ≡ read_as 2 rest → and_then x (λ r. Ok (record { schedule = s; readings = r })) ≡ files_read input
  unfolding files_read
  rest_read er {s} e ex =
      ap (λ x. and_then x (λ r. Ok (record { schedule = s; readings = r }))) (ex ∙ ap (read_as 2) (er ∙ ap (drop schedule_bytes) ea))
      ∙ ap (λ x. and_then x (λ s. and_then (read_as 2 (drop schedule_bytes (taken input))) (λ r. Ok (record { schedule = s; readings = r })))) (e ∙ start)
