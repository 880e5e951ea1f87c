use Rattle.std.proofs.Common.{refl, rules}
use Rattle.domain.specs.Lines.{sent, slot_lines}
use Rattle.season.proofs.worked_examples.Goals as goal

pub returns : goal.returns
unfolding slot_lines sent
returns c = record { half_hours = search rules; again = search rules; corrected = refl; passed = refl }
