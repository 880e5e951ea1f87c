-- Two places that share half and half.
use Rattle.std.specs.Prelude.{◌-◌, ◌/◌, ◌&&◌, [], ◌∷◌, length, pos, ◌==◌}
use Rattle.rules.specs.Meaning.{Meaning}

-- two places with half of the energy each; the second balances, and has the odd kWh
abbrev pub halves_of : Meaning
halves_of = record {
  lawful = λ t. (length t.nominations == 2) && (t.balance == 1);
  shares = λ t p e. pos (e / 2) ∷ pos (e - e / 2) ∷ [];
}
