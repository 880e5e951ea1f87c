-- Which half hour a line says, or the first fault.
use Rattle.std.specs.Prelude.{◌≡◌, ℕ, List, [], drop, Ok, Err, vec_items, Result, Vec}
use Rattle.std.specs.declared.alloc.Global.{Global}
use Rattle.text.specs.Fields.{and_then, most8, most32}
use Rattle.entries.specs.declared.Fault.{Fault}
use Rattle.entries.specs.declared.HalfHour.{HalfHour}
use Rattle.entries.specs.declared.Unread.{Unread}
use Rattle.entries.specs.declared.Unread.TheVariants.{Malformed, NoMemory}
use Rattle.entries.specs.Fields.{period_in, energy_in, field_in, nominations_in}
use Rattle.entries.specs.Held.{Half, half_of, held}

-- the half hour that words write: period, energy, method, capacity, balance place, nominations
abbrev pub half_hour_in : List (List ℕ) → Result Half Fault
half_hour_in ws =
    and_then (period_in ws) (λ p. and_then (energy_in (drop 1 ws)) (λ e. and_then (field_in 3 most8 (drop 2 ws)) (λ m. and_then (field_in 4 most32 (drop 3 ws)) (λ c. and_then (field_in 5 most8 (drop 4 ws)) (λ b. and_then (nominations_in [] (drop 5 ws)) (λ ns. Ok (half_of p e m c b ns)))))))

-- the half hour that words write is read, or what is wrong with them, unless memory is wanting
abbrev pub Reads : List (List ℕ) → Result HalfHour Unread → Type 0
Reads ws (Ok h) = half_hour_in ws ≡ Ok (held h)
Reads ws (Err (Malformed f)) = half_hour_in ws ≡ Err f
Reads ws (Err (NoMemory e)) = Unit {0}

-- the same of the nominations alone
abbrev pub Gathers : List (List ℕ) → Result (Vec ℕ Global) Unread → Type 0
Gathers ws (Ok v) = nominations_in [] ws ≡ Ok (vec_items v)
Gathers ws (Err (Malformed f)) = nominations_in [] ws ≡ Err f
Gathers ws (Err (NoMemory e)) = Unit {0}
