-- The slots of a day.
use Rattle.std.specs.Prelude.{ℕ, ◌+◌, Bool, List, length, Ok, Option, Result, ◌==◌, slice_index_or}
use Rattle.domain.specs.Slots.{issued_slot}
use Rattle.domain.specs.Checks.{no_volume, slot_at, spoiled_slot}
use Rattle.domain.specs.declared.Line.{Line}
use Rattle.domain.specs.declared.Reading.{Reading}
use Rattle.domain.specs.declared.Slot.{Slot}
use Rattle.domain.specs.declared.Table.TheVariants.{Issued}
use Rattle.domain.specs.declared.Fault.{Fault}
use Rattle.domain.specs.declared.Fault.TheVariants.{Spoiled}
use Rattle.domain.specs.declared.terms.Terms.{Terms}
use Rattle.issuing.specs.First.{first_where, unless_found}

-- whether a slot holds no reading
abbrev pub is_empty : Reading → Bool
is_empty r = r.quality == 0

-- the slot number i of a day, counted through its periods and places
abbrev pub slot_of_day : Terms → List Slot → ℕ → ℕ → Slot
slot_of_day t issued day i = slice_index_or issued (issued_slot t.places day 1 0 + i) no_volume

-- the first of the first m places of a period whose slot is spoiled
abbrev pub spoiled_place : Terms → List Slot → ℕ → ℕ → ℕ → Option ℕ
spoiled_place t issued day period m = first_where (λ q. spoiled_slot (slot_at t issued day period q)) m

-- the first of the first m slots of a day that is spoiled
abbrev pub spoiled_before : Terms → List Slot → ℕ → ℕ → Option ℕ
spoiled_before t issued day m = first_where (λ i. spoiled_slot (slot_of_day t issued day i)) m

-- how many lines there are, refused where a slot is spoiled
abbrev pub counted : Option ℕ → List Line → Result ℕ Fault
counted spoiled lines = unless_found spoiled (λ _. Spoiled Issued) (Ok (length lines))
