-- Checks that calls have in common. A call's refusal is the first of its checks that fails.
use Rattle.std.specs.Prelude.{ℕ, zero, suc, Bool, true, false, cond, not, ◌&&◌, ◌||◌, List, length, ℤ, pos, negsuc, neg_ℤ, Ok, Err, Result, ◌==◌, int_lt, nat_le, nat_lt, slice_index_or}
use Rattle.domain.specs.Limits.{periods, most_kwh}
use Rattle.domain.specs.Slots.{reading_slot, issued_slot, reading_slots, issued_slots}
use Rattle.domain.specs.declared.Fault.{Fault}
use Rattle.domain.specs.declared.Reading.{Reading}
use Rattle.domain.specs.declared.Slot.{Slot}
use Rattle.domain.specs.declared.terms.Terms.{Terms}

-- what comes next where the check holds, and else this fault
abbrev pub unless : {A : Type 0} → Bool → Fault → Result A Fault → Result A Fault
unless holds fault rest = cond holds rest (Err fault)

-- what comes next where nothing was refused, and else that refusal
abbrev pub and_then : {A B : Type 0} → Result A Fault → (A → Result B Fault) → Result B Fault
and_then (Ok x) rest = rest x
and_then (Err f) rest = Err f

-- what stands after a call: what it makes where it was accepted, and what was where it was refused
abbrev pub settled : {A B : Type 0} → Result A Fault → B → B → B
settled (Ok x) made was = made
settled (Err f) made was = was

-- a day of the book
abbrev pub is_day : Terms → ℕ → Bool
is_day t day = nat_lt day t.days

-- a place of the book
abbrev pub is_place : Terms → ℕ → Bool
is_place t place = nat_lt place t.places

-- a Settlement Period
abbrev pub is_period : ℕ → Bool
is_period period = nat_le 1 period && nat_le period periods

-- a supplier's number
abbrev pub is_supplier : ℕ → Bool
is_supplier supplier = nat_le 1 supplier

-- a slot of readings that can be no reading, and is not empty either
abbrev pub spoiled_reading : Reading → Bool
spoiled_reading r = nat_lt 2 r.quality || nat_lt most_kwh r.kwh

-- zero
abbrev pub is_zero : ℤ → Bool
is_zero (pos zero) = true
is_zero (pos (suc n)) = false
is_zero (negsuc n) = false

-- a slot of what was issued with a volume that no meter counts, or one that was issued to nobody
abbrev pub spoiled_slot : Slot → Bool
spoiled_slot s =
    (int_lt s.volume (neg_ℤ (pos most_kwh)) || int_lt (pos most_kwh) s.volume) || (s.supplier == 0 && not (is_zero s.volume))

-- the empty slot of a reading
abbrev pub no_reading : Reading
no_reading = record { quality = 0; kwh = 0 }

-- a slot of which nothing was issued
abbrev pub no_volume : Slot
no_volume = record { supplier = 0; volume = pos 0 }

-- a quality that a reading may have: 1, estimated, or 2, actual
abbrev pub is_quality : ℕ → Bool
is_quality quality = nat_le 1 quality && nat_le quality 2

-- the table of readings has the size that the terms give
abbrev pub readings_fit : Terms → List Reading → Bool
readings_fit t readings = length readings == reading_slots t.days

-- the table of what was issued has the size that the terms give
abbrev pub issued_fit : Terms → List Slot → Bool
issued_fit t issued = length issued == issued_slots t.places t.days

-- the reading of a day's period
abbrev pub reading_at : List Reading → ℕ → ℕ → Reading
reading_at readings day period = slice_index_or readings (reading_slot day period) no_reading

-- the slot of a place in a day's period
abbrev pub slot_at : Terms → List Slot → ℕ → ℕ → ℕ → Slot
slot_at t issued day period place = slice_index_or issued (issued_slot t.places day period place) no_volume
