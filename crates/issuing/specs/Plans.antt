-- What a plan makes of each slot of its day.
use Rattle.std.specs.Prelude.{◌≡◌, ℕ, ◌-◌, ◌<◌, ◌≤◌, List, length, None, slice_index_or}
use Rattle.std.specs.Option.{unwrap_or}
use Rattle.domain.specs.Limits.{periods}
use Rattle.domain.specs.Slots.{issued_slots}
use Rattle.domain.specs.Checks.{reading_at, slot_at}
use Rattle.domain.specs.declared.Reading.{Reading}
use Rattle.domain.specs.declared.Slot.{Slot}
use Rattle.domain.specs.declared.terms.Terms.{Terms}
use Rattle.rules.specs.Meaning.{Meaning}
use Rattle.rows.specs.Rows.{share_of, Tame}
use Rattle.issuing.specs.declared.sheet.Sheet.{Sheet}
use Rattle.issuing.specs.declared.plan.Plan.{Plan}

-- the slot of a place by a sheet: the holder there, 0 for none, with the place's share
abbrev pub slot_by : Meaning → Terms → Sheet → List Reading → ℕ → ℕ → ℕ → Slot
slot_by m t sheet readings day period place =
    record { supplier = unwrap_or (slice_index_or sheet.holders place None) 0; volume = share_of m t (slice_index_or sheet.rows (period - 1) None) period (reading_at readings day period).kwh place }

-- the slots of the plan's day
abbrev pub planned : {R : Type 0} → Meaning → Plan R → ℕ → ℕ → Slot
planned m p = slot_by m p.order.terms p.sheet.now p.order.readings.now p.order.day

-- the slots of a period hold volumes within what a meter can count
abbrev pub TamePeriod : Terms → List Slot → ℕ → ℕ → Type 0
TamePeriod t issued day p = (q : ℕ) → q < t.places → Tame (slot_at t issued day p q).volume

-- the table of what was issued has the size that the plan's terms give, and such volumes on its day
pub record Ready {R : Type 0} (p : Plan R) (issued : List Slot) : Type 0 where
  pub slots : length issued ≡ issued_slots p.order.terms.places p.order.terms.days
  pub tame : (period : ℕ) → 1 ≤ period → period ≤ periods → TamePeriod p.order.terms issued p.order.day period

-- the same for a period of the day
pub record ReadyIn {R : Type 0} (p : Plan R) (issued : List Slot) (period : ℕ) : Type 0 where
  pub slots : length issued ≡ issued_slots p.order.terms.places p.order.terms.days
  pub low : 1 ≤ period
  pub high : period ≤ periods
  pub tame : TamePeriod p.order.terms issued p.order.day period

-- a draft has the slots of a period as they are to be
abbrev pub DraftedIn : {R : Type 0} → Meaning → Plan R → List Slot → ℕ → Type 0
DraftedIn m p draft period =
    (q : ℕ) → q < p.order.terms.places → slot_at p.order.terms draft 0 period q ≡ planned m p period q

-- the same for each period of the day
abbrev pub Drafted : {R : Type 0} → Meaning → Plan R → List Slot → Type 0
Drafted m p draft = (period : ℕ) → 1 ≤ period → period ≤ periods → DraftedIn m p draft period
