-- Where a half hour stands in the tables, and when its day's gate is.
use Rattle.std.specs.Prelude.{ℕ, ◌+◌, ◌-◌, ◌*◌}
use Rattle.domain.specs.Limits.{periods}

-- slots that a day has in the table of readings
abbrev pub slots_of_day : ℕ
slots_of_day = periods

-- the slot of a day's period in the table of readings
abbrev pub reading_slot : ℕ → ℕ → ℕ
reading_slot day period = day * slots_of_day + (period - 1)

-- the slot of a place in a day's period, in the table of what was issued
abbrev pub issued_slot : ℕ → ℕ → ℕ → ℕ → ℕ
issued_slot places day period place = reading_slot day period * places + place

-- the size of the table of readings
abbrev pub reading_slots : ℕ → ℕ
reading_slots days = days * slots_of_day

-- the size of the table of what was issued
abbrev pub issued_slots : ℕ → ℕ → ℕ
issued_slots places days = reading_slots days * places

-- the last minute for a day's schedule or end, counted from the start of the day before day 0
abbrev pub gate : ℕ → ℕ
gate day = 1440 * day + 1380
