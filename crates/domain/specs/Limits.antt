-- The limits of the subject, each once, with the numbers that the code's constants have.
use Rattle.std.specs.Prelude.{ℕ}

-- Settlement Periods in a day, numbered from 1
abbrev pub periods : ℕ
periods = 48

-- the most that a meter counts in one Settlement Period, and the most that a place may nominate, in kWh
abbrev pub most_kwh : ℕ
most_kwh = 9999999

-- the most that the Relevant Capacity may be for one Settlement Period, in kWh
abbrev pub most_capacity : ℕ
most_capacity = 9999999

-- the fewest places of a book
abbrev pub fewest_places : ℕ
fewest_places = 2

-- the most places of a book
abbrev pub most_places : ℕ
most_places = 8

-- the most days of a book
abbrev pub most_days : ℕ
most_days = 62

-- nominations that a row of a schedule carries
abbrev pub nominations_of_row : ℕ
nominations_of_row = 8

-- the most records of a readings file and of a statement
abbrev pub most_records : ℕ
most_records = 4096
