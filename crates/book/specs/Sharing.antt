-- The calls that say who shares the meter, how, and until when.
use Rattle.std.specs.Prelude.{ℕ, ◌+◌, Bool, false, not, List, [], ◌∷◌, length, take, Some, None, Ok, Err, Option, Result, ◌==◌, nat_le, nat_lt}
use Rattle.domain.specs.Limits.{periods}
use Rattle.domain.specs.Slots.{gate}
use Rattle.domain.specs.Checks.{unless, and_then, is_day, is_place, is_supplier}
use Rattle.domain.specs.declared.Table.TheVariants.{Holders, Rows}
use Rattle.domain.specs.declared.Fault.{Fault}
use Rattle.domain.specs.declared.Fault.TheVariants.{ArgumentOutsideLimits, AfterGate, Spoiled, SenderNotPrimary, SharingEnded, UnlawfulRow}
use Rattle.domain.specs.declared.AllocationRow.{AllocationRow}
use Rattle.domain.specs.declared.terms.Terms.{Terms}
use Rattle.history.specs.Entries.{in_force, entry_at}
use Rattle.history.specs.Puts.{put_one, put_day, room_for}
use Rattle.history.specs.declared.Dated.{Dated}
use Rattle.rules.specs.Meaning.{Meaning}
use Rattle.rows.specs.Rows.{allowed}
use Rattle.book.specs.Kept.{Kept}
use Rattle.book.specs.declared.notices.Receipt.{Receipt}

-- the answer without its value: accepted, or the refusal
abbrev pub done : {A : Type 0} → Result A Fault → Result Unit Fault
done (Ok x) = Ok tt
done (Err f) = Err f

-- a supplier as it is put into the table of holders
abbrev pub holding : ℕ → ℕ → ℕ → Dated ℕ
holding place day supplier = record { subject = place; day = day; entry = supplier }

-- the checks of a register, and how many holders are held after it
abbrev pub register_room : Terms → Kept → List (Dated ℕ) → ℕ → ℕ → ℕ → Result ℕ Fault
register_room t k holders place day supplier =
    unless (is_place t place) (ArgumentOutsideLimits 1) (
    unless (is_day t day) (ArgumentOutsideLimits 2) (
    unless (is_supplier supplier) (ArgumentOutsideLimits 3) (
    room_for holders Holders k.holders (put_one (take k.holders holders) (holding place day supplier)))))

-- so many holders are held, where nothing was refused
abbrev pub with_holders : Result ℕ Fault → Kept → Kept
with_holders (Ok n) k = record { holders = n; rows = k.rows; lines = k.lines; ended = k.ended; closed = k.closed }
with_holders (Err f) k = k

-- there is such a number, and it is this one
abbrev pub is_just : ℕ → Option ℕ → Bool
is_just n None = false
is_just n (Some m) = m == n

-- the supplier that holds a place on a day
abbrev pub holder_on : List (Dated ℕ) → ℕ → ℕ → Option ℕ
holder_on held place day = entry_at held (in_force held place day)

-- who holds place 0 on a day, where the table of holders can be read: supplier 0 holds nothing
abbrev pub primary_on : Kept → List (Dated ℕ) → ℕ → Result (Option ℕ) Fault
primary_on k holders day =
    unless (nat_le k.holders (length holders)) (Spoiled Holders) (
    unless (not (is_just 0 (holder_on (take k.holders holders) 0 day))) (Spoiled Holders) (
    Ok (holder_on (take k.holders holders) 0 day)))

-- the sharing has not ended before
abbrev pub not_ended : Option ℕ → Result Unit Fault
not_ended None = Ok tt
not_ended (Some day) = Err (SharingEnded day)

-- the checks of an end
abbrev pub end_answer : Terms → Kept → List (Dated ℕ) → ℕ → ℕ → ℕ → Result Unit Fault
end_answer t k holders sender day moment =
    unless (is_supplier sender) (ArgumentOutsideLimits 1) (
    unless (is_day t day) (ArgumentOutsideLimits 2) (
    unless (nat_le moment (gate day)) (AfterGate (gate day)) (
    and_then (primary_on k holders day) (λ primary.
    unless (is_just sender primary) (SenderNotPrimary day) (
    not_ended k.ended)))))

-- the sharing ends from that day on
abbrev pub ended_from : ℕ → Kept → Kept
ended_from day k = record { holders = k.holders; rows = k.rows; lines = k.lines; ended = Some day; closed = k.closed }

-- a schedule for that day comes before the end of the sharing
abbrev pub before_end : Option ℕ → ℕ → Result Unit Fault
before_end None day = Ok tt
before_end (Some end) day = unless (nat_lt day end) (SharingEnded end) (Ok tt)

-- the first row that the rule does not allow, where the first row is that of the period p
unfoldable pub rows_allowed : Meaning → Terms → ℕ → List AllocationRow → Result Unit Fault
rows_allowed m t p [] = Ok tt
rows_allowed m t p (row ∷ rows) = unless (allowed m t row) (UnlawfulRow p) (rows_allowed m t (p + 1) rows)

-- the checks of a schedule, but for the room in the table of rows
abbrev pub schedule_admit : Meaning → Terms → Kept → List (Dated ℕ) → List (Dated AllocationRow) → ℕ → ℕ → ℕ → List AllocationRow → Result Unit Fault
schedule_admit m t k holders rows sender day moment schedule =
    unless (is_supplier sender) (ArgumentOutsideLimits 1) (
    unless (is_day t day) (ArgumentOutsideLimits 2) (
    unless (length schedule == periods) (ArgumentOutsideLimits 4) (
    and_then (rows_allowed m t 1 schedule) (λ _.
    unless (nat_le moment (gate day)) (AfterGate (gate day)) (
    and_then (primary_on k holders day) (λ primary.
    unless (nat_le k.rows (length rows)) (Spoiled Rows) (
    unless (is_just sender primary) (SenderNotPrimary day) (
    before_end k.ended day))))))))

-- all checks of a schedule, and how many rows are held after it
abbrev pub schedule_room : Meaning → Terms → Kept → List (Dated ℕ) → List (Dated AllocationRow) → ℕ → ℕ → ℕ → List AllocationRow → Result ℕ Fault
schedule_room m t k holders rows sender day moment schedule =
    and_then (schedule_admit m t k holders rows sender day moment schedule) (λ _. room_for rows Rows k.rows (put_day (take k.rows rows) day schedule))

-- so many rows are held, where nothing was refused
abbrev pub with_rows : Result ℕ Fault → Kept → Kept
with_rows (Ok n) k = record { holders = k.holders; rows = n; lines = k.lines; ended = k.ended; closed = k.closed }
with_rows (Err f) k = k

-- what an accepted schedule hands out
abbrev pub receipt_for : Result ℕ Fault → ℕ → ℕ → ℕ → Result Receipt Fault
receipt_for (Ok n) day sender moment = Ok (record { intro = record { sender = sender; day = day; moment = moment } })
receipt_for (Err f) day sender moment = Err f
