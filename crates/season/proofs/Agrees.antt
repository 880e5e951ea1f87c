-- The book and its tables agree with the plain book, and each call keeps it so.
use Rattle.std.proofs.Common.{◌≡◌, ℕ, ◌-◌, ◌<◌, ◌≤◌, Bool, true, false, cond, ◌&&◌, eqb, leb, List, [], length, get_or, take, set, is_ok, Some, None, Ok, Err, Option, Result, sym, refl, ap, ◌∙◌, subst, ⊎_elim, arith, length-append, length-drop, length-set, take_all, Bor}
use Rattle.std.specs.List.{slice_get}
use Rattle.std.proofs.lemmas.List.{get_or-set_same, get_or-set_other}
use Rattle.std.proofs.lemmas.Option.{slice_get-get_or}
use Rattle.std.proofs.lemmas.Bool.{cases_eq, eq-eqb, ne_eqb, eqb-true, cond_both, and_parts, and_from, both_ways}
use Rattle.std.proofs.lemmas.Bool.Decides.{nat_tests}
use Rattle.domain.specs.Limits.{periods}
use Rattle.domain.specs.Slots.{reading_slot, reading_slots, issued_slots}
use Rattle.domain.specs.Checks.{unless, and_then, settled, is_day, is_place, is_period, is_supplier, reading_at, slot_at, no_reading}
use Rattle.domain.specs.declared.AllocationRow.{AllocationRow}
use Rattle.domain.specs.declared.Reading.{Reading}
use Rattle.domain.specs.declared.Table.{Table}
use Rattle.domain.specs.declared.Table.TheVariants.{Holders, Rows}
use Rattle.domain.specs.declared.Fault.{Fault}
use Rattle.domain.specs.declared.Fault.TheVariants.{ArgumentOutsideLimits}
use Rattle.domain.specs.declared.terms.Terms.{Terms}
use Rattle.rules.specs.Meaning.{Meaning}
use Rattle.history.specs.declared.Dated.{Dated}
use Rattle.history.specs.Latest.{or_else}
use Rattle.history.specs.Entries.{keyed}
use Rattle.history.specs.Puts.{put_one, put_day, holding, room_for, holding_if}
use Rattle.history.proofs.Placing.{take-holding}
use Rattle.history.proofs.Putting.{keyed_put, keyed_day}
use Rattle.book.specs.Sharing as sharing
use Rattle.book.specs.Readings.{with_reading}
use Rattle.season.specs.declared.Call.TheVariants as call
use Rattle.season.specs.Plain.{Plain, at, at_both, row_of, slot_of, plain_step}
use Rattle.season.specs.Steps.{State, registered, scheduled, read, ended}

-- a slot of readings says what was read: nothing where it is empty
abbrev pub ReadAs : Reading → Option ℕ → Type 0
ReadAs r None = r.quality ≡ 0
ReadAs r (Some kwh) = r.kwh ≡ kwh

pub record Agrees (t : Terms) (st : State) (b : Plain) : Type 0 where
  pub holders_room : st.kept.holders ≤ length st.holders
  pub rows_room : st.kept.rows ≤ length st.rows
  pub lines_room : st.kept.lines ≤ length st.journal
  pub readings_size : length st.readings ≡ reading_slots t.days
  pub issued_size : length st.issued ≡ issued_slots t.places t.days
  pub registered : (place day : ℕ) → keyed (take st.kept.holders st.holders) place day ≡ b.registered place day
  pub scheduled : (period day : ℕ) → is_period period ≡ true → keyed (take st.kept.rows st.rows) period day ≡ row_of period (b.scheduled day)
  -- a schedule that was accepted has a row for each period
  pub full : (day : ℕ) (rows : List AllocationRow) → b.scheduled day ≡ Some rows → length rows ≡ periods
  pub read : (day period : ℕ) → is_day t day ≡ true → is_period period ≡ true → ReadAs (reading_at st.readings day period) (b.read day period)
  pub ended : st.kept.ended ≡ b.ended
  pub slots : (day period place : ℕ) → is_day t day ≡ true → is_period period ≡ true → place < t.places → slot_at t st.issued day period place ≡ slot_of (b.written day period) place
  pub lines : take st.kept.lines st.journal ≡ b.lines

-- a period's row stands in a schedule
pub slot_below : (p n : ℕ) → n ≡ periods → is_period p ≡ true → p - 1 < n
slot_below p n long within = let most : p ≤ periods = grind (arith, nat_tests) in let least : 1 ≤ p = grind (arith, nat_tests) in omega arith

-- and its reading in the table of readings
slot_within : (t : Terms) (d p n : ℕ) → n ≡ reading_slots t.days → is_day t d ≡ true → is_period p ≡ true → reading_slot d p < n
slot_within t d p n size isd isp =
    let day : d < t.days = grind (arith, nat_tests) in
    let most : p ≤ periods = grind (arith, nat_tests) in
    let least : 1 ≤ p = grind (arith, nat_tests) in
    omega arith

-- two half hours have two slots
slot_apart : (day period d p : ℕ) → is_period period ≡ true → is_period p ≡ true → (eqb day d && eqb period p) ≡ false → reading_slot d p ≡ reading_slot day period → ⊥
slot_apart day period d p isp isp' differs e =
    let a : period ≤ periods = grind (arith, nat_tests) in
    let c : 1 ≤ period = grind (arith, nat_tests) in
    let a' : p ≤ periods = grind (arith, nat_tests) in
    let c' : 1 ≤ p = grind (arith, nat_tests) in
    let same-day : day ≡ d = omega arith in
    let same_period : period ≡ p = omega arith in
    both_ways (eqb day d && eqb period p) differs (and_from (eqb day d) (eqb period p) (eq-eqb day d same-day) (eq-eqb period p same_period))

-- a check that was passed held, and what came next was accepted
pub unless_ok : {A : Type 0} (holds : Bool) (fault : Fault) (rest : Result A Fault) (x : A) → unless holds fault rest ≡ Ok x → (holds ≡ true) × (rest ≡ Ok x)
unless_ok true fault rest x e = (refl, e)
unless_ok false fault rest x e = absurd cc

pub then_ok : {A B : Type 0} (first : Result A Fault) (rest : A → Result B Fault) (x : B) → and_then first rest ≡ Ok x → (y : A) × (first ≡ Ok y) × (rest y ≡ Ok x)
then_ok (Ok y) rest x e = (y, refl, e)
then_ok (Err f) rest x e = absurd cc

module _ {T : Type 0} (entries h : List (Dated T)) (table : Table) (count n : ℕ) where
  -- there was room
  pub room_ok : room_for entries table count h ≡ Ok n → (n ≡ length h) × (length h ≤ length entries)
  room_ok e = grind (arith, nat_tests)

  pub length-holding : length h ≤ length entries → length (holding h entries) ≡ length entries
  length-holding fits = simp (length-append, length-drop) (omega arith)

module _ (t : Terms) (m : Meaning) (st : State) (b : Plain) (h : Agrees t st b) where
  module _ (place day supplier : ℕ) where
    abbrev held : List (Dated ℕ)
    held = put_one (take st.kept.holders st.holders) (sharing.holding place day supplier)

    -- the table says of each place and day what the plain book says after the register
    put_says : (q d : ℕ) → keyed held q d ≡ at_both b.registered place day (Some supplier) q d
    put_says q d =
        keyed_put (take st.kept.holders st.holders) (sharing.holding place day supplier) q d
        ∙ ap (λ (o : Option ℕ). cond (eqb place q && eqb day d) (Some supplier) o) (h.registered q d)

    pub agrees_register : (r : Result ℕ Fault) → r ≡ registered t m st place day supplier → Agrees t (record {
      kept = sharing.with_holders r st.kept;
      holders = holding_if r held st.holders;
      rows = st.rows;
      readings = st.readings;
      issued = st.issued;
      journal = st.journal;
    }) (plain_step t m b (call.Register place day supplier) (is_ok r))
    agrees_register (Err f) e = h
    agrees_register (Ok n) e =
        let a = unless_ok (is_place t place) (ArgumentOutsideLimits 1) _ n (sym e) in
        let c = unless_ok (is_day t day) (ArgumentOutsideLimits 2) _ n a.1 in
        let d = unless_ok (is_supplier supplier) (ArgumentOutsideLimits 3) _ n c.1 in
        let room = room_ok st.holders held Holders st.kept.holders n d.1 in
        let front = take-holding held st.holders n room.0 in
        let size = length-holding st.holders held Holders st.kept.holders n room.1 in
        record {
          holders_room = omega (arith, room.0, room.1, size);
          rows_room = h.rows_room;
          lines_room = h.lines_room;
          readings_size = h.readings_size;
          issued_size = h.issued_size;
          registered = λ q k. ap (λ (x : List (Dated ℕ)). keyed x q k) front ∙ put_says q k;
          scheduled = h.scheduled;
          full = h.full;
          read = h.read;
          ended = h.ended;
          slots = h.slots;
          lines = h.lines;
        }

  module _ (sender day moment : ℕ) (lent : Bor (List AllocationRow)) where
    abbrev laid : List (Dated AllocationRow)
    laid = put_day (take st.kept.rows st.rows) day lent.now

    -- the table says of each period and day what the plain book says after the schedule
    day_says : length lent.now ≡ periods → (p d : ℕ) → is_period p ≡ true → keyed laid p d ≡ row_of p (at b.scheduled day (Some lent.now) d)
    day_says long p d within =
        let rows = lent.now in
        let before = keyed (take st.kept.rows st.rows) p d in
        let all : take periods rows ≡ rows = take_all periods rows (omega (arith, long)) in
        let said = keyed_day (take periods rows) (take st.kept.rows st.rows) day 1 p d ∙ ap (λ (xs : List AllocationRow). or_else (cond (eqb d day && leb 1 p) (slice_get xs (p - 1)) None) before) all in
        ⊎_elim
        (λ (e : d ≡ day).
        let yes = eq-eqb d day e in
        let one : leb 1 p ≡ true = grind (arith, nat_tests) in
        let some = slice_get-get_or rows (p - 1) (record { method = 0; balance = 0; nominations = [] }) (slot_below p (length rows) long within) in
        said
        ∙ ap (λ (c : Bool). or_else (cond (c && leb 1 p) (slice_get rows (p - 1)) None) before) yes
        ∙ ap (λ (c : Bool). or_else (cond c (slice_get rows (p - 1)) None) before) one
        ∙ ap (λ (o : Option AllocationRow). or_else o before) some
        ∙ sym some
        ∙ sym (ap (λ (c : Bool). row_of p (cond c (Some rows) (b.scheduled d))) yes))
        (λ (e : d ≡ day → ⊥).
        let other = ne_eqb d day e in
        said
        ∙ ap (λ (c : Bool). or_else (cond (c && leb 1 p) (slice_get rows (p - 1)) None) before) other
        ∙ h.scheduled p d within
        ∙ sym (ap (λ (c : Bool). row_of p (cond c (Some rows) (b.scheduled d))) other))
        (cases_eq d day)

    -- and each schedule that was accepted has a row for each period
    still_full : length lent.now ≡ periods → (d : ℕ) (xs : List AllocationRow) → at b.scheduled day (Some lent.now) d ≡ Some xs → length xs ≡ periods
    still_full long d xs =
        cond_both (eqb d day) (Some lent.now) (b.scheduled d) (λ o. o ≡ Some xs → length xs ≡ periods)
        (λ yes e. let same : lent.now ≡ xs = cc in ap length (sym same) ∙ long)
        (λ other e. h.full d xs e)

    pub agrees_schedule : (r : Result ℕ Fault) → r ≡ scheduled t m st sender day moment lent.now → Agrees t (record {
      kept = sharing.with_rows r st.kept;
      holders = st.holders;
      rows = holding_if r laid st.rows;
      readings = st.readings;
      issued = st.issued;
      journal = st.journal;
    }) (plain_step t m b (call.Schedule sender day moment lent) (is_ok r))
    agrees_schedule (Err f) e = h
    agrees_schedule (Ok n) e =
        let a = then_ok (sharing.schedule_admit m t st.kept st.holders st.rows sender day moment lent.now) (λ _. room_for st.rows Rows st.kept.rows laid) n (sym e) in
        let c = unless_ok (is_supplier sender) (ArgumentOutsideLimits 1) _ a.0 a.1 in
        let d = unless_ok (is_day t day) (ArgumentOutsideLimits 2) _ a.0 c.1 in
        let k = unless_ok (eqb (length lent.now) periods) (ArgumentOutsideLimits 4) _ a.0 d.1 in
        let long = eqb-true (length lent.now) periods k.0 in
        let room = room_ok st.rows laid Rows st.kept.rows n a.2 in
        let front = take-holding laid st.rows n room.0 in
        let size = length-holding st.rows laid Rows st.kept.rows n room.1 in
        record {
          holders_room = h.holders_room;
          rows_room = omega (arith, room.0, room.1, size);
          lines_room = h.lines_room;
          readings_size = h.readings_size;
          issued_size = h.issued_size;
          registered = h.registered;
          scheduled = λ p x within. ap (λ (u : List (Dated AllocationRow)). keyed u p x) front ∙ day_says long p x within;
          full = still_full long;
          read = h.read;
          ended = h.ended;
          slots = h.slots;
          lines = h.lines;
        }

  module _ (day period quality kwh : ℕ) where
    -- each slot says what was read, the new one too
    read_says : is_day t day ≡ true → is_period period ≡ true → (d p : ℕ) → is_day t d ≡ true → is_period p ≡ true → ReadAs (reading_at (with_reading st.readings day period quality kwh) d p) (at_both b.read day period (Some kwh) d p)
    read_says isd isp d p isd' isp' =
        let old = st.readings in
        let new : Reading = record { quality = quality; kwh = kwh } in
        let P : Reading → Type 0 = λ r. ReadAs r (b.read d p) in
        cond_both (eqb day d && eqb period p) (Some kwh) (b.read d p) (λ o. ReadAs (reading_at (with_reading old day period quality kwh) d p) o)
        (λ hits.
        let both = and_parts (eqb day d) (eqb period p) hits in
        let slot : reading_slot d p ≡ reading_slot day period = omega (arith, eqb-true day d both.0, eqb-true period p both.1) in
        ap (λ (i : ℕ). (get_or (set old (reading_slot day period) new) i no_reading).kwh) slot ∙ ap (λ (r : Reading). r.kwh) (get_or-set_same old (reading_slot day period) new no_reading (slot_within t day period (length old) h.readings_size isd isp)))
        (λ misses.
        let apart : reading_slot d p ≡ reading_slot day period → ⊥ = λ e. slot_apart day period d p isp isp' misses e in
        subst P (sym (get_or-set_other old (reading_slot day period) (reading_slot d p) new no_reading apart)) (h.read d p isd' isp'))

    pub agrees_reading : (r : Result Unit Fault) → r ≡ read t m st day period quality kwh → Agrees t (record {
      kept = st.kept;
      holders = st.holders;
      rows = st.rows;
      readings = settled r (with_reading st.readings day period quality kwh) st.readings;
      issued = st.issued;
      journal = st.journal;
    }) (plain_step t m b (call.Reading day period quality kwh) (is_ok r))
    agrees_reading (Err f) e = h
    agrees_reading (Ok x) e =
        let a = unless_ok (is_day t day) (ArgumentOutsideLimits 1) _ x (sym e) in
        let c = unless_ok (is_period period) (ArgumentOutsideLimits 2) _ x a.1 in
        record {
          holders_room = h.holders_room;
          rows_room = h.rows_room;
          lines_room = h.lines_room;
          readings_size = length-set st.readings (reading_slot day period) (record { quality = quality; kwh = kwh }) ∙ h.readings_size;
          issued_size = h.issued_size;
          registered = h.registered;
          scheduled = h.scheduled;
          full = h.full;
          read = read_says a.0 c.0;
          ended = h.ended;
          slots = h.slots;
          lines = h.lines;
        }

  module _ (sender day moment : ℕ) where
    pub agrees_end : (r : Result Unit Fault) → r ≡ ended t m st sender day moment → Agrees t (record {
      kept = settled r (sharing.ended_from day st.kept) st.kept;
      holders = st.holders;
      rows = st.rows;
      readings = st.readings;
      issued = st.issued;
      journal = st.journal;
    }) (plain_step t m b (call.End sender day moment) (is_ok r))
    agrees_end (Err f) e = h
    agrees_end (Ok x) e = record {
      holders_room = h.holders_room;
      rows_room = h.rows_room;
      lines_room = h.lines_room;
      readings_size = h.readings_size;
      issued_size = h.issued_size;
      registered = h.registered;
      scheduled = h.scheduled;
      full = h.full;
      read = h.read;
      ended = refl;
      slots = h.slots;
      lines = h.lines;
    }
