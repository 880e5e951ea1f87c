-- A put as a write to the table.
use Rattle.std.proofs.Common.{◌≡◌, ℕ, suc, ◌+◌, ◌-◌, ◌<◌, ◌≤◌, true, false, cond, ltb, List, [], ◌∷◌, ◌++◌, length, take, drop, set, is_some, IfSome, Some, None, Ok, Err, Option, Result, sym, refl, ap, ◌∙◌, ⊎_elim, arith, MatchOption}
use Rattle.std.specs.Option.{unwrap_or}
use Rattle.domain.specs.declared.Table.{Table}
use Rattle.domain.specs.declared.Fault.{Fault}
use Rattle.domain.specs.declared.Fault.TheVariants.{HistoryFull}
use Rattle.std.proofs.lemmas.List.{append_assoc, length-set, length-take-le, length_push, take-append-drop, set-append_left, set_split, take_at, drop_at, drop-drop}
use Rattle.std.proofs.lemmas.Option.{slice_get_past}
use Rattle.std.proofs.lemmas.Bool.{cases_lt, lt-ltb, le-ltb}
use Rattle.history.specs.Entries.{found, in_force}
use Rattle.history.specs.Questions.{Stands, NoneOn, FirstOn, NoneDue, InForce}
use Rattle.history.specs.Puts.{put_one, holding, room_for}
use Rattle.history.specs.declared.Dated.{Dated}
use Rattle.history.proofs.Latests.{some_is_not_none}
use Rattle.history.proofs.Answered.{found_first, found_says, in_force_says}
use Rattle.history.proofs.Putting.{placed, put_placed, length_put}

module _ {T : Type 0} where
  -- what stands in the table is within it
  stands_within : (t : List (Dated T)) (i : ℕ) (x : Dated T) → Stands t i x → i < length t
  stands_within t i x at =
      ⊎_elim
      (λ (l : i < length t). l)
      (λ (l : length t ≤ i). absurd (some_is_not_none at (slice_get_past t i l)))
      (cases_lt i (length t))

  pub found_within : (t : List (Dated T)) (s d i : ℕ) → found t s d ≡ Some i → i < length t
  found_within t s d i h =
      let on = found_first t s d i h in
      stands_within t i on.dated on.stands

  pub found_within_says : (t : List (Dated T)) (s d : ℕ) → IfSome (found t s d) (λ i. i < length t)
  found_within_says t s d = go (found t s d) (found_says t s d)
    where
      go : (o : Option ℕ) → MatchOption o (NoneOn t s d) (FirstOn t s d) → IfSome o (λ i. i < length t)
      go None h = tt
      go (Some i) h = stands_within t i h.dated h.stands

  pub in_force_within : (t : List (Dated T)) (s d : ℕ) → IfSome (in_force t s d) (λ i. i < length t)
  in_force_within t s d = go (in_force t s d) (in_force_says t s d)
    where
      go : (o : Option ℕ) → MatchOption o (NoneDue t s d) (InForce t s d) → IfSome o (λ i. i < length t)
      go None h = tt
      go (Some i) h = stands_within t i h.dated h.stands

  module _ (entries : List (Dated T)) (count : ℕ) (x : Dated T) (held : count ≤ length entries) where
    size : length (take count entries) ≡ count
    size = length-take-le count entries held

    pub found_in_table : (s d i : ℕ) → found (take count entries) s d ≡ Some i → i < length entries
    found_in_table s d i h =
        let within = found_within (take count entries) s d i h in
        let long = size in
        omega arith

    -- an entry that was found is written over
    pub put_over : (i : ℕ) → found (take count entries) x.subject x.day ≡ Some i → (length (put_one (take count entries) x) ≡ count) × (set entries i x ≡ holding (put_one (take count entries) x) entries)
    put_over i h =
        let t = take count entries in
        let put : put_one t x ≡ set t i x = put_placed t x ∙ ap (λ (o : Option ℕ). placed t o x) h in
        let long : length (set t i x) ≡ count = length-set t i x ∙ size in
        let split : set entries i x ≡ set t i x ++ drop count entries = ap (λ (l : List (Dated T)). set l i x) (sym (take-append-drop count entries)) ∙ set-append_left t (drop count entries) i x (found_within t x.subject x.day i h) in
        (ap length put ∙ long, split ∙ sym (ap (λ (l : List (Dated T)). holding l entries) put ∙ ap (λ (n : ℕ). set t i x ++ drop n entries) long))

    -- one that was not found is written behind the entries held
    pub put_behind : found (take count entries) x.subject x.day ≡ None → (length (put_one (take count entries) x) ≡ count + 1) × (count < length entries → set entries count x ≡ holding (put_one (take count entries) x) entries)
    put_behind h =
        let t = take count entries in
        let put : put_one t x ≡ t ++ x ∷ [] = put_placed t x ∙ ap (λ (o : Option ℕ). placed t o x) h in
        let long : length (t ++ x ∷ []) ≡ count + 1 = length_push t x ∙ ap (λ (n : ℕ). n + 1) size in
        let next : count + 1 ≡ suc count = omega arith in
        (ap length put ∙ long, λ l. set_split entries count x l ∙ sym (ap (λ (l : List (Dated T)). holding l entries) put ∙ ap (λ (n : ℕ). (t ++ x ∷ []) ++ drop n entries) (long ∙ next) ∙ append_assoc t (x ∷ []) (drop (suc count) entries)))

    -- so it is written where it was found, or else behind them
    pub put_there : (o : Option ℕ) → o ≡ found (take count entries) x.subject x.day → length (put_one (take count entries) x) ≤ length entries → (unwrap_or o count < length entries) × (set entries (unwrap_or o count) x ≡ holding (put_one (take count entries) x) entries)
    put_there (Some i) is room = (found_in_table x.subject x.day i (sym is), (put_over i (sym is)).1)
    put_there None is room = let put = put_behind (sym is) in (omega arith, put.1 (omega arith))

  -- the entries held can be read back
  pub take-holding : (h entries : List (Dated T)) (n : ℕ) → n ≡ length h → take n (holding h entries) ≡ h
  take-holding h entries n e = take_at h (drop (length h) entries) n (sym e)

  -- a table that was written twice holds what was written last, where that is no shorter
  pub holding_again : (h h' entries : List (Dated T)) → length h ≤ length h' → holding h' (holding h entries) ≡ holding h' entries
  holding_again h h' entries l =
      let n = length h in
      let m = length h' in
      let sum : n + (m - n) ≡ m = omega arith in
      let past : drop n (h ++ drop n entries) ≡ drop n entries = drop_at h (drop n entries) n refl in
      let first : drop m (h ++ drop n entries) ≡ drop (m - n) (drop n (h ++ drop n entries)) = sym (drop-drop (m - n) n (h ++ drop n entries) ∙ ap (λ (k : ℕ). drop k (h ++ drop n entries)) sum) in
      let last : drop (m - n) (drop n entries) ≡ drop m entries = drop-drop (m - n) n entries ∙ ap (λ (k : ℕ). drop k entries) sum in
      ap (λ (l : List (Dated T)). h' ++ l) (first ∙ ap (drop (m - n)) past ∙ last)

  -- how many entries are held after a put, by whether its entry was found
  pub count_after : (entries : List (Dated T)) (count : ℕ) (x : Dated T) {n : ℕ} {o : Option ℕ} → count ≤ length entries → o ≡ found (take count entries) x.subject x.day → n ≡ count + cond (is_some o) 0 1 → n ≡ length (put_one (take count entries) x)
  count_after entries count x held is e =
      e ∙ ap (λ (o : Option ℕ). count + cond (is_some o) 0 1) is ∙ sym (length_put (take count entries) x ∙ ap (λ (n : ℕ). n + cond (is_some (found (take count entries) x.subject x.day)) 0 1) (length-take-le count entries held))

  -- the answer where there is no room, and where there is
  pub no_room_for : (entries h : List (Dated T)) (table : Table) (count n : ℕ) → count ≤ length entries → n ≡ length h → length entries < n → ◌≡◌ {A = Result ℕ Fault} (Err (HistoryFull n)) (room_for entries table count h)
  no_room_for entries h table count n held is short =
      let counted : ltb (length entries) count ≡ false = le-ltb (length entries) count held in
      let full : ltb (length entries) (length h) ≡ true = lt-ltb (length entries) (length h) (omega arith) in
      rw (counted, full, is)

  pub room_for_lem : (entries h : List (Dated T)) (table : Table) (count n : ℕ) → count ≤ length entries → n ≡ length h → n ≤ length entries → ◌≡◌ {A = Result ℕ Fault} (Ok n) (room_for entries table count h)
  room_for_lem entries h table count n held is room =
      let counted : ltb (length entries) count ≡ false = le-ltb (length entries) count held in
      let fits : ltb (length entries) (length h) ≡ false = le-ltb (length entries) (length h) (omega arith) in
      rw (counted, fits, is)
