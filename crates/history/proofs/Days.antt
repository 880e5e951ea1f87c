-- The puts of one day, item by item.
use Rattle.std.proofs.Common.{◌≡◌, subst, min, not, count_by, None, ℕ, zero, suc, ◌+◌, ◌<◌, ◌≤◌, Bool, true, false, cond, List, [], ◌∷◌, ◌++◌, length, get_or, take, drop, is_some, Option, sym, refl, ap, ◌∙◌, arith}
use Rattle.std.proofs.lemmas.List.{take_more, take_all, take_min, length-take, length-take-le, take-append-drop}
use Rattle.std.proofs.lemmas.List.Sums.{count_by_more_yes, count_by_more_no}
use Rattle.domain.specs.Limits.{periods}
use Rattle.history.specs.Entries.{found}
use Rattle.history.specs.Puts.{put_one, put_all, on_day, holding}
use Rattle.history.specs.declared.Dated.{Dated}
use Rattle.history.proofs.Putting.{length_put, put_longer, found_day_other}
use Rattle.history.proofs.Placing.{take-holding, holding_again}

pub one_at_most : (b : Bool) → cond b 0 1 ≤ 1
one_at_most true = omega arith
one_at_most false = omega arith

-- how many of those up to i are none, and of one more
count_more : (at : List (Option ℕ)) (i : ℕ) → i < length at → count_by (λ o. not (is_some o)) (take (i + 1) at) ≡ count_by (λ o. not (is_some o)) (take i at) + cond (is_some (get_or at i None)) 0 1
count_more at i within = go (is_some (get_or at i None)) refl
  where
    go : (b : Bool) → is_some (get_or at i None) ≡ b → count_by (λ o. not (is_some o)) (take (i + 1) at) ≡ count_by (λ o. not (is_some o)) (take i at) + cond b 0 1
    go true e = count_by_more_no (λ (o : Option ℕ). not (is_some o)) at i None within (ap not e) ∙ (omega arith)
    go false e = count_by_more_yes (λ (o : Option ℕ). not (is_some o)) at i None within (ap not e)

-- an element of the list, at an index within it
item_at : {X : Type 0} (xs : List X) (i : ℕ) → i < length xs → (x : X) × (x ≡ get_or xs i x)
item_at [] i h = absurd (omega arith)
item_at (y ∷ ys) zero h = (y, refl)
item_at (y ∷ ys) (suc i) h = item_at ys i (omega arith)

module _ {T : Type 0} where
  put_append : (t xs ys : List (Dated T)) → put_all t (xs ++ ys) ≡ put_all (put_all t xs) ys
  put_append t [] ys = refl
  put_append t (x ∷ xs) ys = put_append (put_one t x) xs ys

  put_all_longer : (t xs : List (Dated T)) → length t ≤ length (put_all t xs)
  put_all_longer t [] = omega arith
  put_all_longer t (x ∷ xs) =
      let one = put_longer t x in
      let rest = put_all_longer (put_one t x) xs in
      omega arith

  day_append : (d s : ℕ) (xs ys : List T) → on_day d s (xs ++ ys) ≡ on_day d s xs ++ on_day d (s + length xs) ys
  unfolding on_day
  day_append d s [] ys = ap (λ (n : ℕ). on_day d n ys) (omega arith)
  day_append d s (x ∷ xs) ys =
      let first : Dated T = record { subject = s; day = d; entry = x } in
      let next : suc s + length xs ≡ s + suc (length xs) = omega arith in
      ap (λ (l : List (Dated T)). first ∷ l) (day_append d (suc s) xs ys ∙ ap (λ (n : ℕ). on_day d (suc s) xs ++ on_day d n ys) next)

  day_one : (d s : ℕ) (x : T) → on_day d s (x ∷ []) ≡ record { subject = s; day = d; entry = x } ∷ []
  unfolding on_day
  day_one d s x = refl

  module _ (t : List (Dated T)) (d : ℕ) (items : List T) where
    pub day_none : put_all t (on_day d 1 (take 0 items)) ≡ t
    unfolding on_day
    day_none = refl

    -- one item more
    pub day_step : (i : ℕ) (x : T) → i < length items → x ≡ get_or items i x → put_all t (on_day d 1 (take (i + 1) items)) ≡ put_one (put_all t (on_day d 1 (take i items))) (record { subject = i + 1; day = d; entry = x })
    day_step i x within is =
        let more : take (i + 1) items ≡ take i items ++ x ∷ [] = take_more items i x within ∙ ap (λ (y : T). take i items ++ y ∷ []) (sym is) in
        let n : 1 + length (take i items) ≡ i + 1 = omega (arith, length-take-le i items (omega arith)) in
        ap (λ (l : List T). put_all t (on_day d 1 l)) more ∙ ap (put_all t) (day_append d 1 (take i items) (x ∷ []) ∙ ap (λ (l : List (Dated T)). on_day d 1 (take i items) ++ l) (ap (λ (m : ℕ). on_day d m (x ∷ [])) n ∙ day_one d (i + 1) x)) ∙ put_append t (on_day d 1 (take i items)) (record { subject = i + 1; day = d; entry = x } ∷ [])

    -- an item's entry is found where it was before the items of earlier subjects were put
    pub day_before : (i : ℕ) → i ≤ length items → found (put_all t (on_day d 1 (take i items))) (i + 1) d ≡ found t (i + 1) d
    day_before i within =
        let size = length-take-le i items within in
        found_day_other (take i items) t d 1 (i + 1) d (λ p l m. omega arith)

    pub day_count : (i : ℕ) → i < length items → length (put_all t (on_day d 1 (take (i + 1) items))) ≡ length (put_all t (on_day d 1 (take i items))) + cond (is_some (found t (i + 1) d)) 0 1
    day_count i within =
        let at = item_at items i within in
        let h = put_all t (on_day d 1 (take i items)) in
        ap length (day_step i at.0 within at.1) ∙ length_put h (record { subject = i + 1; day = d; entry = at.0 }) ∙ ap (λ (o : Option ℕ). length h + cond (is_some o) 0 1) (day_before i (omega arith))

    -- as many more are held as there are items whose entries are not found
    pub day_needed : (at : List (Option ℕ)) → ((k : ℕ) → k < length items → get_or at k None ≡ found t (k + 1) d) → length items ≤ length at → (i : ℕ) → i ≤ length items → length (put_all t (on_day d 1 (take i items))) ≡ length t + count_by (λ o. not (is_some o)) (take i at)
    day_needed at is few zero h = ap length day_none ∙ (omega arith)
    day_needed at is few (suc i) h =
        let within : i < length items = omega arith in
        let before = day_needed at is few i (omega arith) in
        let step = day_count i within in
        let new = count_more at i (omega arith) in
        let same : cond {A = ℕ} (is_some (get_or at i None)) 0 1 ≡ cond {A = ℕ} (is_some (found t (i + 1) d)) 0 1 = ap (λ (o : Option ℕ). cond {A = ℕ} (is_some o) 0 1) (is i within) in
        let P : ℕ → Type 0 = λ n. length (put_all t (on_day d 1 (take n items))) ≡ length t + count_by (λ o. not (is_some o)) (take n at) in
        let next : i + 1 ≡ suc i = omega arith in
        let more : P (i + 1) = omega arith in
        subst P next more

    -- the same for all of them
    pub all_needed : (at : List (Option ℕ)) {count n : ℕ} → ((k : ℕ) → k < length items → get_or at k None ≡ found t (k + 1) d) → length items ≤ length at → count ≡ length t → n ≡ count_by (λ o. not (is_some o)) (take (length items) at) → count + n ≡ length (put_all t (on_day d 1 items))
    all_needed at is few held counted =
        let all : take (length items) items ≡ items = take_all (length items) items (omega arith) in
        let needed = day_needed at is few (length items) (omega arith) in
        let same : length (put_all t (on_day d 1 (take (length items) items))) ≡ length (put_all t (on_day d 1 items)) = ap (λ (l : List T). length (put_all t (on_day d 1 l))) all in
        omega arith

    -- the entries held grow with the items
    pub day_grows : (i : ℕ) → i ≤ length items → length (put_all t (on_day d 1 (take i items))) ≤ length (put_all t (on_day d 1 items))
    day_grows i within =
        let front = take i items in
        let back = drop i items in
        let whole : on_day d 1 items ≡ on_day d 1 front ++ on_day d (1 + length front) back = ap (on_day d 1) (sym (take-append-drop i items)) ∙ day_append d 1 front back in
        let split : put_all t (on_day d 1 items) ≡ put_all (put_all t (on_day d 1 front)) (on_day d (1 + length front) back) = ap (put_all t) whole ∙ put_append t (on_day d 1 front) (on_day d (1 + length front) back) in
        rw split (put_all_longer (put_all t (on_day d 1 front)) (on_day d (1 + length front) back))

  -- a loop that writes the items into the table e, of whose entries `count` are held: at the item i the table is u, and n entries are held
  module _ (e : List (Dated T)) (count d : ℕ) (items : List T) where
    -- the entries held at the item i
    abbrev pub held_at : ℕ → List (Dated T)
    held_at i = put_all (take count e) (on_day d 1 (take i items))

    pub turn_start : count ≤ length e → (count ≡ length (held_at 0)) × (e ≡ holding (held_at 0) e)
    turn_start held =
        let size : length (take count e) ≡ count = length-take-le count e held in
        let none : held_at 0 ≡ take count e = day_none (take count e) d items in
        (sym (ap length none ∙ size), sym (ap (λ (h : List (Dated T)). holding h e) none ∙ ap (λ (n : ℕ). take count e ++ drop n e) size ∙ take-append-drop count e))

    module _ (i n : ℕ) (u : List (Dated T)) (ended : n ≡ length (held_at i)) (is : u ≡ holding (held_at i) e) where
      turn_held : take n u ≡ held_at i
      turn_held = ap (take n) is ∙ take-holding (held_at i) e n ended

      -- an item's entry is found where it was at the start
      pub turn_found : i < length items → found (take n u) (i + 1) d ≡ found (take count e) (i + 1) d
      turn_found within =
          ap (λ (t : List (Dated T)). found t (i + 1) d) turn_held ∙ day_before (take count e) d items i (omega arith)

      module _ (x : T) (within : i < length items) (at : x ≡ get_or items i x) where
        turn_put : put_one (take n u) (record { subject = i + 1; day = d; entry = x }) ≡ held_at (i + 1)
        turn_put =
            ap (λ (t : List (Dated T)). put_one t (record { subject = i + 1; day = d; entry = x })) turn_held ∙ sym (day_step (take count e) d items i x within at)

        pub turn_room : length (put_one (take n u) (record { subject = i + 1; day = d; entry = x })) ≤ length (put_all (take count e) (on_day d 1 items))
        turn_room = rw turn_put (day_grows (take count e) d items (i + 1) (omega arith))

        pub turn_again : {m : ℕ} {v : List (Dated T)} → m ≡ length (put_one (take n u) (record { subject = i + 1; day = d; entry = x })) → v ≡ holding (put_one (take n u) (record { subject = i + 1; day = d; entry = x })) u → (m ≡ length (held_at (i + 1))) × (v ≡ holding (held_at (i + 1)) e)
        turn_again count' after =
            let grows : length (held_at i) ≤ length (held_at (i + 1)) = omega (arith, day_count (take count e) d items i within) in
            (count' ∙ ap length turn_put, after ∙ ap (λ (h : List (Dated T)). holding h u) turn_put ∙ ap (holding (held_at (i + 1))) is ∙ holding_again (held_at i) (held_at (i + 1)) e grows)

-- the items of a day, no more than it has periods, and how many entries are held once they are put
module _ {T : Type 0} (all : List T) (m : ℕ) (first : m ≡ min periods (length all)) where
  pub day_is : take m all ≡ take periods all
  day_is = ap (λ (n : ℕ). take n all) first ∙ take_min periods all

  pub day_few : length (take m all) ≤ periods
  day_few = omega (arith, length-take m all, first)

  pub needed_after : (e t : List (Dated T)) (count d n : ℕ) (at : List (Option ℕ)) → count ≤ length e → t ≡ take count e → length at ≡ periods → ((k : ℕ) → k < periods → get_or at k None ≡ found t (k + 1) d) → n ≡ count_by (λ o. not (is_some o)) (take (length (take m all)) at) → count + n ≡ length (put_all (take count e) (on_day d 1 (take m all)))
  needed_after e t count d n at held is size each counted =
      let few = day_few in
      all_needed (take count e) d (take m all) at (λ k h. each k (omega arith) ∙ ap (λ (u : List (Dated T)). found u (k + 1) d) is) (omega arith) (sym (length-take-le count e held)) counted
