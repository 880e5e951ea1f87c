-- Records one after the other: their bytes, one more record, and a record by its place.
use Rattle.std.specs.Prelude.{◌≡◌, ℕ, zero, suc, ◌+◌, ◌-◌, ◌*◌, ◌/◌, ◌<◌, ◌≤◌, List, [], ◌∷◌, ◌++◌, length, take, drop, Option, Some, None, slice_index, slice_index_or, slice_set, refl}
use Rattle.std.proofs.Common.{sym, ap, subst, ◌∙◌, append_assoc, add-mul, mul-le-mul_right, zero-mul, one-mul, div-mul-le_self, arith, length-append, length-drop, Fits}
use Rattle.std.specs.Int.{w8}
use borrow.Rule.Slice.PartMut.{put_mid}
use Rattle.std.specs.List.{flat_map, AllByRecursion, slice_get}
use Rattle.std.proofs.Math.Nat.{div-eq-sub-div, div-eq_of_lt, div-le_self, mul-div_cancel}
use Rattle.std.proofs.lemmas.Option.{slice_get_past}
use Rattle.std.proofs.lemmas.Iterator.{YieldsList}
use Rattle.std.proofs.lemmas.Iterator.Consumers.{YieldsList-from_shown}
use Rattle.files.specs.Bytes.{Bytes, unpacked, records_in, TakesRecord}
use Rattle.files.specs.declared.records.RecordIter.{RecordIter}
use Rattle.std.proofs.lemmas.List.{take_more, take_at, drop_at, drop-drop, length-take-le, flat_map_more, nil_from_length, take-append-drop, take_more_set, take-take, drop-take}
use Rattle.std.proofs.ByRecursion.{All-from_get_or, All-take, All-drop}

pub one_more : (i s : ℕ) → (i + 1) * s ≡ i * s + s
one_more i s = add-mul i 1 s ∙ ap (λ m. i * s + m) (one-mul s)

pub length_joined : {X : Type 0} (e : X → List ℕ) (s : ℕ) (W : X → Type 0) → ((x : X) → W x → length (e x) ≡ s) → (xs : List X) → AllByRecursion W xs → length (flat_map e xs) ≡ length xs * s
length_joined e s W long [] all = sym (zero-mul s)
length_joined e s W long (x ∷ xs) all =
    let rest = length_joined e s W long xs all.1 in
    let here = long x all.0 in
    let more = one_more (length xs) s in
    let split = length-append (e x) (flat_map e xs) in
    let next : suc (length xs) * s ≡ (length xs + 1) * s = ap (λ n. n * s) (omega arith) in
    omega arith

-- one record more of a list that is read
pub unpacked_more : {X : Type 0} (d : List ℕ → X) (s n : ℕ) (bs : List ℕ) → unpacked d s (n + 1) bs ≡ unpacked d s n bs ++ d (take s (drop (n * s) bs)) ∷ []
unfolding unpacked
unpacked_more d s zero bs = ap (λ m. d (take s (drop m bs)) ∷ []) (sym (zero-mul s))
unpacked_more d s (suc n) bs =
    let next : suc n + 1 ≡ suc (n + 1) = omega arith in
    let far : suc n * s ≡ s + n * s = ap (λ m. m * s) {x = suc n} {y = n + 1} (omega arith) ∙ one_more n s ∙ omega arith in
    ap (λ m. unpacked d s m bs) next
    ∙ ap (λ t. d (take s bs) ∷ t) (unpacked_more d s n (drop s bs))
    ∙ ap (λ t. d (take s bs) ∷ (unpacked d s n (drop s bs) ++ d (take s t) ∷ [])) (drop-drop (n * s) s bs ∙ ap (λ m. drop m bs) (sym far))

pub nth_unpacked : {X : Type 0} (d : List ℕ → X) (s n i : ℕ) (bs : List ℕ) → i < n → slice_get (unpacked d s n bs) i ≡ Some (d (take s (drop (i * s) bs)))
unfolding unpacked
nth_unpacked d s zero i bs h = absurd (omega arith)
nth_unpacked d s (suc n) zero bs h = ap (λ m. Some (d (take s (drop m bs)))) (sym (zero-mul s))
nth_unpacked d s (suc n) (suc i) bs h =
    let far : suc i * s ≡ s + i * s = ap (λ m. m * s) {x = suc i} {y = i + 1} (omega arith) ∙ one_more i s ∙ omega arith in
    nth_unpacked d s n i (drop s bs) (omega arith)
    ∙ ap (λ t. Some (d (take s t))) (drop-drop (i * s) s bs ∙ ap (λ m. drop m bs) (sym far))

pub length-unpacked : {X : Type 0} (d : List ℕ → X) (s n : ℕ) (bs : List ℕ) → length (unpacked d s n bs) ≡ n
unfolding unpacked
length-unpacked d s zero bs = refl
length-unpacked d s (suc n) bs = ap suc (length-unpacked d s n (drop s bs))

-- records that are written and read back are the same records
pub unpacked_joined : {X : Type 0} (e : X → List ℕ) (d : List ℕ → X) (s : ℕ) (W : X → Type 0) → ((x : X) → W x → length (e x) ≡ s) → ((x : X) → W x → d (e x) ≡ x) → (xs : List X) → AllByRecursion W xs → unpacked d s (length xs) (flat_map e xs) ≡ xs
unfolding unpacked
unpacked_joined e d s W long back [] all = refl
unpacked_joined e d s W long back (x ∷ xs) all =
    let front = take_at (e x) (flat_map e xs) s (long x all.0) in
    let rest = drop_at (e x) (flat_map e xs) s (long x all.0) in
    let more = unpacked_joined e d s W long back xs all.1 in
    let here : d (take s (e x ++ flat_map e xs)) ≡ x = ap d front ∙ back x all.0 in
    let there : unpacked d s (length xs) (drop s (e x ++ flat_map e xs)) ≡ xs = ap (unpacked d s (length xs)) rest ∙ more in
    cc

-- bytes that are read and written again are the same bytes
pub joined_unpacked : {X : Type 0} (e : X → List ℕ) (d : List ℕ → X) (s : ℕ) → ((bs : List ℕ) → length bs ≡ s → Bytes bs → e (d bs) ≡ bs) → (n : ℕ) (bs : List ℕ) → length bs ≡ n * s → Bytes bs → flat_map e (unpacked d s n bs) ≡ bs
unfolding unpacked
joined_unpacked e d s again zero bs h all = sym (nil_from_length bs (h ∙ zero-mul s))
joined_unpacked e d s again (suc n) bs h all =
    let far : suc n * s ≡ n * s + s = ap (λ m. m * s) {x = suc n} {y = n + 1} (omega arith) ∙ one_more n s in
    let left : length (drop s bs) ≡ n * s = length-drop s bs ∙ omega arith in
    let here : length (take s bs) ≡ s = length-take-le s bs (omega arith) in
    let first = again (take s bs) here (All-take (λ b. b < 256) s bs all) in
    let more = joined_unpacked e d s again n (drop s bs) left (All-drop (λ b. b < 256) s bs all) in
    let whole = take-append-drop s bs in
    cc

-- the bytes up to the next record, and the record's own
pub take_next : (i s : ℕ) (bs : List ℕ) → take ((i + 1) * s) bs ≡ take (i * s) bs ++ take s (drop (i * s) bs)
take_next i s bs =
    let at = i * s in
    let whole = take-append-drop at (take (at + s) bs) in
    let front = take-take at (at + s) bs (omega arith) in
    let next = drop-take at s bs in
    let far = ap (λ m. take m bs) (one_more i s) in
    cc

-- the elements of a slice of bytes are bytes
pub bytes_typed : (bs : List ℕ) → ((i : ℕ) → Fits w8 (slice_index bs i)) → Bytes bs
bytes_typed bs typed = All-from_get_or (λ b. b < 256) bs 0 (λ i h. (typed i).fits)

-- what a buffer holds when one more record has been written again into it
pub copy_turn : (i s : ℕ) (bs old out part : List ℕ) (at k : ℕ) → length (take (i * s) bs) ≡ i * s → at ≡ i * s → k ≡ s → out ≡ take (i * s) bs ++ drop (i * s) old → part ≡ take s (drop (i * s) bs) → put_mid at k out part ≡ take ((i + 1) * s) bs ++ drop ((i + 1) * s) old
copy_turn i s bs old out part at k long places size before wrote =
    let j = take (i * s) bs in
    let d = drop (i * s) old in
    let front : take at out ≡ j = ap (take at) before ∙ take_at j d at (long ∙ sym places) in
    let past : drop at out ≡ d = ap (drop at) before ∙ drop_at j d at (long ∙ sym places) in
    let rest : drop k (drop at out) ≡ drop ((i + 1) * s) old =
    ap (drop k) past ∙ ap (λ n. drop n d) size ∙ drop-drop s (i * s) old ∙ ap (λ n. drop n old) (sym (one_more i s)) in
    let more = take_next i s bs in
    let assoc = append_assoc j part (drop ((i + 1) * s) old) in
    cc

-- of bytes that have a record, the first, and those behind it
pub records_more : {X : Type 0} (d : List ℕ → X) (s : ℕ) (bs : List ℕ) → 0 < s → s ≤ length bs → records_in d s bs ≡ d (take s bs) ∷ records_in d s (drop s bs)
unfolding unpacked
records_more d s bs some room =
    let more : length bs / s ≡ suc (length (drop s bs) / s) = div-eq-sub-div some room ∙ ap (λ n. n / s + 1) (sym (length-drop s bs)) ∙ omega arith in
    ap (λ n. unpacked d s n bs) more

pub records_none : {X : Type 0} (d : List ℕ → X) (s : ℕ) (bs : List ℕ) → length bs < s → records_in d s bs ≡ []
unfolding unpacked
records_none d s bs short = ap (λ n. unpacked d s n bs) (div-eq_of_lt short)

-- bytes have no more records than bytes
pub records_few : {X : Type 0} (d : List ℕ → X) (s : ℕ) (bs : List ℕ) → length (records_in d s bs) ≤ length bs
records_few d s bs = let fewer = div-le_self (length bs) s in omega (arith, length-unpacked d s (length bs / s) bs)

-- the records of bytes that have so many
pub records_all : {X : Type 0} (d : List ℕ → X) (s n : ℕ) (bs : List ℕ) → 0 < s → length bs ≡ n * s → records_in d s bs ≡ unpacked d s n bs
records_all d s n bs some long = ap (λ m. unpacked d s m bs) (ap (λ m. m / s) long ∙ mul-div_cancel n some)

-- the record at an index, and none past the last
pub record_here : {X : Type 0} (d : List ℕ → X) (s : ℕ) (bs : List ℕ) (i : ℕ) → i < length bs / s → slice_get (records_in d s bs) i ≡ Some (d (take s (drop (i * s) bs)))
record_here d s bs i h = nth_unpacked d s (length bs / s) i bs h

pub record_past : {X : Type 0} (d : List ℕ → X) (s : ℕ) (bs : List ℕ) (i : ℕ) → length bs / s ≤ i → slice_get (records_in d s bs) i ≡ None
record_past d s bs i h = slice_get_past (records_in d s bs) i (omega (arith, length-unpacked d s (length bs / s) bs))

-- what a buffer holds, and what is left of the bytes, when their next record has been written again
pub record Copied (i s : ℕ) (bs old out left : List ℕ) : Type 0 where
  pub done : out ≡ take (i * s) bs ++ drop (i * s) old
  pub rest : left ≡ drop (i * s) bs

pub copied_more : (i s : ℕ) (bs old out new left part rest : List ℕ) (at k : ℕ) → Copied i s bs old out left → left ≡ part ++ rest → length part ≡ s → i * s + s ≤ length bs → at ≡ i * s → k ≡ s → new ≡ put_mid at k out part → Copied (i + 1) s bs old new rest
copied_more i s bs old out new left part rest at k c split long room places size wrote =
    let here : part ≡ take s (drop (i * s) bs) = sym (ap (take s) (sym c.rest ∙ split) ∙ take_at part rest s long) in
    let past : rest ≡ drop ((i + 1) * s) bs = sym (drop_at part rest s long) ∙ ap (drop s) (sym split ∙ c.rest) ∙ drop-drop s (i * s) bs ∙ ap (λ n. drop n bs) (sym (one_more i s)) in
    record { done = wrote ∙ copy_turn i s bs old out part at k (length-take-le (i * s) bs (omega arith)) places size c.done here; rest = past }

-- before the first
pub copied_none : {X : Type 0} (e : X → List ℕ) (d : List ℕ → X) (s : ℕ) → ((bs : List ℕ) → length bs ≡ s → Bytes bs → e (d bs) ≡ bs) → (bs old from : List ℕ) → from ≡ bs → length bs / s * s ≡ length bs → Bytes bs → Copied 0 s bs old old (flat_map e (records_in d s from))
copied_none e d s again bs old from same whole all =
    let none = sym (zero-mul s) in
    record {
      done = ap (λ n. take n bs ++ drop n old) none;
      rest = ap (λ b. flat_map e (records_in d s b)) same ∙ joined_unpacked e d s again (length bs / s) bs (sym whole) all ∙ ap (λ n. drop n bs) none;
    }

-- one more record ends within the room for all of them
pub room_more : (i n s m : ℕ) → i < n → n * s ≤ m → i * s + s ≤ m
room_more i n s m h fits =
    let le : (i + 1) * s ≤ n * s = mul-le-mul_right s (omega arith) in
    omega (arith, add-mul i 1 s, one-mul s)

pub joined_take_more : {X : Type 0} (e : X → List ℕ) (xs : List X) (i : ℕ) (x : X) → i < length xs → x ≡ slice_index_or xs i x → flat_map e (take (i + 1) xs) ≡ flat_map e (take i xs) ++ e x
joined_take_more e xs i x h is =
    ap (flat_map e) (take_more xs i x h ∙ ap (λ y. take i xs ++ y ∷ []) (sym is)) ∙ sym (flat_map_more e [] (take i xs) x)

pub length_front : {X : Type 0} (e : X → List ℕ) (s : ℕ) (W : X → Type 0) → ((x : X) → W x → length (e x) ≡ s) → (xs : List X) (i : ℕ) → i ≤ length xs → AllByRecursion W (take i xs) → length (flat_map e (take i xs)) ≡ i * s
length_front e s W long xs i h all =
    length_joined e s W long (take i xs) all ∙ ap (λ n. n * s) (length-take-le i xs h)

-- what a buffer holds when one more record has been written into it
pub write_turn : {X : Type 0} (e : X → List ℕ) (s : ℕ) (xs : List X) (i : ℕ) (x : X) (old out part : List ℕ) (at k : ℕ) → i < length xs → x ≡ slice_index_or xs i x → length (flat_map e (take i xs)) ≡ i * s → at ≡ i * s → k ≡ s → out ≡ flat_map e (take i xs) ++ drop (i * s) old → part ≡ e x → put_mid at k out part ≡ flat_map e (take (i + 1) xs) ++ drop ((i + 1) * s) old
write_turn e s xs i x old out part at k h is long places size before wrote =
    let j = flat_map e (take i xs) in
    let d = drop (i * s) old in
    let front : take at out ≡ j = ap (take at) before ∙ take_at j d at (long ∙ sym places) in
    let past : drop at out ≡ d = ap (drop at) before ∙ drop_at j d at (long ∙ sym places) in
    let rest : drop k (drop at out) ≡ drop ((i + 1) * s) old =
    ap (drop k) past ∙ ap (λ n. drop n d) size ∙ drop-drop s (i * s) old ∙ ap (λ n. drop n old) (sym (one_more i s)) in
    let more = joined_take_more e xs i x h is in
    let assoc = append_assoc j (e x) (drop ((i + 1) * s) old) in
    cc

-- a record's own bytes, where the code has r for the size
pub part_is : (i r s : ℕ) (bs : List ℕ) → r ≡ s → take (i * r + r - i * r) (drop (i * r) bs) ≡ take s (drop (i * s) bs)
part_is i r s bs e =
    let n : i * r + r - i * r ≡ s = omega arith in
    let at : i * r ≡ i * s = ap (λ m. i * m) e in
    cc

pub unpacked_none : {X : Type 0} (d : List ℕ → X) (s : ℕ) (bs : List ℕ) → [] ≡ unpacked d s 0 bs
unfolding unpacked
unpacked_none d s bs = refl

-- the elements of a part of a list of bytes are bytes
pub bytes_part : (n at : ℕ) (bs : List ℕ) → Bytes bs → Bytes (take n (drop at bs))
bytes_part n at bs all = All-take (λ b. b < 256) n (drop at bs) (All-drop (λ b. b < 256) at bs all)

-- what a list holds when one more record has been read into it
pub read_turn : {X : Type 0} (d : List ℕ → X) (s i : ℕ) (bs part : List ℕ) (xs : List X) (x : X) → i < length xs → take i xs ≡ unpacked d s i bs → part ≡ take s (drop (i * s) bs) → x ≡ d part → take (i + 1) (slice_set xs i x) ≡ unpacked d s (i + 1) bs
read_turn d s i bs part xs x h before is made =
    let stored = take_more_set xs i x h in
    let more = unpacked_more d s i bs in
    cc

-- a record that is not past the last lies within the bytes
pub room_index : (i s n : ℕ) → i < n / s → i * s + s ≤ n
room_index i s n h = room_more i (n / s) s n h (div-mul-le_self n s)

-- an iterator over records gives all that its bytes have
pub records_given : {X : Type 0} (d : List ℕ → X) (size : ℕ) {s : RecordIter X} (xs : List X) → records_in d size s.bytes.now ≡ xs → YieldsList (λ (was : RecordIter X) taken is. TakesRecord d size was.bytes.now taken is.bytes.now) (λ x. x) s xs
records_given {X} d size {s} xs e =
    let steps : RecordIter X → Option X → RecordIter X → Type 0 = λ was taken is. TakesRecord d size was.bytes.now taken is.bytes.now in
    subst (YieldsList steps (λ x. x) s) e (YieldsList-from_shown steps (λ x. x) (λ t. records_in d size t.bytes.now) (λ t u h. ap length h.0.0) (λ t x u h. h.0) s)
