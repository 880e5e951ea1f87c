-- Lists that grow with a loop.
use Rattle.std.proofs.Common.{◌≡◌, ℕ, zero, suc, ◌+◌, ◌-◌, ◌*◌, ◌<◌, ◌≤◌, List, [], ◌∷◌, ◌++◌, length, get_or, take, drop, set, sym, refl, ap, ◌∙◌, ⊎_elim, add-one, arith, length-append, length-set}
use lib.Seq.{paste}
use Rattle.std.proofs.lemmas.List.{set_split, take-append-drop, get_or-set_same, get_or-set_other}
use Rattle.std.proofs.lemmas.Bool.{cases_eq}
use Rattle.std.proofs.lemmas.List.Edits.{paste_all, paste-paste}
use Rattle.domain.specs.declared.Slot.{Slot}
use Rattle.domain.specs.declared.Line.{Line}
use Rattle.domain.specs.Lines.{gathered}
use Rattle.issuing.specs.Posted.{posted, filled}

pub gathered_none : {A : Type 0} (f : ℕ → List A) → gathered f 0 ≡ []
unfolding gathered
gathered_none f = refl

pub gathered_more : {A : Type 0} (f : ℕ → List A) (m : ℕ) → gathered f (m + 1) ≡ gathered f m ++ f m
unfolding gathered
gathered_more f m = rw add-one refl

pub length_gathered_more : {A : Type 0} (f : ℕ → List A) (m : ℕ) → length (gathered f (m + 1)) ≡ length (gathered f m) + length (f m)
length_gathered_more f m = ap length (gathered_more f m) ∙ length-append (gathered f m) (f m)

-- the room of a front
pub gathered_add : {A : Type 0} (f : ℕ → List A) (m k : ℕ) → length (gathered f m) ≤ length (gathered f (m + k))
gathered_add f m zero = omega (arith, ap (λ i. length (gathered f i)) e) where
  e : m + 0 ≡ m
  e = omega arith
gathered_add f m (suc k) = omega (arith, gathered_add f m k, length_gathered_more f (m + k), ap (λ i. length (gathered f i)) e) where
  e : m + suc k ≡ (m + k) + 1
  e = omega arith

pub gathered_le : {A : Type 0} (f : ℕ → List A) (m n : ℕ) → m ≤ n → length (gathered f m) ≤ length (gathered f n)
gathered_le f m n h = omega (arith, gathered_add f m (n - m), ap (λ i. length (gathered f i)) e) where
  e : m + (n - m) ≡ n
  e = omega arith

pub gathered_most : {A : Type 0} (f : ℕ → List A) (c m : ℕ) → ((k : ℕ) → length (f k) ≤ c) → length (gathered f m) ≤ c * m
unfolding gathered
gathered_most f c zero h = omega arith
gathered_most f c (suc m) h = omega (arith, length-append (gathered f m) (f m), gathered_most f c m h, h m)

pub posted_none : (j : List Line) (at : ℕ) → posted j at [] ≡ j
unfolding posted
posted_none j at = ap (λ i. take at j ++ drop i j) e ∙ take-append-drop at j where
  e : at + 0 ≡ at
  e = omega arith

pub posted_one : (j : List Line) (at : ℕ) (l : Line) → at < length j → set j at l ≡ posted j at (l ∷ [])
unfolding posted
posted_one j at l h = set_split j at l h ∙ ap (λ i. take at j ++ (l ∷ drop i j)) e where
  e : suc at ≡ at + 1
  e = omega arith

as_paste : (j : List Line) (at : ℕ) (ls : List Line) → posted j at ls ≡ paste j at ls (length ls)
unfolding posted
as_paste j at ls = sym (paste_all j at ls (length ls) refl)

pub posted_append : (j : List Line) (at : ℕ) (xs ys : List Line) → at ≤ length j → posted (posted j at xs) (at + length xs) ys ≡ posted j at (xs ++ ys)
posted_append j at xs ys h =
    as_paste (posted j at xs) (at + length xs) ys
    ∙ ap (λ d. paste d (at + length xs) ys (length ys)) (as_paste j at xs)
    ∙ paste-paste j at xs ys (length xs) (length ys) refl refl h
    ∙ ap (paste j at (xs ++ ys)) (sym (length-append xs ys))
    ∙ sym (as_paste j at (xs ++ ys))

pub filled_none : (g : ℕ → Slot) (base : ℕ) (t : List Slot) → filled g base 0 t ≡ t
unfolding filled
filled_none g base t = refl

pub filled_more : (g : ℕ → Slot) (base m : ℕ) (t : List Slot) → set (filled g base m t) (base + m) (g m) ≡ filled g base (m + 1) t
unfolding filled
filled_more g base m t = rw add-one refl

pub length-filled : (g : ℕ → Slot) (base m : ℕ) (t : List Slot) → length (filled g base m t) ≡ length t
unfolding filled
length-filled g base zero t = refl
length-filled g base (suc m) t = length-set (filled g base m t) (base + m) (g m) ∙ length-filled g base m t

-- what a fill leaves alone
pub get_or_filled_above : (g : ℕ → Slot) (base m : ℕ) (t : List Slot) (k : ℕ) (d : Slot) → base + m ≤ k → get_or (filled g base m t) k d ≡ get_or t k d
unfolding filled
get_or_filled_above g base zero t k d h = refl
get_or_filled_above g base (suc m) t k d h = get_or-set_other (filled g base m t) (base + m) k (g m) d (λ e. omega arith) ∙ get_or_filled_above g base m t k d (omega arith)

pub get_or_filled_below : (g : ℕ → Slot) (base m : ℕ) (t : List Slot) (k : ℕ) (d : Slot) → k < base → get_or (filled g base m t) k d ≡ get_or t k d
unfolding filled
get_or_filled_below g base zero t k d h = refl
get_or_filled_below g base (suc m) t k d h = get_or-set_other (filled g base m t) (base + m) k (g m) d (λ e. omega arith) ∙ get_or_filled_below g base m t k d h

-- xs sent at `at`, then ys where they ended
pub posted_twice : (j : List Line) (at : ℕ) (xs ys : List Line) {k m : List Line} {n : ℕ} {zs : List Line} → at ≤ length j → k ≡ posted j at xs → n ≡ at + length xs → m ≡ posted k n ys → zs ≡ xs ++ ys → m ≡ posted j at zs
posted_twice j at xs ys {k} {m} {n} h e i f z = f ∙ ap (λ d. posted d n ys) e ∙ ap (λ b. posted (posted j at xs) b ys) i ∙ posted_append j at xs ys h ∙ sym (ap (posted j at) z)

pub gathered_same : {A : Type 0} (f g : ℕ → List A) (m : ℕ) → ((k : ℕ) → k < m → f k ≡ g k) → gathered f m ≡ gathered g m
unfolding gathered
gathered_same f g zero h = refl
gathered_same f g (suc m) h = ap (λ xs. xs ++ f m) (gathered_same f g m (λ k l. h k (omega arith))) ∙ ap (λ ys. gathered g m ++ ys) (h m (omega arith))

-- a turn of a loop that sends f q: its room, where it ends, and what the journal holds then
module _ (f : ℕ → List Line) where
  pub turn_room : (q n at end room : ℕ) (ls : List Line) → ls ≡ f q → end ≡ at + length (gathered f q) → q < n → at + length (gathered f n) ≤ room → end + length ls ≤ room
  turn_room q n at end room ls e i h k = omega (arith, ap length e, length_gathered_more f q, gathered_le f (q + 1) n (omega arith))

  pub turn_end : (q at end r : ℕ) (ls : List Line) → ls ≡ f q → end ≡ at + length (gathered f q) → r ≡ end + length ls → r ≡ at + length (gathered f (q + 1))
  turn_end q at end r ls e i h = omega (arith, ap length e, length_gathered_more f q)

  pub turn_journal : (q at end : ℕ) (ls : List Line) (j k m : List Line) → at ≤ length j → ls ≡ f q → end ≡ at + length (gathered f q) → k ≡ posted j at (gathered f q) → m ≡ posted k end ls → m ≡ posted j at (gathered f (q + 1))
  turn_journal q at end ls j k m h e i b x = posted_twice j at (gathered f q) ls h b i x (gathered_more f q ∙ ap (λ y. gathered f q ++ y) (sym e))

  pub turn_count : (q k r : ℕ) → k ≡ length (gathered f q) → r ≡ length (f q) → k + r ≡ length (gathered f (q + 1))
  turn_count q k r e h = omega (arith, length_gathered_more f q)

-- what a fill writes
pub get_or-filled : (g : ℕ → Slot) (base m : ℕ) (t : List Slot) (k : ℕ) (d : Slot) → k < m → base + m ≤ length t → get_or (filled g base m t) (base + k) d ≡ g k
unfolding filled
get_or-filled g base zero t k d h room = absurd (omega arith)
get_or-filled g base (suc m) t k d h room =
    ⊎_elim
    (λ (e : k ≡ m). ap (λ i. get_or (set (filled g base m t) (base + m) (g m)) (base + i) d) e ∙ get_or-set_same (filled g base m t) (base + m) (g m) d (omega (arith, length-filled g base m t)) ∙ sym (ap g e))
    (λ (e : k ≡ m → ⊥). get_or-set_other (filled g base m t) (base + m) (base + k) (g m) d (λ x. e (omega arith)) ∙ get_or-filled g base m t k d (omega (arith, e)) (omega arith))
    (cases_eq k m)

-- a fill by slots that are the same
pub filled_same : (f g : ℕ → Slot) (base m : ℕ) (t : List Slot) → ((k : ℕ) → k < m → f k ≡ g k) → filled f base m t ≡ filled g base m t
unfolding filled
filled_same f g base zero t h = refl
filled_same f g base (suc m) t h =
    ap (λ (u : List Slot). set u (base + m) (f m)) (filled_same f g base m t (λ k l. h k (omega arith))) ∙ ap (set (filled g base m t) (base + m)) (h m (omega arith))
