-- The entry in force among those that a search has passed.
use Rattle.std.proofs.Common.{◌≡◌, ℕ, ◌+◌, ◌<◌, ◌≤◌, Bool, true, false, ◌&&◌, ltb, List, [], ◌∷◌, ◌++◌, length, get_or, take, Some, None, Option, sym, refl, ap, ◌∙◌, arith}
use Rattle.std.proofs.lemmas.List.{take_more, length-take-le}
use Rattle.std.proofs.lemmas.Bool.Decides.{nat_tests}
use Rattle.history.specs.Latest.{latest, or_else}
use Rattle.history.specs.Entries.{is_on, is_due, found}
use Rattle.history.proofs.Latests.{latest_is, latest_none}
use Rattle.history.proofs.Finding.{found_push}
use Rattle.history.specs.declared.Dated.{Dated}

-- the index that a search answers
abbrev pub index_of : Option (ℕ × ℕ) → Option ℕ
index_of None = None
index_of (Some b) = Some b.0

-- the day e is later than that of the best so far
abbrev pub is_later : Option (ℕ × ℕ) → ℕ → Bool
is_later None e = true
is_later (Some b) e = ltb b.1 e

-- the best so far was put on its day, and nothing after it up to d; or nothing up to d at all
abbrev pub SoFar : (ℕ → Option ℕ) → ℕ → Option (ℕ × ℕ) → Type 0
SoFar f d None = (e : ℕ) → e ≤ d → f e ≡ None
SoFar f d (Some b) = (b.1 ≤ d) × (f b.1 ≡ Some b.0) × ((e : ℕ) → b.1 < e → e ≤ d → f e ≡ None)

pub so_far_is : (f : ℕ → Option ℕ) (d : ℕ) (best : Option (ℕ × ℕ)) → SoFar f d best → index_of best ≡ latest f d
so_far_is f d None h = sym (latest_none f d h)
so_far_is f d (Some b) h = sym (latest_is f d b.1 b.0 h.0 h.1 h.2)

or_none : {A : Type 0} (o : Option A) → or_else o None ≡ o
or_none None = refl
or_none (Some y) = refl

module _ {T : Type 0} (t : List (Dated T)) (s d : ℕ) (x : Dated T) where
  -- a day that the new entry is not put on
  off_day : (e : ℕ) → is_on s e x ≡ false → found (t ++ x ∷ []) s e ≡ found t s e
  off_day e unlike = found_push t x s e ∙ rw unlike (or_none (found t s e))

  still_none : (e : ℕ) → is_on s e x ≡ false → found t s e ≡ None → found (t ++ x ∷ []) s e ≡ None
  still_none e unlike none = off_day e unlike ∙ none

  so_far_takes : (best : Option (ℕ × ℕ)) (n : ℕ) → length t ≡ n → SoFar (found t s) d best → is_due s d x ≡ true → is_later best x.day ≡ true → SoFar (found (t ++ x ∷ []) s) d (Some (n, x.day))
  so_far_takes None n size h due later =
      let on : is_on s x.day x ≡ true = grind (arith, nat_tests) in
      let within : x.day ≤ d = grind (arith, nat_tests) in
      (within, found_push t x s x.day ∙ rw (h x.day within, on) (ap Some size), λ e l m. still_none e (grind (arith, nat_tests)) (h e m))
  so_far_takes (Some b) n size h due later =
      let on : is_on s x.day x ≡ true = grind (arith, nat_tests) in
      let within : x.day ≤ d = grind (arith, nat_tests) in
      let after : b.1 < x.day = grind (arith, nat_tests) in
      (within, found_push t x s x.day ∙ rw (h.2 x.day after within, on) (ap Some size), λ e l m. still_none e (grind (arith, nat_tests)) (h.2 e (omega arith) m))

  so_far_keeps : (best : Option (ℕ × ℕ)) → SoFar (found t s) d best → (is_due s d x && is_later best x.day) ≡ false → SoFar (found (t ++ x ∷ []) s) d best
  so_far_keeps None h unlike = λ e m. still_none e (grind (arith, nat_tests)) (h e m)
  so_far_keeps (Some b) h unlike =
      (h.0, found_push t x s b.1 ∙ rw h.1 refl, λ e l m. still_none e (grind (arith, nat_tests)) (h.2 e l m))

-- a search has passed one entry more, and took it, or kept the best so far
module _ {T : Type 0} (t : List (Dated T)) (i : ℕ) (x : Dated T) (s d : ℕ) (within : i < length t) (is : x ≡ get_or t i x) where
  more : take (i + 1) t ≡ take i t ++ x ∷ []
  more = take_more t i x within ∙ ap (λ (y : Dated T). take i t ++ y ∷ []) (sym is)

  pub so_far_took : (best : Option (ℕ × ℕ)) {best' : Option (ℕ × ℕ)} → SoFar (found (take i t) s) d best → is_due s d x ≡ true → is_later best x.day ≡ true → best' ≡ Some (i, x.day) → SoFar (found (take (i + 1) t) s) d best'
  so_far_took best h due later eb =
      rw (eb, more) (so_far_takes (take i t) s d x best i (length-take-le i t (omega arith)) h due later)

  pub so_far_kept : (best : Option (ℕ × ℕ)) {best' : Option (ℕ × ℕ)} → SoFar (found (take i t) s) d best → (is_due s d x && is_later best x.day) ≡ false → best' ≡ best → SoFar (found (take (i + 1) t) s) d best'
  so_far_kept best h unlike eb = rw (eb, more) (so_far_keeps (take i t) s d x best h unlike)
