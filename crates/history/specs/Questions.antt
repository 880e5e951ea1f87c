-- What the answers of a history say of its entries, and what a put changes of later answers.
use Rattle.std.specs.Prelude.{◌≡◌, ℕ, ◌+◌, ◌<◌, ◌≤◌, List, [], ◌∷◌, length, Some, None, ◌≢◌}
use Rattle.std.specs.List.{slice_get}
use Rattle.history.specs.Entries.{found, in_force, entry_at}
use Rattle.history.specs.declared.Dated.{Dated}

module _ {T : Type 0} where
  -- the entry x stands at the index i
  abbrev pub Stands : List (Dated T) → ℕ → Dated T → Type 0
  Stands t i x = slice_get t i ≡ Some x

  -- no entry of the subject has a day that is not after d
  abbrev pub NoneDue : List (Dated T) → ℕ → ℕ → Type 0
  NoneDue t s d = (k : ℕ) (y : Dated T) → Stands t k y → y.subject ≡ s → y.day ≤ d → ⊥

  -- the entry at i is in force for the subject s on the day d
  pub record InForce (t : List (Dated T)) (s d i : ℕ) : Type 0 where
    pub dated : Dated T
    pub stands : Stands t i dated
    pub of_subject : dated.subject ≡ s
    pub due : dated.day ≤ d
    -- no entry of the subject that is not after the day is later
    pub latest : (k : ℕ) (y : Dated T) → Stands t k y → y.subject ≡ s → y.day ≤ d → y.day ≤ dated.day
    -- and none at an earlier index has the same day
    pub first : (k : ℕ) (y : Dated T) → k < i → Stands t k y → y.subject ≡ s → y.day ≢ dated.day

  -- no entry of the subject has that day
  abbrev pub NoneOn : List (Dated T) → ℕ → ℕ → Type 0
  NoneOn t s d = (k : ℕ) (y : Dated T) → Stands t k y → y.subject ≡ s → y.day ≢ d

  -- the entry at i is the first of the subject s and the day d
  pub record FirstOn (t : List (Dated T)) (s d i : ℕ) : Type 0 where
    pub dated : Dated T
    pub stands : Stands t i dated
    pub of_subject : dated.subject ≡ s
    pub of_day : dated.day ≡ d
    pub first : (k : ℕ) (y : Dated T) → k < i → Stands t k y → y.subject ≡ s → y.day ≢ d

  -- no entry is followed by another of its subject and day
  abbrev pub Distinct : List (Dated T) → Type 0
  Distinct [] = Unit {0}
  Distinct (x ∷ t) = (found t x.subject x.day ≡ None) × Distinct t

  -- the same index is in force as before, with the same entry
  pub record SameInForce (t u : List (Dated T)) (s d : ℕ) : Type 0 where
    pub index : in_force u s d ≡ in_force t s d
    pub entry : entry_at u (in_force u s d) ≡ entry_at t (in_force t s d)

  -- the entry x was put for the subject s on the day d, and so t became u
  pub record InForceFrom (t u : List (Dated T)) (s d : ℕ) (x : T) : Type 0 where
    -- before that day nothing changes for the subject
    pub before : (e : ℕ) → e < d → SameInForce t u s e
    -- from that day on x is in force, as long as there is no later entry
    pub since : (e : ℕ) → d ≤ e → ((k : ℕ) (y : Dated T) → Stands t k y → y.subject ≡ s → d < y.day → y.day ≤ e → ⊥) → entry_at u (in_force u s e) ≡ Some x
    -- and where there is a later entry, nothing changes
    pub after : (e k : ℕ) (y : Dated T) → Stands t k y → y.subject ≡ s → d < y.day → y.day ≤ e → SameInForce t u s e

  -- what one put changes, and what it leaves
  pub record AfterPut (t : List (Dated T)) (x : Dated T) (u : List (Dated T)) : Type 0 where
    pub put : InForceFrom t u x.subject x.day x.entry
    pub others : (s e : ℕ) → (s ≢ x.subject) → SameInForce t u s e
    pub finds : (s e : ℕ) → (s ≡ x.subject → e ≢ x.day) → found u s e ≡ found t s e
    pub distinct : Distinct t → Distinct u

  -- what the puts of one day change and leave: the first item is the subject 1's, the next the subject 2's, and so on
  pub record AfterDay (t : List (Dated T)) (d : ℕ) (items : List T) (u : List (Dated T)) : Type 0 where
    pub put : (k : ℕ) (x : T) → slice_get items k ≡ Some x → InForceFrom t u (k + 1) d x
    pub others : (s e : ℕ) → (1 ≤ s → s ≤ length items → ⊥) → SameInForce t u s e
    pub finds : (s e : ℕ) → (e ≢ d) → found u s e ≡ found t s e
    pub distinct : Distinct t → Distinct u
