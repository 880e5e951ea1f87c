-- Putting entries into a history.
use Rattle.std.specs.Prelude.{ℕ, suc, cond, List, [], ◌∷◌, ◌++◌, length, take, drop, Ok, Err, fold, Result, nat_lt}
use Rattle.domain.specs.Limits.{periods}
use Rattle.domain.specs.declared.Table.{Table}
use Rattle.domain.specs.declared.Fault.{Fault}
use Rattle.domain.specs.declared.Fault.TheVariants.{Spoiled, HistoryFull}
use Rattle.history.specs.Entries.{is_on}
use Rattle.history.specs.declared.Dated.{Dated}

module _ {T : Type 0} where
  -- the entries held after a put: x replaces the first of its subject and day, or is added at the end
  unfoldable pub put_one : List (Dated T) → Dated T → List (Dated T)
  put_one [] x = x ∷ []
  put_one (y ∷ t) x = cond (is_on x.subject x.day y) (x ∷ t) (y ∷ put_one t x)

  -- the same for several, one after the other
  abbrev pub put_all : List (Dated T) → List (Dated T) → List (Dated T)
  put_all t xs = fold put_one t xs

  -- the entries of one day, for the subjects from s on
  unfoldable pub on_day : ℕ → ℕ → List T → List (Dated T)
  on_day d s [] = []
  on_day d s (x ∷ xs) = record { subject = s; day = d; entry = x } ∷ on_day d (suc s) xs

  -- the puts of one day: the first item is the subject 1's, and there are no more than periods in a day
  abbrev pub put_day : List (Dated T) → ℕ → List T → List (Dated T)
  put_day t d items = put_all t (on_day d 1 (take periods items))

  -- a table that holds the entries h, and behind them what it held there before
  abbrev pub holding : List (Dated T) → List (Dated T) → List (Dated T)
  holding h entries = h ++ drop (length h) entries

  -- refused where more are held than the table has, or where there is no room for the entries h; else their count
  abbrev pub room_for : List (Dated T) → Table → ℕ → List (Dated T) → Result ℕ Fault
  room_for entries table count h =
      cond (nat_lt (length entries) count) (Err (Spoiled table)) (cond (nat_lt (length entries) (length h)) (Err (HistoryFull (length h))) (Ok (length h)))

  -- the table after: it holds the entries h, or is as it was where they were refused
  abbrev pub holding_if : Result ℕ Fault → List (Dated T) → List (Dated T) → List (Dated T)
  holding_if (Ok n) h entries = holding h entries
  holding_if (Err e) h entries = entries
