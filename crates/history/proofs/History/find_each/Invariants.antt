use Rattle.std.proofs.Common.{◌≡◌, ℕ, ◌+◌, ◌<◌, length, get_or, take, None}
use Rattle.domain.specs.Limits.{periods}
use Rattle.history.specs.Entries.{found}
use Rattle.history.proofs.History.find_each.Given as goal

abbrev pub invariant-loop-index : goal.invariant-loop-index
invariant-loop-index g l =
    ((k : ℕ) → k < periods → get_or l.at k None ≡ found (take l.index l.self.entries.now) (k + 1) l.day) × (length l.at ≡ periods)
