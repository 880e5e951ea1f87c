use Rattle.std.proofs.Common.{◌≡◌, length, take}
use Rattle.history.specs.Puts.{put_all, on_day, holding}
use Rattle.history.proofs.place_day.Given as goal

abbrev pub invariant-loop-subject : goal.invariant-loop-subject
invariant-loop-subject g l =
    let h = put_all (take l.count l.initial.entries) (on_day l.day 1 (take (length l.yielded) l.items)) in
    (goal.iterator-loop-subject g).can_next l.subject-iterator × (goal.iterator-loop-subject g).is_finite l.subject-iterator × (l.end ≡ length h) × (l.entries ≡ holding h l.initial.entries)
