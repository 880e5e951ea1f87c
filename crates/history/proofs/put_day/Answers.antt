use Rattle.std.proofs.Common.{◌≡◌, ◌+◌, ◌≤◌, List, length, take, ap, ◌∙◌, arith}
use Rattle.domain.specs.Limits.{periods}
use Rattle.history.specs.Puts.{put_all, put_day, on_day, holding}
use Rattle.history.specs.declared.Dated.{Dated}
use Rattle.history.proofs.Days.{day_is, needed_after}
use Rattle.history.proofs.Placing.{take-holding, room_for_lem, no_room_for}
use Rattle.history.proofs.Changes.{after_day}
use Rattle.history.proofs.put_day.Goals as goal

pub returns-then-needed-entries-clause-result : goal.returns-then-needed-entries-clause-result
returns-then-needed-entries-clause-result g c =
    let e = c.args.entries.now in
    let n = c.args.count in
    let d = c.args.day in
    let all = c.args.items.now in
    let m = c.min.result in
    let held = c.in_ok-held.ensures in
    let needed = needed_after all m c.min.ensures e c.in_ok-held.held.entries.now n d c.count_none.result c.find_each-at.result held.0 held.1 c.find_each-at.ensures.size c.find_each-at.ensures.each c.count_none.ensures in
    no_room_for e (put_day (take n e) d all) c.args.table n (n + c.count_none.result) held.0 (needed ∙ ap (λ (l : List g.row.T.Denot). length (put_all (take n e) (on_day d 1 l))) (day_is all m c.min.ensures)) c.if-needed-entries.true

pub place_day-requires-clause-room : goal.place_day-requires-clause-room
place_day-requires-clause-room g c =
    let held = c.in_ok-held.ensures in
    let needed = needed_after c.args.items.now c.min.result c.min.ensures c.args.entries.now c.in_ok-held.held.entries.now c.args.count c.args.day c.count_none.result c.find_each-at.result held.0 held.1 c.find_each-at.ensures.size c.find_each-at.ensures.each c.count_none.ensures in
    omega arith

pub returns : goal.returns
returns g c =
    let e = c.args.entries.now in
    let n = c.args.count in
    let d = c.args.day in
    let all = c.args.items.now in
    let m = c.min.result in
    let h = put_day (take n e) d all in
    let held = c.in_ok-held.ensures in
    let needed = needed_after all m c.min.ensures e c.in_ok-held.held.entries.now n d c.count_none.result c.find_each-at.result held.0 held.1 c.find_each-at.ensures.size c.find_each-at.ensures.each c.count_none.ensures in
    let same : put_all (take n e) (on_day d 1 (take m all)) ≡ h = ap (λ (l : List g.row.T.Denot). put_all (take n e) (on_day d 1 l)) (day_is all m c.min.ensures) in
    let count : c.place_day.result ≡ length h = c.place_day.ensures.count ∙ ap length same in
    let after : c.place_day.new.entries ≡ holding h e = c.place_day.ensures.after ∙ ap (λ (l : List (Dated g.row.T.Denot)). holding l e) same in
    let room : c.place_day.result ≤ length e = let found-room = c.if-needed-entries.false in let counted = c.place_day.ensures.count in omega arith in
    let put : take c.place_day.result c.place_day.new.entries ≡ h = ap (take c.place_day.result) after ∙ take-holding h e c.place_day.result count in
    record {
      result = room_for_lem e h c.args.table n c.place_day.result held.0 count room;
      after = after;
      says = rw put (after_day (take n e) d (take periods all));
    }
