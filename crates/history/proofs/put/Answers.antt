use Rattle.std.proofs.Common.{◌≡◌, ◌+◌, cond, is_some, take, ap, arith, rules}
use Rattle.history.specs.Entries.{found}
use Rattle.history.specs.Puts.{put_one}
use Rattle.history.proofs.Placing.{count_after, take-holding, no_room_for}
use Rattle.history.proofs.Changes.{after_put}
use Rattle.history.proofs.put.Goals as goal

pub returns-then-needed-entries-clause-result : goal.returns-then-needed-entries-clause-result
returns-then-needed-entries-clause-result g c =
    let e = c.args.entries.now in
    let n = c.args.count in
    let x = c.args.dated in
    let held = c.in_ok-held.ensures in
    let more : c.from.result ≡ cond (is_some c.find-at.result) 0 1 = search rules in
    let is : c.find-at.result ≡ found (take n e) x.subject x.day = rw held.1 at c.find-at.ensures.is in
    no_room_for e (put_one (take n e) x) c.args.table n (n + c.from.result) held.0 (count_after e n x held.0 is (ap (λ k. n + k) more)) c.if-needed-entries.true

pub place-requires-clause-room : goal.place-requires-clause-room
place-requires-clause-room g c =
    let e = c.args.entries.now in
    let n = c.args.count in
    let x = c.args.dated in
    let held = c.in_ok-held.ensures in
    let more : c.from.result ≡ cond (is_some c.find-at.result) 0 1 = search rules in
    let is : c.find-at.result ≡ found (take n e) x.subject x.day = rw held.1 at c.find-at.ensures.is in
    let needed = count_after e n x held.0 is (ap (λ k. n + k) more) in
    omega arith

pub returns-clause-says : goal.returns-clause-says
returns-clause-says g c =
    let e = c.args.entries.now in
    let x = c.args.dated in
    let t = take c.args.count e in
    rw (c.place.ensures.after, take-holding (put_one t x) e c.place.result c.place.ensures.count) (after_put t x)
