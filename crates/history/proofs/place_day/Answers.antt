use Rattle.std.proofs.Common.{◌≡◌, ℕ, ◌+◌, List, [], ◌∷◌, ◌++◌, length, take, None, sym, ap, ◌∙◌, arith}
use Rattle.std.proofs.lemmas.List.{take_all, length_push, get_or_default}
use Rattle.history.specs.Puts.{put_one, put_all, on_day, holding}
use Rattle.history.specs.Entries.{found}
use Rattle.history.specs.declared.Dated.{Dated}
use Rattle.history.proofs.Numbered.{numbered_turn, numbered_end}
use Rattle.history.proofs.Days.{turn_start, turn_found, turn_room, turn_again, day_grows}
use Rattle.history.proofs.place_day.Goals as goal

pub loop-subject-init : goal.loop-subject-init
loop-subject-init g c =
    let start = turn_start c.args.entries.now c.args.count c.args.day c.args.items.now c.requires.held in
    (((tt, tt), tt), tt, start.0, start.1)

pub place-end-requires : goal.place-end-requires
place-end-requires g c =
    let e = c.args.entries.now in
    let n = c.args.count in
    let d = c.args.day in
    let items = c.args.items.now in
    let at = c.args.at.now in
    let i = length c.loop-subject.yielded in
    let u = c.loop-subject.entries in
    let end = c.loop-subject.end in
    let turn = numbered_turn 1 48 items at c.into_iter-subject-iterator.result c.loop-subject.subject-iterator c.next.new.self (cc) (cc) (cc) (cc) (cc) c.loop-subject.yielded c.loop-subject.yielded_by c.next.result c.in-Some.subject c.in-Some.item c.in-Some.at c.in-Some.is c.next.ensures.steps in
    let within = turn.0 in
    let held = c.loop-subject.invariant.2 in
    let is = c.loop-subject.invariant.3 in
    let subject : i + 1 ≡ c.in-Some.subject = omega arith in
    let grows = day_grows (take n e) d items i (omega arith) in
    let room = turn_room e n d items i end u held is c.in-Some.item.now within turn.2 in
    let place : c.in-Some.at.now ≡ found (take end u) (i + 1) d = turn.3 ∙ get_or_default at i c.in-Some.at.now None (omega arith) ∙ c.requires.at i within ∙ sym (turn_found e n d items i end u held is within) in
    record {
      held = omega arith;
      at = place ∙ ap (λ (s : ℕ). found (take end u) s d) subject;
      room = omega (arith, ap (λ (s : ℕ). length (put_one (take end u) (record { subject = s; day = d; entry = c.in-Some.item.now }))) subject);
    }

pub loop-subject-preserved : goal.loop-subject-preserved
loop-subject-preserved g c =
    let e = c.args.entries.now in
    let n = c.args.count in
    let d = c.args.day in
    let items = c.args.items.now in
    let i = length c.loop-subject.yielded in
    let u = c.loop-subject.entries in
    let end = c.loop-subject.end in
    let x = c.in-Some.item.now in
    let turn = numbered_turn 1 48 items c.args.at.now c.into_iter-subject-iterator.result c.loop-subject.subject-iterator c.next.new.self (cc) (cc) (cc) (cc) (cc) c.loop-subject.yielded c.loop-subject.yielded_by c.next.result c.in-Some.subject c.in-Some.item c.in-Some.at c.in-Some.is c.next.ensures.steps in
    let subject : c.in-Some.subject ≡ i + 1 = omega arith in
    let put : put_one (take end u) (record { subject = c.in-Some.subject; day = d; entry = x }) ≡ put_one (take end u) (record { subject = i + 1; day = d; entry = x }) = ap (λ (s : ℕ). put_one (take end u) (record { subject = s; day = d; entry = x })) subject in
    let again = turn_again e n d items i end u c.loop-subject.invariant.2 c.loop-subject.invariant.3 x turn.0 turn.2 (c.place-end.ensures.count ∙ ap length put) (c.place-end.ensures.after ∙ ap (λ (h : List (Dated g.row.T.Denot)). holding h u) put) in
    let more : i + 1 ≡ length (c.loop-subject.yielded ++ ((c.in-Some.subject, c.in-Some.item), c.in-Some.at) ∷ []) = sym (length_push c.loop-subject.yielded ((c.in-Some.subject, c.in-Some.item), c.in-Some.at)) in
    (((tt, tt), tt), tt, again.0 ∙ ap (λ (k : ℕ). length (put_all (take n e) (on_day d 1 (take k items)))) more, again.1 ∙ ap (λ (k : ℕ). holding (put_all (take n e) (on_day d 1 (take k items))) e) more)

pub returns : goal.returns
returns g c =
    let items = c.args.items.now in
    let end = numbered_end 1 48 items c.args.at.now c.into_iter-subject-iterator.result c.loop-subject.subject-iterator c.next.new.self (cc) (cc) (cc) (cc) (cc) c.loop-subject.yielded c.loop-subject.yielded_by c.next.result c.in-None.is c.next.ensures.steps c.requires.few c.requires.each in
    let all : take (length c.loop-subject.yielded) items ≡ items = take_all (length c.loop-subject.yielded) items (omega arith) in
    record { count = rw all at c.loop-subject.invariant.2; after = rw all at c.loop-subject.invariant.3 }
