-- What a buffer holds after parts of it have been written.
use Rattle.std.proofs.Common.{◌≡◌, ℕ, ◌+◌, ◌-◌, List, [], ◌++◌, length, take, drop, ap, ◌∙◌, append_assoc, arith, length-append, length-drop}
use borrow.Rule.Slice.PartMut.{put_mid}
use Rattle.std.proofs.lemmas.List.{append-nil, take_at, drop_at, drop-drop, drop_all, take_rest}
use Rattle.files.specs.Contents.{over}

-- bytes behind a front that has been written, in the part from there on
pub wrote_behind : (a m : ℕ) (front j old out part : List ℕ) → length front ≡ a → m ≡ length j → out ≡ front ++ drop a old → part ≡ j ++ drop m (take (length out - a) (drop a out)) → put_mid a (length out - a) out part ≡ over (front ++ j) old
wrote_behind a m front j old out part long size before wrote =
    let d = drop a old in
    let taken : take a out ≡ front = ap (take a) before ∙ take_at front d a long in
    let past : drop a out ≡ d = ap (drop a) before ∙ drop_at front d a long in
    let none : drop (length out - a) (drop a out) ≡ [] = drop_all (length out - a) (drop a out) (simp length-drop (omega arith)) in
    let far : a + m ≡ length (front ++ j) = simp length-append (omega arith) in
    let rest : drop m (take (length out - a) (drop a out)) ≡ drop (length (front ++ j)) old =
    ap (drop m) (take_rest out a ∙ past) ∙ drop-drop m a old ∙ ap (λ n. drop n old) far in
    let end = append-nil part in
    let assoc = append_assoc front j (drop (length (front ++ j)) old) in
    cc

-- of a buffer with bytes at its start, as many are those bytes
pub take-over : (n : ℕ) (bs old : List ℕ) → length bs ≡ n → take n (over bs old) ≡ bs
take-over n bs old h = take_at bs (drop (length bs) old) n h
