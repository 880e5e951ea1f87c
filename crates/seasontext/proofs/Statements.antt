-- The file of a statement has as many bytes as its answer says.
use Rattle.std.proofs.Common.{◌≡◌, ℕ, ◌+◌, ◌-◌, ◌*◌, ◌≤◌, Bool, true, false, ◌&&◌, leb, List, [], ◌∷◌, length, take, drop, is_ok, Ok, Err, Result, refl, ap, ◌∙◌, arith, length-drop, leb-true}
use Rattle.std.specs.List.{flat_map}
use Rattle.std.proofs.lemmas.List.{length-take-le}
use Rattle.domain.specs.Checks.{unless}
use Rattle.domain.specs.Limits.{most_records}
use Rattle.domain.specs.declared.Fault.{Fault}
use Rattle.domain.specs.declared.Line.{Line}
use Rattle.files.specs.Contents.{of_statement, file_of, settled}
use Rattle.files.specs.Formats.{statement_size, most_bytes}
use Rattle.files.specs.Records.{encoded_line}
use Rattle.files.proofs.Buffers.{take-over}
use Rattle.book.specs.Kept.{Kept}
use Rattle.book.specs.Statements.{lines_from, statement_answer}
use Rattle.seasontext.specs.Runs.{Run, answered, statement_asked}
use Rattle.seasontext.specs.Texts.{bytes_text, buffer_text, statement_text}

lines_long : (ls : List Line) → length (flat_map encoded_line ls) ≡ length ls * 11
lines_long [] = refl
lines_long (l ∷ ls) = let h = lines_long ls in omega arith

-- a check that was passed holds, and what comes next was answered
passed : {A : Type 0} (holds : Bool) (fault : Fault) (rest : Result A Fault) (x : A) → Ok x ≡ unless holds fault rest → (holds ≡ true) × (Ok x ≡ rest)
passed true fault rest x e = (refl, e)
passed false fault rest x e = let z : ◌≡◌ {A = ℕ} 0 1 = cc in absurd (omega arith)

same_ok : (n m : ℕ) → ◌≡◌ {A = Result ℕ Fault} (Ok n) (Ok m) → n ≡ m
same_ok n m e = cc

both : (a b : Bool) → (a && b) ≡ true → b ≡ true
both true b e = e
both false b e = let z : ◌≡◌ {A = ℕ} 0 1 = cc in absurd (omega arith)

length_part : (journal : List Line) (first count : ℕ) → first + count ≤ length journal → length (lines_from journal first count) ≡ count
length_part journal first count h = length-take-le count (drop first journal) (simp length-drop (omega arith))

pub file_long : (k : Kept) (journal : List Line) (first count room n : ℕ) → Ok n ≡ statement_answer k (length journal) first count room → length (file_of (of_statement (lines_from journal first count))) ≡ n
file_long k journal first count room n e =
    let one = passed (leb first k.lines) _ _ n e in
    let two = passed (leb count most_records && leb count (k.lines - first)) _ _ n one.1 in
    let three = passed (leb (statement_size count) room) _ _ n two.1 in
    let four = passed (leb k.lines (length journal)) _ _ n three.1 in
    let low : first ≤ k.lines = leb-true first k.lines one.0 in
    let some : count ≤ k.lines - first = leb-true count (k.lines - first) (both (leb count most_records) (leb count (k.lines - first)) two.0) in
    let held : k.lines ≤ length journal = leb-true k.lines (length journal) four.0 in
    let size : n ≡ statement_size count = same_ok n (statement_size count) four.1 in
    let part = length_part journal first count (omega arith) in
    let long = lines_long (lines_from journal first count) in
    omega arith

-- what a buffer holds is printed as the file
pub buffer_is : (number : ℕ) (file old out : List ℕ) (answer : Result ℕ Fault) → out ≡ settled answer file old → ((n : ℕ) → Ok n ≡ answer → length file ≡ n) → buffer_text number out answer ≡ statement_text number file answer
buffer_is number file old out (Ok n) e long = ap (bytes_text number) (ap (take n) e ∙ take-over n file old (long n refl))
buffer_is number file old out (Err fault) e long = refl

pub statement_is : (first count : ℕ) (s : Run) (answer : Result ℕ Fault) → answer ≡ statement_answer s.state.kept (length s.state.journal) first count most_bytes → answered (is_ok answer) (statement_text (s.calls + 1) (file_of (of_statement (lines_from s.state.journal first count))) answer) s ≡ statement_asked first count s
unfolding statement_asked
statement_is first count s answer e =
    ap (λ a. answered (is_ok a) (statement_text (s.calls + 1) (file_of (of_statement (lines_from s.state.journal first count))) a) s) e

-- a statement, from what its parts did
pub statement_told : (first count room : ℕ) (s s' : Run) (answer : Result ℕ Fault) (journal : List Line) (out old : List ℕ) → journal ≡ s.state.journal → room ≡ most_bytes → answer ≡ statement_answer s.state.kept (length journal) first count room → out ≡ settled answer (file_of (of_statement (lines_from journal first count))) old → s' ≡ answered (is_ok answer) (buffer_text (s.calls + 1) out answer) s → s' ≡ statement_asked first count s
statement_told first count room s s' answer journal out old ej er is wrote told =
    let j = s.state.journal in
    let k = s.state.kept in
    let whole : answer ≡ statement_answer k (length j) first count most_bytes = is ∙ (ap (λ x. statement_answer k (length x) first count room) ej ∙ ap (λ x. statement_answer k (length j) first count x) er) in
    let holds : out ≡ settled answer (file_of (of_statement (lines_from j first count))) old = wrote ∙ ap (λ x. settled answer (file_of (of_statement (lines_from x first count))) old) ej in
    let same = buffer_is (s.calls + 1) (file_of (of_statement (lines_from j first count))) old out answer holds (λ n e. file_long k j first count most_bytes n (e ∙ whole)) in
    told ∙ (ap (λ t. answered (is_ok answer) t s) same ∙ statement_is first count s answer whole)
