use Rattle.std.proofs.Common.{◌≡◌, ℕ, suc, ◌+◌, ◌-◌, ◌<◌, Bool, true, false, not, eqb, ◌≢◌, List, [], ◌∷◌, ◌++◌, length, take, drop, sym, refl, ap, ◌∙◌, ⊎_elim, append_assoc, append-nil, add-zero, one-add, arith, length-append, length-take-le, length-drop}
use Rattle.std.specs.List.{prefix_len}
use Rattle.std.proofs.lemmas.List.{drop-drop, nil_from_length}
use Rattle.std.proofs.lemmas.List.Sums.{prefix_len-le-length}
use Rattle.std.proofs.lemmas.Bool.{cases_Bool}
use Rattle.text.specs.Words.{blank, ended, words_after, words_of, lines_after, lines_of}
use Rattle.text.specs.Left.{behind, behind_line, behind_word}

abbrev pub letter : ℕ → Bool
letter c = not (blank c)

abbrev pub inside : ℕ → Bool
inside c = not (eqb c 10)

-- a piece that has begun
pub ended_some : (w : List ℕ) → 0 < length w → ended w ≡ w ∷ []
ended_some [] h = absurd (omega arith)
ended_some (c ∷ w) h = refl

-- blanks before the first word do not count
pub words_skip : (cs : List ℕ) → words_of cs ≡ words_of (drop (prefix_len blank cs) cs)
words_skip [] = refl
words_skip (c ∷ cs) =
    ⊎_elim (λ (e : blank c ≡ true). rw (e, one-add) (words_skip cs)) (λ (e : blank c ≡ false). rw e (rw e refl))
    (cases_Bool (blank c))

-- the letters up to a blank end a word
pub words_first : (w cs : List ℕ) → 0 < length w + prefix_len letter cs → words_after w cs ≡ (w ++ take (prefix_len letter cs) cs) ∷ words_of (drop (prefix_len letter cs) cs)
words_first w [] h = rw append-nil (ended_some w (omega arith))
words_first w (c ∷ cs) h =
    ⊎_elim
    (λ (e : blank c ≡ true).
    let begun = rw (e, add-zero) at h in
    rw (e, append-nil) (rw (e, ended_some w begun) refl))
    (λ (e : blank c ≡ false). rw (e, one-add) (words_first (w ++ c ∷ []) cs (simp length-append (omega arith)) ∙ rw append_assoc refl))
    (cases_Bool (blank c))

-- the bytes up to a line feed are a line
pub lines_first : (l cs : List ℕ) → 0 < length l + length cs → lines_after l cs ≡ (l ++ take (prefix_len inside cs) cs) ∷ lines_of (drop (suc (prefix_len inside cs)) cs)
lines_first l [] h = rw append-nil (ended_some l (omega arith))
lines_first l (c ∷ cs) h =
    ⊎_elim (λ (e : eqb c 10 ≡ true). rw (e, append-nil) refl)
    (λ (e : eqb c 10 ≡ false). rw (e, one-add) (lines_first (l ++ c ∷ []) cs (simp length-append (omega arith)) ∙ rw append_assoc refl))
    (cases_Bool (eqb c 10))

-- after the blanks there is a letter, or nothing
letter_next : (cs : List ℕ) → (length (drop (prefix_len blank cs) cs) ≡ 0 → ⊥) → 0 < prefix_len letter (drop (prefix_len blank cs) cs)
letter_next [] some = absurd (some refl)
letter_next (c ∷ cs) some =
    ⊎_elim (λ (b : blank c ≡ true). rw (b, one-add) (letter_next cs (rw (b, one-add) at some)))
    (λ (b : blank c ≡ false). rw b (rw b (omega arith))) (cases_Bool (blank c))

-- with no letter after the blanks there is no word
pub no_word : (line tail : List ℕ) → tail ≡ drop (prefix_len blank line) line → length tail ≡ 0 → words_of line ≡ []
no_word line tail skipped none = words_skip line ∙ ap words_of (sym skipped ∙ nil_from_length tail none)

-- the first word and what follows it
pub word_cut : (line tail first rest : List ℕ) → tail ≡ drop (prefix_len blank line) line → length tail ≢ 0 → first ≡ take (prefix_len letter tail) tail → rest ≡ drop (prefix_len letter tail) tail → (words_of line ≡ first ∷ words_of rest) × (length rest < length line)
word_cut line tail first rest et some ef er =
    let begins : 0 < prefix_len letter tail = rw et (letter_next line (rw et at some)) in
    let split = words_first [] tail (omega arith) in
    let same : (take (prefix_len letter tail) tail ∷ words_of (drop (prefix_len letter tail) tail)) ≡ first ∷ words_of rest = cc in
    let within = prefix_len-le-length letter tail in
    let shorter : length rest ≡ length tail - prefix_len letter tail = ap length er ∙ length-drop (prefix_len letter tail) tail in
    let less : length tail ≡ length line - prefix_len blank line = ap length et ∙ length-drop (prefix_len blank line) line in
    (words_skip line ∙ (ap words_of (sym et) ∙ (split ∙ same)), omega arith)

-- the first line and what follows it
pub line_cut : (xs first tail rest : List ℕ) → 0 < length xs → first ≡ take (prefix_len inside xs) xs → tail ≡ drop (prefix_len inside xs) xs → rest ≡ drop 1 tail → (lines_of xs ≡ first ∷ lines_of rest) × (length rest < length xs)
line_cut xs first tail rest some ef et er =
    let n = prefix_len inside xs in
    let split = lines_first [] xs (omega arith) in
    let next : n + 1 ≡ suc n = omega arith in
    let after : rest ≡ drop (suc n) xs = er ∙ (ap (drop 1) et ∙ (drop-drop 1 n xs ∙ ap (λ k. drop k xs) next)) in
    let same : (take n xs ∷ lines_of (drop (suc n) xs)) ≡ first ∷ lines_of rest = cc in
    let shorter : length rest ≡ length xs - (n + 1) = ap length (er ∙ (ap (drop 1) et ∙ drop-drop 1 n xs)) ∙ length-drop (n + 1) xs in
    (split ∙ same, omega arith)

-- behind the first of some pieces
behind_first : (beside : ℕ) (pieces others : List (List ℕ)) (bytes first : List ℕ) → pieces ≡ first ∷ others → behind beside pieces bytes ≡ drop (beside + length first) bytes
behind_first beside pieces others bytes first e = ap (λ ps. behind beside ps bytes) e

-- with no piece all is left
behind_none : (beside : ℕ) (pieces : List (List ℕ)) (bytes : List ℕ) → pieces ≡ [] → behind beside pieces bytes ≡ bytes
behind_none beside pieces bytes e = ap (λ ps. behind beside ps bytes) e

-- behind the first line's line feed
pub line_rest : (xs first tail rest : List ℕ) → 0 < length xs → first ≡ take (prefix_len inside xs) xs → tail ≡ drop (prefix_len inside xs) xs → rest ≡ drop 1 tail → rest ≡ behind_line xs
unfolding behind_line
line_rest xs first tail rest some ef et er =
    let n = prefix_len inside xs in
    let long : length first ≡ n = ap length ef ∙ length-take-le n xs (prefix_len-le-length inside xs) in
    let cut = behind_first 1 (lines_of xs) (lines_of rest) xs first (line_cut xs first tail rest some ef et er).0 in
    er ∙ (ap (drop 1) et ∙ (drop-drop 1 n xs ∙ (ap (λ k. drop k xs) (omega (arith, long)) ∙ sym cut)))

-- behind the first word
pub word_rest : (line tail first rest : List ℕ) → tail ≡ drop (prefix_len blank line) line → length tail ≢ 0 → first ≡ take (prefix_len letter tail) tail → rest ≡ drop (prefix_len letter tail) tail → rest ≡ behind_word line
unfolding behind_word
word_rest line tail first rest et some ef er =
    let m = prefix_len letter tail in
    let long : length first ≡ m = ap length ef ∙ length-take-le m tail (prefix_len-le-length letter tail) in
    let cut = behind_first (prefix_len blank line) (words_of line) (words_of rest) line first (word_cut line tail first rest et some ef er).0 in
    er ∙ (ap (drop m) et ∙ (drop-drop m (prefix_len blank line) line ∙ (ap (λ k. drop (prefix_len blank line + k) line) (sym long) ∙ sym cut)))

-- without a line all is left
pub line_none : (xs : List ℕ) → lines_of xs ≡ [] → xs ≡ behind_line xs
unfolding behind_line
line_none xs e = sym (behind_none 1 (lines_of xs) xs e)

-- without a word all is left
pub word_none : (line : List ℕ) → words_of line ≡ [] → line ≡ behind_word line
unfolding behind_word
word_none line e = sym (behind_none (prefix_len blank line) (words_of line) line e)
