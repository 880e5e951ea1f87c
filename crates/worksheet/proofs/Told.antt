use Rattle.std.proofs.Common.{◌≡◌, ℕ, ◌+◌, ◌≤◌, ◌==◌, length, List, [], ◌∷◌, ◌++◌, ℤ, codes, sym, refl, ap, ◌∙◌, append_assoc, append-nil, add-one, arith}
use Rattle.std.specs.Fmt.{signed_decimal}
use Rattle.std.proofs.lemmas.Bool.{cond_both}
use Rattle.text.specs.Words.{lines_after, lines_of}
use Rattle.rules.specs.Meaning.{Meaning}
use Rattle.worksheet.specs.Figures.{shares_text}
use Rattle.worksheet.specs.Lines.{line_text, line_outcome}
use Rattle.worksheet.specs.Tables.{Under, lines_text, tally_from, counts_text, tally_text, counted}
use Rattle.worksheet.specs.declared.Outcome.{Outcome}
use Rattle.worksheet.specs.declared.Outcome.TheVariants.{Blank, Split, Unlawful, Malformed, Differing}
use Rattle.worksheet.specs.declared.Tally.{Tally}

pub shares_text_none : (share : ℕ → ℤ) → shares_text share 0 ≡ []
unfolding shares_text
shares_text_none share = refl

pub shares_text_more : (share : ℕ → ℤ) (n : ℕ) → shares_text share (n + 1) ≡ shares_text share n ++ (codes " " ++ signed_decimal (share n))
unfolding shares_text
shares_text_more share n = rw add-one refl

pub lines_text_none : (m k : Meaning) (n : ℕ) → lines_text m k n [] ≡ []
unfolding lines_text
lines_text_none m k n = refl

pub lines_text_more : (m k : Meaning) (n : ℕ) (l : List ℕ) (ls : List (List ℕ)) → lines_text m k n (l ∷ ls) ≡ line_text m k n l ++ lines_text m k (n + 1) ls
unfolding lines_text
lines_text_more m k n l ls = refl

pub tally_from_none : (m k : Meaning) (t : Tally) → tally_from m k t [] ≡ t
unfolding tally_from
tally_from_none m k t = refl

pub tally_from_more : (m k : Meaning) (t : Tally) (l : List ℕ) (ls : List (List ℕ)) → tally_from m k t (l ∷ ls) ≡ tally_from m k (counted t (line_outcome m k l)) ls
unfolding tally_from
tally_from_more m k t l ls = refl

-- one line is answered, of those that are left
module _ (m k : Meaning) (n : ℕ) (line : List ℕ) (rest left all : List (List ℕ)) (split : left ≡ line ∷ rest) where
  pub text_more : (before word after : List ℕ) → before ++ lines_text m k n left ≡ lines_text m k 1 all → word ≡ line_text m k n line → after ≡ before ++ word → after ++ lines_text m k (n + 1) rest ≡ lines_text m k 1 all
  text_more before word after so is push =
      let more = lines_text_more m k n line rest in
      let whole : lines_text m k n left ≡ word ++ lines_text m k (n + 1) rest = ap (lines_text m k n) split ∙ (more ∙ ap (λ w. w ++ lines_text m k (n + 1) rest) (sym is)) in
      ap (λ w. w ++ lines_text m k (n + 1) rest) push ∙ (append_assoc before word (lines_text m k (n + 1) rest) ∙ (ap (λ w. before ++ w) (sym whole) ∙ so))

  pub tally_more : (t u start : Tally) (o : Outcome) → tally_from m k t left ≡ tally_from m k start all → o ≡ line_outcome m k line → u ≡ counted t o → tally_from m k u rest ≡ tally_from m k start all
  tally_more t u start o so is count =
      let more = tally_from_more m k t line rest in
      ap (λ x. tally_from m k x rest) (count ∙ ap (counted t) is) ∙ (sym more ∙ (ap (tally_from m k t) (sym split) ∙ so))

-- a tally counts at most one more
pub under_more : (n : ℕ) (t u : Tally) (o : Outcome) → u ≡ counted t o → Under n t → Under (n + 1) u
under_more n t u Blank e h = rw e (record { split = omega arith; unlawful = omega arith; malformed = omega arith; differing = omega arith })
under_more n t u Split e h = rw e (record { split = omega arith; unlawful = omega arith; malformed = omega arith; differing = omega arith })
under_more n t u Unlawful e h = rw e (record { split = omega arith; unlawful = omega arith; malformed = omega arith; differing = omega arith })
under_more n t u Malformed e h = rw e (record { split = omega arith; unlawful = omega arith; malformed = omega arith; differing = omega arith })
under_more n t u Differing e h = rw e (record { split = omega arith; unlawful = omega arith; malformed = omega arith; differing = omega arith })

-- no line is left
pub table_all : (m k : Meaning) (n : ℕ) (t start : Tally) (left all : List (List ℕ)) (text last after : List ℕ) → left ≡ [] → text ++ lines_text m k n left ≡ lines_text m k 1 all → tally_from m k t left ≡ tally_from m k start all → last ≡ tally_text t → after ≡ text ++ last → after ≡ lines_text m k 1 all ++ tally_text (tally_from m k start all)
table_all m k n t start left all text last after none so tally is push =
    let empty : lines_text m k n left ≡ [] = ap (lines_text m k n) none ∙ lines_text_none m k n in
    let whole : text ≡ lines_text m k 1 all = sym (append-nil text) ∙ (ap (λ w. text ++ w) (sym empty) ∙ so) in
    let sum : t ≡ tally_from m k start all = sym (tally_from_none m k t) ∙ (ap (tally_from m k t) (sym none) ∙ tally) in
    push ∙ (ap (λ w. w ++ last) whole ∙ ap (λ w. lines_text m k 1 all ++ w) (is ∙ ap tally_text sum))

-- no input has more lines than bytes but one
lines_few_after : (l cs : List ℕ) → length (lines_after l cs) ≤ length cs + 1
lines_few_after [] [] = omega arith
lines_few_after (b ∷ l) [] = omega arith
lines_few_after l (c ∷ cs) =
    cond_both (c == 10) (l ∷ lines_after [] cs) (lines_after (l ++ c ∷ []) cs) (λ (ls : List (List ℕ)). length ls ≤ length (c ∷ cs) + 1) (λ _. omega (arith, lines_few_after [] cs)) (λ _. omega (arith, lines_few_after (l ++ c ∷ []) cs))

pub lines_few : (cs : List ℕ) → length (lines_of cs) ≤ length cs + 1
lines_few cs = lines_few_after [] cs

-- the counts and a line feed are a table's last line
pub counts_line : (t : Tally) → counts_text t ++ codes "\n" ≡ tally_text t
counts_line t = simp append_assoc
