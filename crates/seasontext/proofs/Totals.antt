-- The sums and rows of the two tables.
use Rattle.std.proofs.Common.{◌≡◌, ℕ, ◌+◌, ◌-◌, ◌<◌, ◌≤◌, Bool, true, false, cond, List, [], ◌∷◌, ◌++◌, length, get_or, take, ℤ, pos, ◌+ℤ◌, sym, ap, ◌∙◌, append_assoc, append-nil, arith}
use Rattle.domain.specs.Lines.{gathered}
use lib.IntN.{+ℤ_idr}
use Rattle.std.proofs.lemmas.List.{take_more}
use Rattle.domain.specs.declared.Line.{Line}
use Rattle.issuing.proofs.Gathered.{gathered_none, gathered_more}
use Rattle.season.specs.Law.{sum_of}
use Rattle.season.proofs.Sums.{sum_append}

sum_one : (picks : Line → Bool) (l : Line) → sum_of picks (l ∷ []) ≡ cond (picks l) l.volume (pos 0)
unfolding sum_of
sum_one picks l = +ℤ_idr (cond (picks l) l.volume (pos 0))

module _ (picks : Line → Bool) (lines : List Line) (i : ℕ) (d : Line) (sum sum' : ℤ) (h : i < length lines) (so : sum ≡ sum_of picks (take i lines)) where
  more : sum_of picks (take (i + 1) lines) ≡ sum +ℤ cond (picks (get_or lines i d)) (get_or lines i d).volume (pos 0)
  more =
      let next = take_more lines i d h in
      let split = sum_append picks (take i lines) (get_or lines i d ∷ []) in
      let one = sum_one picks (get_or lines i d) in
      cc

  -- one more line, which is picked or is not
  pub sum_picked : true ≡ picks (get_or lines i d) → sum' ≡ sum +ℤ (get_or lines i d).volume → sum' ≡ sum_of picks (take (i + 1) lines)
  sum_picked is e = e ∙ sym (more ∙ ap (λ b. sum +ℤ cond b (get_or lines i d).volume (pos 0)) (sym is))

  pub sum_left : false ≡ picks (get_or lines i d) → sum' ≡ sum → sum' ≡ sum_of picks (take (i + 1) lines)
  sum_left is e = e ∙ sym (more ∙ ap (λ b. sum +ℤ cond b (get_or lines i d).volume (pos 0)) (sym is) ∙ +ℤ_idr sum)

-- a text without parts, and with one more
pub gathered_begin : (f : ℕ → List ℕ) (a : List ℕ) → a ≡ a ++ gathered f 0
gathered_begin f a = sym (append-nil a) ∙ ap (λ x. a ++ x) (sym (gathered_none f))

pub gathered_turn : (f : ℕ → List ℕ) (n : ℕ) (a t u : List ℕ) → t ≡ a ++ gathered f n → u ≡ t ++ f n → u ≡ a ++ gathered f (n + 1)
gathered_turn f n a t u so wrote =
    let more = gathered_more f n in
    let assoc = append_assoc a (gathered f n) (f n) in
    cc

-- the same where the parts are counted from 1
pub gathered_next : (f : ℕ → List ℕ) (p : ℕ) (a t u part : List ℕ) → 1 ≤ p → t ≡ a ++ gathered f (p - 1) → u ≡ t ++ part → part ≡ f (p - 1) → u ≡ a ++ gathered f (p + 1 - 1)
gathered_next f p a t u part some so wrote is =
    let e : (p - 1) + 1 ≡ p + 1 - 1 = omega (arith, some) in
    gathered_turn f (p - 1) a t u so (wrote ∙ ap (λ x. t ++ x) is) ∙ ap (λ n. a ++ gathered f n) e

-- a text to which four parts were added
pub four_parts : (t a b c d t₁ t₂ t₃ t₄ : List ℕ) → t₁ ≡ t ++ a → t₂ ≡ t₁ ++ b → t₃ ≡ t₂ ++ c → t₄ ≡ t₃ ++ d → t₄ ≡ t ++ (a ++ (b ++ (c ++ d)))
four_parts t a b c d t₁ t₂ t₃ t₄ e₁ e₂ e₃ e₄ =
    e₄ ∙ (ap (λ x. x ++ d) (e₃ ∙ ap (λ x. x ++ c) (e₂ ∙ ap (λ x. x ++ b) e₁)) ∙ simp append_assoc)
