-- What an iterator has left.
use Rattle.std.specs.Prelude.{◌≡◌, ℕ, ◌+◌, List, [], ◌∷◌, length, drop, Option}
use Rattle.std.specs.Borrow.{Bor}
use Rattle.std.specs.Iterator.{YieldsFirstRef}
use Rattle.std.specs.List.{prefix_len}
use Rattle.text.specs.Words.{blank, words_of, lines_of}
use Rattle.text.specs.declared.Lines.{Lines}
use Rattle.text.specs.declared.fields.Words.{Words}

-- the lines that have not been taken yet
abbrev pub lines_left : Lines → List (List ℕ)
lines_left it = lines_of it.rest.now

-- the words that have not been taken yet
abbrev pub words_left : Words → List (List ℕ)
words_left it = words_of it.rest.now

-- the bytes behind the first of the pieces that they fall into, with so many beside it; all of them where there is no piece
abbrev pub behind : ℕ → List (List ℕ) → List ℕ → List ℕ
behind beside [] bytes = bytes
behind beside (p ∷ ps) bytes = drop (beside + length p) bytes

-- the bytes behind the first line and its line feed
unfoldable pub behind_line : List ℕ → List ℕ
behind_line bytes = behind 1 (lines_of bytes) bytes

-- the bytes behind the first word, the blanks after it among them
unfoldable pub behind_word : List ℕ → List ℕ
behind_word bytes = behind (prefix_len blank bytes) (words_of bytes) bytes

-- a call took the first line that was left, if any, and left the bytes behind it
abbrev pub TakesLine : Lines → Option (Bor (List ℕ)) → Lines → Type 0
TakesLine was line is = YieldsFirstRef lines_left was line is × (is.rest.now ≡ behind_line was.rest.now)

-- a call took the first word that was left, if any, and left the bytes behind it
abbrev pub TakesWord : Words → Option (Bor (List ℕ)) → Words → Type 0
TakesWord was word is = YieldsFirstRef words_left was word is × (is.rest.now ≡ behind_word was.rest.now)
