-- A list that falls into pieces, one after the other.
use Rattle.std.specs.Prelude.{◌≡◌, ℕ, ◌<◌, List, [], ◌∷◌, length, Some, None, Option}
use Rattle.text.specs.declared.Piece.{Piece}

-- the first of the pieces that bytes fall into, and a rest that falls into the others
abbrev pub Heads : (List ℕ → List (List ℕ)) → List ℕ → Piece → Type 0
Heads pieces bs p = (pieces bs ≡ p.first.now ∷ pieces p.rest.now) × (length p.rest.now < length bs)

-- the first piece is handed out, if there is one
abbrev pub Hands : (List ℕ → List (List ℕ)) → List ℕ → Option Piece → Type 0
Hands pieces bs None = pieces bs ≡ []
Hands pieces bs (Some p) = Heads pieces bs p
