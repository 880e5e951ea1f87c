-- The first word of a line.
use Rattle.std.specs.Prelude.{ℕ, cond, List, Some, None, codes, Option}
use Rattle.std.specs.Str.{bytes_eq}
use Rattle.seasonlines.specs.declared.Faulty.{Faulty}
use Rattle.seasonlines.specs.declared.Faulty.TheVariants as faulty
use Rattle.seasonlines.specs.declared.Slip.{Slip}
use Rattle.seasonlines.specs.declared.verbs.Verb.{Verb}
use Rattle.seasonlines.specs.declared.verbs.Verb.TheVariants.{Terms, Tables, Register, Schedule, Row, Reading, Readings, End, Issue, Volume, Statement}

-- v where the word is this one, and else what the other words say
abbrev pub or_else : List ℕ → List ℕ → Verb → Option Verb → Option Verb
or_else w this v other = cond (bytes_eq w this) (Some v) other

-- what a line is by its first word
abbrev pub verb_of : List ℕ → Option Verb
verb_of w =
    or_else w (codes "terms") Terms (or_else w (codes "tables") Tables (or_else w (codes "register") Register (or_else w (codes "schedule") Schedule (or_else w (codes "row") Row (or_else w (codes "reading") Reading (or_else w (codes "readings") Readings (or_else w (codes "end") End (or_else w (codes "issue") Issue (or_else w (codes "volume") Volume (or_else w (codes "statement") Statement None))))))))))

-- a line with a slip: one that begins with `row` may stand in a schedule
abbrev pub faulty_of : Verb → Slip → Faulty
faulty_of Terms s = faulty.Line s
faulty_of Tables s = faulty.Line s
faulty_of Register s = faulty.Line s
faulty_of Schedule s = faulty.Line s
faulty_of Row s = faulty.Row s
faulty_of Reading s = faulty.Line s
faulty_of Readings s = faulty.Line s
faulty_of End s = faulty.Line s
faulty_of Issue s = faulty.Line s
faulty_of Volume s = faulty.Line s
faulty_of Statement s = faulty.Line s
