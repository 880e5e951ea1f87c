-- What is said of a line of a season that is no call.
use Rattle.std.specs.Prelude.{ℕ, List, codes}
use Rattle.text.specs.Fields.{word_fault_text}
use Rattle.seasonlines.specs.declared.Slip.{Slip}
use Rattle.seasonlines.specs.declared.Slip.TheVariants.{UnknownWord, Word, RowPeriods, RowOutside, BeforeTerms, TermsAgain, TablesLate}

-- what is said of a line that is no call
abbrev pub slip_text : Slip → List ℕ
slip_text UnknownWord = codes "unknown word"
slip_text (Word f) = word_fault_text f
slip_text RowPeriods = codes "the periods are not within 1 to 48 in order"
slip_text RowOutside = codes "a row outside a schedule"
slip_text BeforeTerms = codes "a call before terms"
slip_text TermsAgain = codes "terms stand once"
slip_text TablesLate = codes "tables stand once, before the first call"
