-- The refusals: which number each has, and which spot it names.
use Rattle.std.specs.Prelude.{ℕ}
use Rattle.domain.specs.declared.Term.{Term}
use Rattle.domain.specs.declared.Term.TheVariants.{Places, Days, Capacity}
use Rattle.domain.specs.declared.Table.{Table}
use Rattle.domain.specs.declared.Table.TheVariants.{Holders, Rows, Readings, Issued, Journal}
use Rattle.domain.specs.declared.Fault.{Fault}
use Rattle.domain.specs.declared.Fault.TheVariants.{FileTooShort, AnotherMark, AnotherVersion, AnotherKind, CountNotAllowed, AnotherLength, TermOutsideLimits, ArgumentOutsideLimits, UnlawfulRow, AfterGate, AnotherSize, OutputTooShort, Spoiled, SenderNotPrimary, SharingEnded, DayClosed, EstimateOverActual, ReadingMissing, HolderMissing, JournalTooShort, HistoryFull}

-- the terms are numbered in the order in which they are given
abbrev pub number_of_term : Term → ℕ
number_of_term Places = 1
number_of_term Days = 2
number_of_term Capacity = 3

-- the tables are numbered in the order in which calls take them
abbrev pub number_of_table : Table → ℕ
number_of_table Holders = 1
number_of_table Rows = 2
number_of_table Readings = 3
number_of_table Issued = 4
number_of_table Journal = 5

-- number and spot of each refusal
abbrev pub refused : Fault → ℕ × ℕ
refused (FileTooShort found) = (1, found)
refused AnotherMark = (2, 0)
refused AnotherVersion = (3, 3)
refused AnotherKind = (4, 5)
refused CountNotAllowed = (5, 6)
refused (AnotherLength found) = (6, found)
refused (TermOutsideLimits term) = (7, number_of_term term)
refused (ArgumentOutsideLimits argument) = (8, argument)
refused (UnlawfulRow period) = (9, period)
refused (AfterGate gate) = (10, gate)
refused (AnotherSize table) = (11, number_of_table table)
refused (OutputTooShort needed) = (12, needed)
refused (Spoiled table) = (13, number_of_table table)
refused (SenderNotPrimary day) = (14, day)
refused (SharingEnded day) = (15, day)
refused (DayClosed day) = (16, day)
refused (EstimateOverActual period) = (17, period)
refused (ReadingMissing period) = (18, period)
refused (HolderMissing place) = (19, place)
refused (JournalTooShort needed) = (20, needed)
refused (HistoryFull needed) = (21, needed)
