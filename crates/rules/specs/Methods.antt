-- The methods of the house, by their numbers.
use Rattle.std.specs.Prelude.{ℕ}
use Rattle.rules.specs.declared.house.Method.{Method}
use Rattle.rules.specs.declared.house.Method.TheVariants.{Percentage, CappedBlock, FixedBlock, MultipleBlock, PercentageAfterOne, MultipleAfterOne, PercentageAfterTwo}

-- the number that a row has for a method
abbrev pub number_of_method : Method → ℕ
number_of_method Percentage = 1
number_of_method CappedBlock = 2
number_of_method FixedBlock = 3
number_of_method MultipleBlock = 4
number_of_method PercentageAfterOne = 5
number_of_method MultipleAfterOne = 6
number_of_method PercentageAfterTwo = 7
