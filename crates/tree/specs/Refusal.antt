-- What an entry answers, in the numbers of the rules: the value, or the number of the refusal. Definitions only.
use Rattle.std.specs.Prelude.{ℕ, Result, Ok, Err}
use Rattle.tree.specs.Refuse.{Outcome, refused, gives}
use Rattle.tree.specs.declared.Refusal.{Refusal}
use Rattle.tree.specs.declared.Refusal.TheVariants.{UnfitLengths, TooMany, ShortOutput, NothingToMatch, OutsideIndex}

abbrev pub number_of : Refusal → ℕ
number_of UnfitLengths = 1
number_of TooMany = 2
number_of ShortOutput = 3
number_of NothingToMatch = 4
number_of OutsideIndex = 5

abbrev pub outcome_of : {A : Type 0} → Result A Refusal → Outcome A
outcome_of (Ok a) = gives a
outcome_of (Err e) = refused (number_of e)
