-- The numbers of the refusals (01, "Answer numbers and their order"), and what a checked call is answered with.
use Rattle.std.specs.Prelude.{ℕ, Result, Ok, Err}
use Rattle.refusal_numbers.specs.declared.Refusal.{Refusal}
use Rattle.refusal_numbers.specs.declared.Refusal.TheVariants as case

abbrev pub number_of : Refusal → ℕ
number_of case.WrongSizes = 1
number_of case.WrongTime = 2
number_of case.UnknownConnection = 3
number_of case.WrongState = 4
number_of case.WrongLengths = 5
number_of case.Malformed = 6
number_of case.NotPermitted = 7
number_of case.NoSession = 8
number_of case.OverAllowance = 9

-- 0 where nothing refuses it
abbrev pub answer_number : {A : Type 0} → Result A Refusal → ℕ
answer_number (Ok x) = 0
answer_number (Err refusal) = number_of refusal
