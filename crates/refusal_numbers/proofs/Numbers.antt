-- No refusal has the number of a call that is done. Assumes nothing.
use Rattle.std.proofs.Common.{◌≡◌, arith}
use Rattle.refusal_numbers.specs.declared.Refusal.{Refusal}
use Rattle.refusal_numbers.specs.declared.Refusal.TheVariants as case
use Rattle.refusal_numbers.specs.Numbers.{number_of}

pub number-some : (refusal : Refusal) → number_of refusal ≡ 0 → ⊥
number-some case.WrongSizes z = omega arith
number-some case.WrongTime z = omega arith
number-some case.UnknownConnection z = omega arith
number-some case.WrongState z = omega arith
number-some case.WrongLengths z = omega arith
number-some case.Malformed z = omega arith
number-some case.NotPermitted z = omega arith
number-some case.NoSession z = omega arith
number-some case.OverAllowance z = omega arith
