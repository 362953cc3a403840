-- `allowance::level_now` gives the level of 01 for any three numbers.
use native.Mathlib.Omega.{arith}
use Rattle.allowance.specs.Bucket.{level_now}
use Rattle.allowance.proofs.level_now.Goals as goal

pub returns : goal.returns
unfolding level_now
returns c = omega arith
