-- `is_renewable`: the sentence, where the first three of its parts hold and where one fails.
use Rattle.std.proofs.lemmas.Bool.Decides.{nat_tests}
use native.Mathlib.Omega.{arith}
use Rattle.rules.specs.Leases.{renewable}
use Rattle.std.proofs.lemmas.Grind.{common_steps}
use Rattle.renewals.proofs.is_renewable.Goals as goal

pub returns-then-not-is_held : goal.returns-then-not-is_held
unfolding renewable
returns-then-not-is_held c = grind (arith, nat_tests, common_steps)

pub returns-else-not-is_held : goal.returns-else-not-is_held
unfolding renewable
returns-else-not-is_held c = grind (arith, nat_tests, common_steps)
