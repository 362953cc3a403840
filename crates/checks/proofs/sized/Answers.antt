-- `sized`: three tests.
use mathlib.Core.Path.{refl}
use Rattle.rules.specs.Tables.{sized}
use Rattle.checks.proofs.sized.Goals as goal

pub returns : goal.returns
unfolding sized
returns c = refl
