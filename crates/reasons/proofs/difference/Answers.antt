-- `difference`: both numbers are small enough for a signed one.
use native.Mathlib.Omega.{arith}
use Rattle.reasons.proofs.Signed.{fits, back}
use Rattle.reasons.proofs.difference.Goals as goal

pub overflow_sub-result : goal.overflow_sub-result
overflow_sub-result c = fits c.args.level c.args.cost (omega arith)

pub returns : goal.returns
returns c = back c.args.level c.args.cost (omega arith)
