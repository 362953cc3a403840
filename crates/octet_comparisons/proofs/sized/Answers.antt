-- `sized`: of bytes, the length is the only question.
use mathlib.Core.Path.{sym}
use native.Mathlib.Omega.{arith}
use Rattle.octets.proofs.Tests.{sized-is}
use Rattle.octet_comparisons.proofs.sized.Goals as goal

pub returns : goal.returns
returns c = sym (sized-is c.args.n c.args.s.now (λ i. omega (arith, c.type_inv.s i)))
