-- `short`: of bytes, the length is the only question.
use mathlib.Core.Path.{sym}
use native.Mathlib.Omega.{arith}
use Rattle.octets.proofs.Tests.{short-is}
use Rattle.octet_comparisons.proofs.short.Goals as goal

pub returns : goal.returns
returns c = sym (short-is c.args.n c.args.s.now (λ i. omega (arith, c.type_inv.s i)))
