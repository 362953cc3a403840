-- `with_bit`: an or.
use mathlib.Core.Path.{ap, ◌∙◌}
use native.Mathlib.Omega.{arith}
use lib.Bits.{bit_or}
use Rattle.connection_map.proofs.Bits.{one_at, or-with}
use Rattle.connection_bits.proofs.with_bit.Goals as goal

pub returns : goal.returns
returns c = ap (bit_or c.args.map) (one_at c.args.c (omega (arith, c.requires))) ∙ or-with c.args.c c.args.map
