-- `without_bit`: an and with all other bits.
use Prim.Native.Nat.{ℕ, ◌-◌, ◌^◌}
use mathlib.Core.Path.{ap, ◌∙◌}
use native.Mathlib.Omega.{arith}
use lib.Bits.{bit_and}
use Rattle.connection_map.proofs.Bits.{one_at, and_without}
use Rattle.connection_bits.proofs.without_bit.Goals as goal

pub returns : goal.returns
returns c =
    let m = c.args.map in
    ap (λ (n : ℕ). bit_and m (2 ^ 64 - 1 - n)) (one_at c.args.c (omega (arith, c.requires))) ∙ and_without c.args.c 63 m (omega (arith, c.requires)) (omega arith)
