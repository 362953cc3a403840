-- `bytes`: the last i bytes are stored, and the rest of the number is left.
use Prim.Native.Nat.{◌-◌, ◌/◌, ◌^◌}
use mathlib.Core.Path.{◌≡◌}
use mathlib.Core.List.{◌++◌}
use lib.ListN.{replicate}
use Rattle.octets.specs.Octets.{big_endian}
use Rattle.octets.proofs.bytes.Given as goal

abbrev pub invariant-loop-i : goal.invariant-loop-i
invariant-loop-i g l = record { rest : l.rest ≡ l.v / 256 ^ l.i; stored : l.held ≡ replicate (g.row.N - l.i) 0 ++ big_endian l.i l.v }
