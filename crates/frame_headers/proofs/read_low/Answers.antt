-- `read_low`: the type is one byte at most.
use Rattle.frame_headers.proofs.Headers.{type_used}
use Rattle.frame_headers.proofs.read_low.Goals as goal
use native.Mathlib.Omega.{arith}
use Prim.Native.Nat.{◌≤◌}
use Rattle.frame_headers.specs.Headers.{used}

pub behind-requires : goal.behind-requires
behind-requires c = let few : used c.read_type.result ≤ 1 = rw c.read_type.ensures (type_used _ _) in omega arith
