-- `cookie_of`: the bytes of a part that the table has whole.
use mathlib.Core.Path.{◌≡◌}
use Prim.Native.Nat.{◌+◌, ◌-◌}
use native.Mathlib.Omega.{arith}
use Rattle.octets.specs.Octets.{part}
use Rattle.rules.specs.Tables.{cookie_of}
use Rattle.lease_table.proofs.Leases.cookie_of.Goals as goal

pub returns : goal.returns
unfolding cookie_of part
returns c =
    let at = c.cookie_at-at.result in
    let size : at + 24 - at ≡ 24 = omega arith in
    rw (size, c.cookie_at-at.ensures, ← c.self.view_is)
