-- `copy`: the slice holds the first i bytes of s.
use mathlib.Core.Path.{◌≡◌}
use lib.ListN.{length, take}
use Rattle.octets.specs.Octets.{put}
use Rattle.octet_stores.proofs.copy.Given as goal

abbrev pub invariant-loop-i : goal.invariant-loop-i
invariant-loop-i l = (l.t ≡ put l.initial.t l.at (take l.i l.s)) × (length l.t ≡ length l.initial.t)
