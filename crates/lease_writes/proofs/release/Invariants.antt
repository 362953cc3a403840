-- `release`: the release of all the rows is the release of what is left.
use Prim.Native.Nat.{◌-◌, ◌≤◌}
use mathlib.Core.Path.{◌≡◌}
use lib.ListN.{length}
use Rattle.rules.specs.Leases.{release, release_from}
use Rattle.lease_writes.proofs.release.Given as goal

abbrev pub invariant-loop-row : goal.invariant-loop-row
invariant-loop-row l =
    (l.row ≤ l.row-end) × (length l.leases ≡ length l.initial.leases) × (release l.initial.leases l.c ≡ release_from l.leases l.c l.row (l.row-end - l.row))

abbrev pub decreases-loop-row : goal.decreases-loop-row
decreases-loop-row l = l.row-end - l.row
