-- `spare_row`: the search over all the rows is the search over what is left.
use Prim.Native.Nat.{◌-◌, ◌≤◌}
use mathlib.Core.Path.{◌≡◌}
use Rattle.rules.specs.Leases.{spare_row}
use Rattle.spare_rows.specs.Earliest.{earliest_from}
use Rattle.spare_rows.proofs.spare_row.Given as goal

abbrev pub invariant-loop-row : goal.invariant-loop-row
invariant-loop-row l =
    (l.row ≤ l.end) × (l.best ≤ l.end) × (spare_row l.leases l.time l.partner ≡ earliest_from l.leases l.time l.end l.best l.row (l.end - l.row))

abbrev pub decreases-loop-row : goal.decreases-loop-row
decreases-loop-row l = l.end - l.row
