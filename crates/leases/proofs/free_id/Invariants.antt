-- `free_id`: the search over all the candidates is the search over what is left, and so for the rows that are looked at for each.
use Prim.Native.Nat.{◌-◌, ◌≤◌}
use mathlib.Core.Path.{◌≡◌}
use Rattle.rules.specs.Sizes.{row_count, candidate_count}
use Rattle.rules.specs.Searches.{first_from}
use Rattle.rules.specs.Tables.{live_with_id}
use Rattle.rules.specs.Leases.{first_free}
use Rattle.leases.proofs.LeaseIds.{is_free}
use Rattle.leases.proofs.free_id.Given as goal

abbrev pub invariant-loop-row : goal.invariant-loop-row
invariant-loop-row l =
    (l.row ≤ row_count) × (l.k ≡ l.initial.k) × (first_from (live_with_id l.leases l.time l.id) 0 row_count ≡ first_from (live_with_id l.leases l.time l.id) l.row (row_count - l.row))

abbrev pub decreases-loop-row : goal.decreases-loop-row
decreases-loop-row l = row_count - l.row

abbrev pub invariant-candidates : goal.invariant-candidates
invariant-candidates l =
    (l.k ≤ candidate_count) × (first_free l.leases l.time l.random ≡ first_from (is_free l.leases l.time l.random) l.k (candidate_count - l.k))

abbrev pub decreases-candidates : goal.decreases-candidates
decreases-candidates l = candidate_count - l.k
