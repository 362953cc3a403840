-- What every run from a fresh start keeps. (Demand 3 of such runs: crate rules, Laws.) Assumes nothing.
use Rattle.std.specs.Prelude.{if◌then◌else◌}
use Prim.Native.Nat.{ℕ, ◌≤◌}
use mathlib.Core.Path.{◌≡◌}
use mathlib.Core.List.{List}
use lib.Dec.{eqb}
use Rattle.rules.specs.Tables.{Tables, clock}
use Rattle.rules.specs.Calls.{Call}
use Rattle.rules.specs.Step.{start}
use Rattle.rules.specs.Runs.{after}
use Rattle.invariants.specs.Invariants.{DistinctIds, SpareZero, InTime, EndsWithin}
use Rattle.rules.proofs.Demand3.{started-fresh}
use Rattle.rules.proofs.Terms.{run_term}
use Rattle.invariants.proofs.DistinctIds.{distinct_later, distinct_fresh}
use Rattle.invariants.proofs.Ids.{run_distinct}
use Rattle.invariants.proofs.Spare.{fresh-spare, run_spare}
use Rattle.invariants.proofs.Timely.{run_in_time}
use Rattle.invariants.proofs.Ends.{run_ends, fresh-ends}

module _ (lent : Tables) (now term : ℕ) (e : (start lent now term).answer.number ≡ 0) where
  abbrev made : Tables
  made = (start lent now term).tables

  -- Live ids stay distinct, at any time from the clock on.
  pub live_ids_distinct : (calls : List Call) (t : ℕ) → clock (after made calls).allowances ≤ t → DistinctIds (after made calls).leases t
  live_ids_distinct calls t l = distinct_later _ _ t l (run_distinct calls made (rw (started-fresh lent now term e) (distinct_fresh now term _)))

  -- Bytes 3, 14 and 15 of every connection record and 13-15 of every lease row are zero.
  pub spare-bytes-zero : (calls : List Call) → SpareZero (after made calls)
  spare-bytes-zero calls = run_spare calls made (rw (started-fresh lent now term e) (fresh-spare now term))

  -- Byte 2 of every connection record is 0 or 1, and no stored time is after the clock: other values come from other tables.
  pub times_in_order : (calls : List Call) → InTime (after made calls)
  times_in_order calls = rw (started-fresh lent now term e) (run_in_time calls now term)

  -- No lease ends later than the term after the clock: the term that the start named, 600 if it named 0.
  pub leases-end_in_term : (calls : List Call) → EndsWithin (if eqb term 0 then 600 else term) (after made calls)
  leases-end_in_term calls = rw (← run_term lent now term e calls) (run_ends calls made (rw (started-fresh lent now term e) (fresh-ends now term)))
