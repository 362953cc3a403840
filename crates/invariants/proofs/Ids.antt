-- Live ids stay distinct, call by call. Assumes nothing.
use Prim.Native.Nat.{ℕ, ◌<◌}
use mathlib.Core.Path.{◌≡◌}
use mathlib.Core.List.{List}
use native.Mathlib.Omega.{arith}
use lib.ListN.{length}
use Rattle.svsc.specs.Messages.{cookie_bytes}
use Rattle.rules.specs.Sizes.{connection_count, leases_size}
use Rattle.rules.specs.Tables.{Tables, id_of, clock}
use Rattle.rules.specs.Leases.{lease_end}
use Rattle.rules.specs.Calls.{Call, time_of, connection_of}
use Rattle.rules.specs.Step.{step}
use Rattle.rules.specs.Runs.{after}
use Rattle.invariants.specs.Invariants.{DistinctIds}
use Rattle.rules.proofs.Records.{length-part-most}
use Rattle.rules.proofs.Checks.{passed}
use Rattle.rules.proofs.Answers.{done_passed}
use Rattle.rules.proofs.Runs.{run_keeps}
use Rattle.rules.proofs.Decisions.{is-renewed, is-granted, is_extended}
use Rattle.rules.proofs.Leases.{no_id, renewable-exactly}
use Rattle.rules.proofs.Metered.{clock_takes_time}
use Rattle.invariants.proofs.DistinctIds.{distinct_later, distinct_grant, distinct_renew, distinct_extend, distinct_release}
use Rattle.invariants.proofs.Writings.{EachWriting, every_writing}

module _
    (tables : Tables) (now c : ℕ) (size : length tables.leases ≡ leases_size) (c< : c < connection_count)
    (d : DistinctIds tables.leases now)
  where
    open tables use {connections as cs, leases as ls, allowances as al}

    each_distinct : EachWriting (λ ms. DistinctIds ms now) tables now c
    each_distinct = record {
      before = d;
      grants = λ random cookie row id drawn e.
          let g = is-granted ls now c random cs cookie row id drawn e in
          distinct_grant ls now d row (lease_end al now) id drawn c size (omega (arith, g.own.high)) g.id_small g.id_free
          (rw g.cookie_is (length-part-most random 0 cookie_bytes));
      renews = λ random cookie row e.
          let alone = ((renewable-exactly cs ls now cookie row).0 (is-renewed ls now c random cs cookie row e).passes).id_alone in
          distinct_renew ls now d row (lease_end al now) c (λ r r< n. no_id ls now (id_of ls row) r (alone r r< n));
      extends = λ cookie h. distinct_extend ls now d _ (lease_end al now) (is_extended ls now c cookie h).1;
      releases = distinct_release ls now c d;
    }

-- at the clock of the tables
abbrev pub AtClock : Tables → Type 0
AtClock tables = DistinctIds tables.leases (clock tables.allowances)

done_distinct : (tables : Tables) (call : Call) → (step tables call).answer.number ≡ 0 → AtClock tables → AtClock (step tables call).tables
done_distinct tables call e d =
    let ok = passed tables call (done_passed tables call e) in
    let later = distinct_later tables.leases (clock tables.allowances) (time_of call) ok.in_order d in
    rw (clock_takes_time tables call e)
    (every_writing (λ ms. DistinctIds ms (time_of call)) tables call e (each_distinct tables (time_of call) (connection_of call) ok.leases ok.known later))

pub run_distinct : (calls : List Call) (tables : Tables) → AtClock tables → AtClock (after tables calls)
run_distinct = run_keeps AtClock done_distinct
