-- No lease ends later than the term after the clock, call by call. Assumes nothing.
use Prim.Native.Nat.{ℕ, ◌+◌, ◌^◌, ◌≤◌, ◌<◌}
use mathlib.Core.Path.{◌≡◌, refl, ap, ◌∙◌}
use mathlib.Core.Logic.{◌≢◌}
use mathlib.Core.List.{List}
use native.Mathlib.Omega.{arith}
use native.Mathlib.Decide.{ℕ_discrete}
use lib.ListN.{length}
use Rattle.svsc.specs.Messages.{cookie_bytes}
use Rattle.rules.specs.Sizes.{row_count, rows_per_partner, connection_count, leases_size, time_limit}
use Rattle.rules.specs.Searches.{first_row}
use Rattle.rules.specs.Tables.{Tables, partner_of, expiry, lease_term, fresh}
use Rattle.rules.specs.Leases.{lease_end, row_to_extend, release}
use Rattle.rules.specs.Calls.{Call, time_of, connection_of}
use Rattle.rules.specs.Bytes.{lease_record}
use Rattle.rules.specs.Step.{step}
use Rattle.rules.specs.Runs.{after}
use Rattle.invariants.specs.Invariants.{EndsWithin}
use Rattle.rules.proofs.Records.{length-part-most}
use Rattle.rules.proofs.Checks.{passed}
use Rattle.rules.proofs.Answers.{done_passed}
use Rattle.rules.proofs.Runs.{run_keeps}
use Rattle.rules.proofs.Decisions.{is-renewed, is-granted, is_extended}
use Rattle.rules.proofs.Rows.{kept-expiry, kept-grant, kept-renew, expiry-set, expiry-granted, renewed-row}
use Rattle.rules.proofs.Metered.{clock_takes_time}
use Rattle.rules.proofs.Terms.{term_most, term_kept}
use Rattle.invariants.proofs.DistinctIds.{expiry-same, release_keeps, fresh-expiry}
use Rattle.invariants.proofs.Writings.{EachWriting, every_writing}

module _
    (tables : Tables) (now c : ℕ) (size : length tables.leases ≡ leases_size) (c< : c < connection_count) (now< : now < time_limit)
    (before : (r : ℕ) → r < row_count → expiry tables.leases r ≤ now + lease_term tables.allowances)
  where
    open tables use {connections as cs, leases as ls, allowances as al}

    abbrev Ends : List ℕ → Type 0
    Ends ms = (r : ℕ) → r < row_count → expiry ms r ≤ now + lease_term al

    until< : lease_end al now < 256 ^ 8
    unfolding lease_end
    until< = omega (arith, term_most al)

    -- one row is written, and ends the term from now
    written : (ms : List ℕ) (row : ℕ) → expiry ms row ≡ lease_end al now → ((r : ℕ) → r ≢ row → lease_record ms r ≡ lease_record ls r) → Ends ms
    unfolding lease_end
    written ms row e same r r< = go (ℕ_discrete r row)
      where
        go : Dec (r ≡ row) → expiry ms r ≤ now + lease_term al
        go (yes q) = omega (arith, ap (expiry ms) q ∙ e)
        go (no n) = omega (arith, expiry-same ls ms r (same r n), before r r<)

    released : Ends (release ls c)
    unfolding release
    released r r< = omega (arith, (release_keeps r rows_per_partner ls c (first_row (partner_of c))).0, before r r<)

    each_ends : EachWriting Ends tables now c
    each_ends = record {
      before = before;
      grants = λ random cookie row id drawn e.
          let g = is-granted ls now c random cs cookie row id drawn e in
          let row< : row < row_count = omega (arith, g.own.high) in
          written _ row (expiry-granted ls row (lease_end al now) id drawn c size row< until<)
          (λ r n.
          (kept-grant {Other = λ r. r ≢ row} ls row (lease_end al now) id drawn c (λ n. n refl)
          (rw g.cookie_is (length-part-most random 0 cookie_bytes))).at r n);
      renews = λ random cookie row e.
          let row< : row < row_count = omega (arith, (is-renewed ls now c random cs cookie row e).own.high) in
          written _ row (renewed-row ls row (lease_end al now) c size row< until<).expiry_is
          (λ r n. (kept-renew {Other = λ r. r ≢ row} ls row (lease_end al now) c (λ n. n refl)).at r n);
      extends = λ cookie h.
          let row< : row_to_extend ls now c cookie < row_count = omega (arith, (is_extended ls now c cookie h).0.high) in
          written _ _ (expiry-set ls (row_to_extend ls now c cookie) (lease_end al now) size row< until<)
          (λ r n. (kept-expiry {Other = λ r. r ≢ row_to_extend ls now c cookie} ls _ (λ n. n refl) (lease_end al now)).at r n);
      releases = released;
    }

-- within the term of the tables
abbrev pub InTerm : Tables → Type 0
InTerm tables = EndsWithin (lease_term tables.allowances) tables

done-ends : (tables : Tables) (call : Call) → (step tables call).answer.number ≡ 0 → InTerm tables → InTerm (step tables call).tables
done-ends tables call e d =
    let ok = passed tables call (done_passed tables call e) in
    let later : (r : ℕ) → r < row_count → expiry tables.leases r ≤ time_of call + lease_term tables.allowances =
    λ r r<. omega (arith, d r r<, ok.in_order) in
    rw (clock_takes_time tables call e, term_kept tables call)
    (every_writing _ tables call e (each_ends tables (time_of call) (connection_of call) ok.leases ok.known ok.in_limit later))

pub run_ends : (calls : List Call) (tables : Tables) → InTerm tables → InTerm (after tables calls)
run_ends = run_keeps InTerm done-ends

-- in fresh tables no row has been leased
pub fresh-ends : (now term : ℕ) → InTerm (fresh now term)
unfolding expiry fresh
fresh-ends now term r r< = omega (arith, fresh-expiry r r<)
