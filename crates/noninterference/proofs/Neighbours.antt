-- "Neighbours share two things only: ids already live, and the clock": a call that finds its partner's records, the others' live ids, the
-- clock and the term the same gives the same answer and buffers, and leaves its partner's records the same. Assumes nothing.
use Prim.Native.Nat.{ℕ, zero, suc, ◌+◌, ◌/◌, ◌≤◌, ◌<◌}
use mathlib.Core.Path.{◌≡◌, refl, sym, ap, ap₂, ◌∙◌}
use mathlib.Core.Logic.{◌≢◌}
use mathlib.Core.Bool.{Bool, true, not, ◌&&◌}
use mathlib.Core.List.{List}
use native.Mathlib.Omega.{arith}
use native.Mathlib.Decide.{ℕ_discrete}
use lib.Dec.{eqb, lit≤}
use borrow.Author.Tests.{ne_eqb, eqb-false, not-true}
use Rattle.octets.specs.Octets.{number, number_at}
use Rattle.octets.proofs.Tests.{both_left, both_right}
use Rattle.rules.specs.Sizes.{row_count, connection_bytes, lease_bytes, allowance_bytes}
use Rattle.rules.specs.Searches.{any_from}
use Rattle.rules.specs.Tables.{Tables, partner_of, owner_of, allowance_at, id_of, live_with_id, bucket_of, clock, lease_term}
use Rattle.rules.specs.Leases.{id_taken, has_its_id, id_elsewhere}
use Rattle.rules.specs.Calls.{Call, time_of, caller_of}
use Rattle.rules.specs.Charges.{charged, price, charge}
use Rattle.rules.specs.Checks.{check}
use Rattle.rules.specs.Step.{outcome, done, step}
use Rattle.rules.specs.Bytes.{SameAt}
use Rattle.noninterference.specs.Reading.{allowance_record, live_under_others, SameToRead, SameToCaller}
use Rattle.rules.proofs.Records.{field-same}
use Rattle.rules.proofs.Same.{same-put, records_to_bytes, bytes_to_records}
use Rattle.rules.proofs.Searches.{any_passes, any_found, any_alike}
use Rattle.noninterference.proofs.Reading.{by_both, InLeases, id_same, with_id_same}
use Rattle.noninterference.proofs.SamePlans.{Alike, check-same, plan-same, price-same, sends-same}
use Rattle.rules.proofs.Answers.{answer-is-check}
use Rattle.rules.proofs.Metered.{clock_takes_time}
use Rattle.rules.proofs.Terms.{term_kept}

bucket-same : (al bl : List ℕ) (p : ℕ) → allowance_record al p ≡ allowance_record bl p → bucket_of al p ≡ bucket_of bl p
unfolding bucket_of number_at
bucket-same al bl p e =
    let z : allowance_at p + 0 ≡ allowance_at p = omega arith in
    ap₂ (λ (l u : ℕ). record { level = l; updated = u })
    (ap number (rw z at (field-same allowance_bytes p bl al e 0 8 (lit≤ tt))))
    (ap number (field-same allowance_bytes p bl al e 8 8 (lit≤ tt)))

-- on 0 the clock takes the time of the call
clocked : (tables : Tables) (call : Call) → check tables call ≡ 0 → clock (outcome 0 tables call).tables.allowances ≡ time_of call
unfolding step
clocked tables call e = rw e at (clock_takes_time tables call (answer-is-check tables call ∙ e))

-- no call writes the term
kept : (tables : Tables) (call : Call) → check tables call ≡ 0 → lease_term (outcome 0 tables call).tables.allowances ≡ lease_term tables.allowances
unfolding step
kept tables call e = rw e at (term_kept tables call)

-- ---- ids already live

-- Rows of which g holds, of all partners but p among them: an id that is live in one of them in one table is so in the other.
module _ (now p : ℕ) (g : ℕ → Bool) (all : (r : ℕ) → owner_of r ≢ p → g r ≡ true) where
  abbrev test : List ℕ → ℕ → ℕ → Bool
  test ls id r = g r && live_with_id ls now id r

  record SameLive (ls ms : List ℕ) : Type 0 where
    own : (id r : ℕ) → owner_of r ≡ p → live_with_id ls now id r ≡ live_with_id ms now id r
    others : (id : ℕ) → live_under_others ls now p id ≡ live_under_others ms now p id

  live_in_other : (ls ms : List ℕ) → SameLive ls ms → (id r : ℕ) → 0 ≤ r → r < 0 + row_count → test ls id r ≡ true
      → any_from (test ms id) 0 row_count ≡ true
  unfolding live_under_others
  live_in_other ls ms s id r low high h = go (ℕ_discrete (owner_of r) p)
    where
      go : Dec (owner_of r ≡ p) → any_from (test ms id) 0 row_count ≡ true
      go (yes o) = any_passes (test ms id) 0 row_count r low high (rw (← s.own id r o) h)
      go (no n) =
          let there = any_passes (λ r. not (eqb (owner_of r) p) && live_with_id ls now id r) 0 row_count r low high
          (rw (ne_eqb (owner_of r) p n) (both_right (g r) _ h)) in
          let k = any_found (λ r. not (eqb (owner_of r) p) && live_with_id ms now id r) 0 row_count (sym (s.others id) ∙ there) in
          let other = eqb-false (owner_of k.0) p (not-true _ (both_left _ _ k.3)) in
          any_passes (test ms id) 0 row_count k.0 k.1 k.2 (rw (all k.0 other) (both_right (not (eqb (owner_of k.0) p)) _ k.3))

  same_live : (ls ms : List ℕ) → SameLive ls ms → (id : ℕ) → any_from (test ls id) 0 row_count ≡ any_from (test ms id) 0 row_count
  same_live ls ms s id =
      let back : SameLive ms ls = record { own = λ i r o. sym (s.own i r o); others = λ i. sym (s.others i) } in
      any_alike (test ls id) (test ms id) 0 row_count (live_in_other ls ms s id) (live_in_other ms ls back id)

-- ---- a call

module _ (a b : Tables) (call : Call) (read : SameToRead (caller_of call) (time_of call) a b) where
  abbrev Own : ℕ → Type 0
  Own q = q ≡ caller_of call

  abbrev InAllowances : ℕ → Type 0
  InAllowances i = Own (i / allowance_bytes)

  rows : SameAt (InLeases Own) a.leases b.leases
  rows = records_to_bytes lease_bytes (lit≤ tt) (λ r. Own (owner_of r)) read.sizes.leases read.own.leases

  ids_alike : (g : ℕ → Bool) (all : (r : ℕ) → owner_of r ≢ caller_of call → g r ≡ true)
      → SameLive (time_of call) (caller_of call) g all a.leases b.leases
  ids_alike g all = record { own = λ id r o. with_id_same Own a.leases b.leases rows (time_of call) id r o; others = read.live_ids }

  taken-same : (id : ℕ) → id_taken a.leases (time_of call) id ≡ id_taken b.leases (time_of call) id
  unfolding id_taken
  taken-same id = same_live (time_of call) (caller_of call) (λ r. true) (λ r n. refl) _ _ (ids_alike _ _) id

  -- a row of another partner is another row
  elsewhere-same : (r : ℕ) → Own (owner_of r) → id_elsewhere a.leases (time_of call) r ≡ id_elsewhere b.leases (time_of call) r
  unfolding id_elsewhere has_its_id
  elsewhere-same r o =
      let beside : ℕ → Bool = λ k. not (eqb k r) in
      let all : (k : ℕ) → owner_of k ≢ caller_of call → beside k ≡ true = λ k n. rw (ne_eqb k r (λ e. n (ap owner_of e ∙ o))) in
      same_live (time_of call) (caller_of call) beside all a.leases b.leases (ids_alike beside all) (id_of a.leases r)
      ∙ ap (λ (id : ℕ). any_from (test (time_of call) (caller_of call) beside all b.leases id) 0 row_count)
      (id_same Own a.leases b.leases rows r o)

  alike : Alike Own (λ i. Own (partner_of (i / connection_bytes))) a b call
  alike = record {
    mine = refl;
    heads = λ c i h l u. let e : partner_of (i / connection_bytes) ≡ partner_of c = omega arith in e ∙ h;
    sizes = read.sizes;
    connections = records_to_bytes connection_bytes (lit≤ tt) (λ c. Own (partner_of c)) read.sizes.connections read.own.connections;
    leases = rows;
    live_ids = taken-same;
    elsewhere = elsewhere-same;
    allowance = bucket-same _ _ (caller_of call) (read.own.allowances (caller_of call) refl);
    clocks = read.clocks;
    terms = read.terms;
  }

  charge-same : (amount : ℕ) → SameAt InAllowances (charge a.allowances call amount) (charge b.allowances call amount)
  unfolding charge
  charge-same amount =
      let s = records_to_bytes allowance_bytes (lit≤ tt) Own read.sizes.allowances read.own.allowances in
      rw alike.allowance (by_both (SameAt InAllowances) (charged call) _ refl (λ e. same-put s _ _) (λ e. s))

  pub reads_own : SameToCaller (caller_of call) (step a call) (step b call)
  unfolding step done
  reads_own = rw (← check-same alike) (go (check a call) refl)
    where
      go : (n : ℕ) → check a call ≡ n → SameToCaller (caller_of call) (outcome n a call) (outcome n b call)
      go zero e =
          let x = plan-same alike in
          record {
            told = sends-same a b call x;
            own = record {
              connections = bytes_to_records connection_bytes (lit≤ tt) (λ c. Own (partner_of c)) x.connections;
              leases = bytes_to_records lease_bytes (lit≤ tt) (λ r. Own (owner_of r)) x.leases;
              allowances = bytes_to_records allowance_bytes (lit≤ tt) Own (same-put (rw (← price-same alike) (charge-same (price a call))) _ _);
            };
            clocks = clocked a call e ∙ sym (clocked b call (sym (check-same alike) ∙ e));
            terms = kept a call e ∙ read.terms ∙ sym (kept b call (sym (check-same alike) ∙ e));
          }
      go (suc n) e = record {
        told = record { answer = refl; reply = refl; relay = refl };
        own = read.own;
        clocks = read.clocks;
        terms = read.terms;
      }
