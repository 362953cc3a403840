-- Bytes 3, 14 and 15 of a connection record and 13-15 of a lease row: zero in fresh tables, and still zero after every call. Assumes nothing.
use Prim.Native.Nat.{ℕ, zero, suc, ◌+◌, ◌/◌, ◌%◌, ◌≤◌, ◌<◌}
use mathlib.Core.Path.{◌≡◌, refl, ◌∙◌}
use mathlib.Core.Logic.{◌⊎◌, inl, inr, ⊎_elim}
use mathlib.Core.Bool.{Bool, false}
use mathlib.Core.List.{List, [], ◌∷◌}
use native.Mathlib.Omega.{arith}
use native.Mathlib.Decide.{ℕ_discrete, dec_lt}
use lib.Dec.{eqb, ltb, lit≤}
use lib.ListN.{length, set, replicate}
use lib.Seq.{get_or-set_same, get_or-set_other, set_out}
use borrow.Author.Tests.{ne_eqb}
use Rattle.octets.specs.Octets.{byte_at, big_endian, put}
use Rattle.octets.proofs.Parts.{byte_past}
use Rattle.octets.proofs.Numbers.{length-big_endian}
use Rattle.svsc.specs.Messages.{cookie_bytes}
use Rattle.rules.specs.Sizes.{rows_per_partner, connection_count, row_count, connection_bytes, lease_bytes, time_bytes, nobody}
use Rattle.rules.specs.Searches.{first_row, end_row}
use Rattle.rules.specs.Tables.{Tables, partner_of, connection_at, peer_at, keys_at, keys_bytes, awaiting, opened, peer, has_session, set_state, set_peer, set_unanswered, lease_at, id_at, holder_at, cookie_at, set_expiry, set_id, set_holder, fresh_connection, fresh}
use Rattle.rules.specs.Leases.{decide_lease, lease_end, grant, renew, row_to_extend, release_from, release}
use Rattle.rules.specs.Sessions.{EstablishDecision, refused_with, established_with, decide_establish, clear, await, join, leave, end_session, establish}
use Rattle.rules.specs.Keepalives.{ask, answered, stamp}
use Rattle.rules.specs.Calls.{Call, time_of, connection_of}
use Rattle.rules.specs.Charges.{received}
use Rattle.rules.specs.Plans.{Plan, plan_open, plan_version_answer, plan_lease, plan_extension, plan_establish, plan_end, plan_data, plan_close, plan_call, answered_by, plan}
use Rattle.rules.specs.Step.{step, done}
use Rattle.rules.specs.Runs.{after}
use Rattle.invariants.specs.Invariants.{IsSpare, SpareZero}
use Rattle.rules.proofs.Records.{length-part-most}
use Rattle.rules.proofs.Connections.{keys_most}
use Rattle.rules.proofs.Rows.{by-holder}
use Rattle.rules.proofs.Fresh.{zeros, fresh-connection, fresh-row, fresh-sizes}
use Rattle.rules.proofs.Answers.{is-done, done_passed}
use Rattle.rules.proofs.Runs.{run_keeps}
use Rattle.rules.proofs.Decisions.{is-granted}
use Rattle.rules.proofs.Plans.{Each, kind_of, every_plan, by-lease, by_test}
use Rattle.rules.proofs.Marks.{by_caller}

-- a byte that is zero stays so where a store puts zero there, or stores elsewhere
zero-put : (xs : List ℕ) (at : ℕ) (vs : List ℕ) (i : ℕ) → byte_at xs i ≡ 0 → ((j : ℕ) → at + j ≡ i → byte_at vs j ≡ 0)
    → byte_at (put xs at vs) i ≡ 0
unfolding put
zero-put xs at [] i z h = z
zero-put xs at (v ∷ vs) i z h =
    zero-put (set xs at v) (suc at) vs i (go (ℕ_discrete i at) (dec_lt at (length xs))) (λ j e. h (suc j) (omega arith))
  where
    go : Dec (i ≡ at) → Dec (at < length xs) → byte_at (set xs at v) i ≡ 0
    go (no n) l = get_or-set_other xs at i v 0 n ∙ z
    go (yes e) (yes l) = rw e (get_or-set_same xs at v 0 l ∙ h 0 (omega arith))
    go (yes e) (no l) = rw (set_out xs at v (omega arith)) z

-- a store of at most n bytes that meets no such place
short-put : (xs : List ℕ) (at n : ℕ) (vs : List ℕ) (i : ℕ) → length vs ≤ n → byte_at xs i ≡ 0 → (at ≤ i → i < at + n → ⊥)
    → byte_at (put xs at vs) i ≡ 0
short-put xs at n vs i long z apart = zero-put xs at vs i z (λ j e. byte_past vs j (omega (arith, far j e)))
  where
    far : (j : ℕ) → at + j ≡ i → length vs ≤ j
    far j e = go (dec_lt j n)
      where
        go : Dec (j < n) → length vs ≤ j
        go (yes l) = absurd (apart (omega arith) (omega arith))
        go (no l) = omega arith

-- ---- the writings

module _ (i : ℕ) (spare : IsSpare (i % connection_bytes)) where
  low : 2 ≤ i % connection_bytes
  low = ⊎_elim (λ e. omega arith) (λ r. omega (arith, r.0)) spare

  high : i % connection_bytes < 16
  high = ⊎_elim (λ e. omega arith) (λ r. omega (arith, r.1)) spare

  state-zero : (cs : List ℕ) (c s : ℕ) → byte_at cs i ≡ 0 → byte_at (set_state cs c s) i ≡ 0
  state-zero cs c s z = short-put cs (connection_at c) 1 (s ∷ []) i (omega arith) z (λ l u. omega (arith, low))

  clear_zero : (cs : List ℕ) (c : ℕ) → byte_at cs i ≡ 0 → byte_at (clear cs c) i ≡ 0
  unfolding clear
  clear_zero cs c z = zero-put cs (connection_at c) fresh_connection i z go
    where
      go : (j : ℕ) → connection_at c + j ≡ i → byte_at fresh_connection j ≡ 0
      go zero e = refl
      go (suc zero) e = absurd (omega (arith, low))
      go (suc (suc j)) e = zeros 62 j

  join-zero : (cs : List ℕ) (c other : ℕ) (keys : List ℕ) → length keys ≤ keys_bytes → byte_at cs i ≡ 0 → byte_at (join cs c other keys) i ≡ 0
  unfolding join
  join-zero cs c other keys h z =
      short-put (set_peer cs c other) (keys_at c) keys_bytes keys i h
      (short-put cs (peer_at c) 1 (other ∷ []) i (omega arith) z (λ l u. omega (arith, low)))
      (λ l u. omega (arith, high))

  end-zero : (cs : List ℕ) (c d : ℕ) → byte_at cs i ≡ 0 → byte_at (end_session cs c d) i ≡ 0
  unfolding end_session leave
  end-zero cs c d z =
      join-zero (leave cs c) d nobody (replicate keys_bytes 0) (lit≤ tt) (join-zero cs c nobody (replicate keys_bytes 0) (lit≤ tt) z)

  -- a writing to bytes 2 to 13 but 3
  mark_zero : (cs : List ℕ) (c at n : ℕ) (vs : List ℕ) → length vs ≡ n → ((at ≡ 2) × (n ≡ 1)) ⊎ ((4 ≤ at) × (at + n ≤ 14)) → byte_at cs i ≡ 0
      → byte_at (put cs (connection_at c + at) vs) i ≡ 0
  mark_zero cs c at n vs long which z =
      short-put cs (connection_at c + at) n vs i (omega arith) z
      (λ l u.
      ⊎_elim
      (λ a. ⊎_elim (λ e. omega (arith, a.0, a.1)) (λ r. omega (arith, a.0, a.1, r.0)) spare)
      (λ b. ⊎_elim (λ e. omega (arith, b.0, b.1)) (λ r. omega (arith, b.0, b.1, r.0)) spare)
      which)

  answered-zero : (cs : List ℕ) (c : ℕ) → byte_at cs i ≡ 0 → byte_at (answered cs c) i ≡ 0
  unfolding answered
  answered-zero cs c z = mark_zero cs c 2 1 (0 ∷ []) refl (inl (refl, refl)) z

  ask-zero : (cs : List ℕ) (now c : ℕ) → byte_at cs i ≡ 0 → byte_at (ask cs now c) i ≡ 0
  unfolding ask
  ask-zero cs now c z =
      mark_zero (set_unanswered cs c 1) c 9 time_bytes (big_endian time_bytes now) (length-big_endian time_bytes now) (inr (lit≤ tt, lit≤ tt))
      (mark_zero cs c 2 1 (1 ∷ []) refl (inl (refl, refl)) z)

  stamp-zero : (cs : List ℕ) (now n c : ℕ) → byte_at cs i ≡ 0 → byte_at (stamp cs now n c) i ≡ 0
  unfolding stamp
  stamp-zero cs now n c z =
      by_test (λ (l : List ℕ). byte_at l i ≡ 0) (eqb n 0) (λ e. z)
      (λ e. mark_zero cs c 4 time_bytes (big_endian time_bytes now) (length-big_endian time_bytes now) (inr (lit≤ tt, lit≤ tt)) z)

module _ (i : ℕ) (low : 13 ≤ i % lease_bytes) (high : i % lease_bytes < 16) where
  expiry-zero : (ls : List ℕ) (r until : ℕ) → byte_at ls i ≡ 0 → byte_at (set_expiry ls r until) i ≡ 0
  expiry-zero ls r until z = short-put ls (lease_at r) 8 (big_endian 8 until) i (omega (arith, length-big_endian 8 until)) z (λ l u. omega arith)

  holder-zero : (ls : List ℕ) (r c : ℕ) → byte_at ls i ≡ 0 → byte_at (set_holder ls r c) i ≡ 0
  holder-zero ls r c z = short-put ls (holder_at r) 1 (c ∷ []) i (omega arith) z (λ l u. omega arith)

  grant-zero : (ls : List ℕ) (r until id : ℕ) (cookie : List ℕ) (c : ℕ) → length cookie ≤ cookie_bytes → byte_at ls i ≡ 0
      → byte_at (grant ls r until id cookie c) i ≡ 0
  unfolding grant
  grant-zero ls r until id cookie c h z =
      let with_id = short-put (set_expiry ls r until) (id_at r) 4 (big_endian 4 id) i (omega (arith, length-big_endian 4 id))
      (expiry-zero ls r until z) (λ l u. omega arith) in
      short-put _ (cookie_at r) cookie_bytes cookie i h (holder-zero (set_id (set_expiry ls r until) r id) r c with_id) (λ l u. omega arith)

  renew-zero : (ls : List ℕ) (r until c : ℕ) → byte_at ls i ≡ 0 → byte_at (renew ls r until c) i ≡ 0
  unfolding renew
  renew-zero ls r until c z = holder-zero (set_expiry ls r until) r c (expiry-zero ls r until z)

  release-zero : (n : ℕ) (ls : List ℕ) (c r : ℕ) → byte_at ls i ≡ 0 → byte_at (release_from ls c r n) i ≡ 0
  unfolding release_from
  release-zero zero ls c r z = z
  release-zero (suc n) ls c r z =
      release-zero n _ c (suc r) (by-holder (λ l. byte_at l i ≡ 0) ls c r nobody (holder-zero ls r nobody z) z)

-- ---- plans

module _ (tables : Tables) (now c : ℕ) (zs : SpareZero tables) where
  open tables use {connections as cs, leases as ls, allowances as al}

  record Zero (x : Plan) : Type 0 where
    connections : (i : ℕ) → IsSpare (i % connection_bytes) → byte_at x.connections i ≡ 0
    leases : (i : ℕ) → 13 ≤ i % lease_bytes → i % lease_bytes < 16 → byte_at x.leases i ≡ 0

  open_zero : Zero (plan_open tables c)
  unfolding plan_open await
  open_zero = record {
    connections = λ i z. state-zero i z _ c awaiting (clear_zero i z cs c (zs.connections i z));
    leases = zs.leases;
  }

  answer-zero : (ok : ℕ) → Zero (plan_version_answer tables c ok)
  unfolding plan_version_answer
  answer-zero ok =
      by_test Zero (eqb ok 1)
      (λ h. record { connections = λ i z. state-zero i z cs c opened (zs.connections i z); leases = zs.leases })
      (λ h. record { connections = λ i z. clear_zero i z cs c (zs.connections i z); leases = zs.leases })

  stay-zero : (reply relay : List ℕ) (d : ℕ) (u : Bool)
      → Zero (record { reply = reply; relay = relay; destination = d; disconnect = u; connections = cs; leases = ls })
  stay-zero reply relay d u = record { connections = zs.connections; leases = zs.leases }

  lease-zero : (random cookie : List ℕ) → Zero (plan_lease tables now c (decide_lease cs ls now c random cookie))
  unfolding plan_lease
  lease-zero random cookie =
      by-lease Zero tables now c (decide_lease cs ls now c random cookie) (stay-zero _ _ _ _)
      (λ row e. record {
        connections = zs.connections;
        leases = λ i l u. renew-zero i l u ls row (lease_end al now) c (zs.leases i l u);
      })
      (λ row id drawn e.
      let g = is-granted ls now c random cs cookie row id drawn e in
      record {
        connections = zs.connections;
        leases = λ i l u.
            grant-zero i l u ls row (lease_end al now) id drawn c (rw g.cookie_is (length-part-most random 0 cookie_bytes)) (zs.leases i l u);
      })

  extension-zero : (row : ℕ) → Zero (plan_extension tables now c row)
  unfolding plan_extension
  extension-zero row =
      by_test Zero (ltb row (end_row (partner_of c)))
      (λ h. record { connections = zs.connections; leases = λ i l u. expiry-zero i l u ls _ (lease_end al now) (zs.leases i l u) })
      (λ h. stay-zero _ _ _ _)

  establish-zero : (id : ℕ) (random : List ℕ) (d : EstablishDecision) → Zero (plan_establish tables c id random d)
  unfolding plan_establish establish
  establish-zero id random (refused_with status) = stay-zero _ _ _ _
  establish-zero id random (established_with h) = record {
    connections = λ i z.
        join-zero i z _ h c _ (keys_most random _ _) (join-zero i z cs c h _ (keys_most random _ _) (zs.connections i z));
    leases = zs.leases;
  }

  end-plan-zero : Zero (plan_end tables c (peer cs c))
  unfolding plan_end
  end-plan-zero = record { connections = λ i z. end-zero i z cs c (peer cs c) (zs.connections i z); leases = zs.leases }

  close_zero : Zero (plan_close tables c)
  unfolding plan_close release
  close_zero =
      let ended = by_test Zero (has_session cs c) (λ h. end-plan-zero) (λ h. stay-zero [] [] nobody false) in
      record {
        connections = λ i z. clear_zero i z _ c (ended.connections i z);
        leases = λ i l u. release-zero i l u rows_per_partner ls c (first_row (partner_of c)) (zs.leases i l u);
      }

  each_zero : (n kind : ℕ) → Each Zero tables now c n kind
  unfolding plan_data
  each_zero n kind = record {
    open_plan = open_zero;
    version_answer_lem = λ t. answer-zero;
    lease = lease-zero;
    extension = λ cookie. extension-zero (row_to_extend ls now c cookie);
    establish_plan = λ id random long o. establish-zero id random (decide_establish cs ls now c id);
    end_plan = λ h. end-plan-zero;
    data_plan = λ h bytes l. stay-zero _ _ _ _;
    no_plan = stay-zero _ _ _ _;
    close_plan = close_zero;
    dead_plan = λ t. record { connections = close_zero.connections; leases = close_zero.leases };
    ask_plan = record { connections = λ i z. ask-zero i z cs now c (zs.connections i z); leases = zs.leases };
  }

-- ---- calls, and runs

done-spare : (tables : Tables) (call : Call) → (step tables call).answer.number ≡ 0 → SpareZero tables → SpareZero (step tables call).tables
unfolding done plan
done-spare tables call e zs =
    let x = every_plan _ tables call (done_passed tables call e) (each_zero tables (time_of call) (connection_of call) zs (received call) (kind_of call)) in
    rw (is-done tables call e)
    (record {
      connections = λ i z. stamp-zero i z _ _ _ _ (stamp-zero i z _ _ _ _ (heard i z x));
      leases = x.leases;
    })
  where
    heard : (i : ℕ) → IsSpare (i % connection_bytes) → Zero tables (time_of call) (connection_of call) zs (plan_call tables call)
        → byte_at (answered_by call (plan_call tables call).connections) i ≡ 0
    heard i z x =
        by_caller (λ (l : List ℕ). byte_at l i ≡ 0) call (plan_call tables call).connections (x.connections i z)
        (answered-zero i z _ _ (x.connections i z))

pub run_spare : (calls : List Call) (tables : Tables) → SpareZero tables → SpareZero (after tables calls)
run_spare = run_keeps SpareZero done-spare

-- ---- fresh tables

pub fresh-spare : (now term : ℕ) → SpareZero (fresh now term)
fresh-spare now term = record { connections = λ i z. own i z (dec_lt (i / connection_bytes) connection_count); leases = λ i l u. row i l u (dec_lt (i / lease_bytes) row_count) }
  where
    own : (i : ℕ) → IsSpare (i % connection_bytes) → Dec (i / connection_bytes < connection_count) → byte_at (fresh now term).connections i ≡ 0
    own i z (yes h) =
        let l = low i z in
        let u = high i z in
        let e : connection_at (i / connection_bytes) + i % connection_bytes ≡ i = omega arith in
        let j = i % connection_bytes in
        (rw e at (fresh-connection now term (i / connection_bytes) h j (omega arith)))
        ∙ rw (ne_eqb j 0 (λ z. omega arith), ne_eqb j 1 (λ z. omega arith))
    own i z (no h) = byte_past (fresh now term).connections i (omega (arith, (fresh-sizes now term).connections))

    row : (i : ℕ) → 13 ≤ i % lease_bytes → i % lease_bytes < 16 → Dec (i / lease_bytes < row_count) → byte_at (fresh now term).leases i ≡ 0
    row i l u (yes h) =
        let e : lease_at (i / lease_bytes) + i % lease_bytes ≡ i = omega arith in
        (rw e at (fresh-row now term (i / lease_bytes) h (i % lease_bytes) (omega arith))) ∙ rw (ne_eqb (i % lease_bytes) 12 (λ z. omega arith))
    row i l u (no h) = byte_past (fresh now term).leases i (omega (arith, (fresh-sizes now term).leases))
