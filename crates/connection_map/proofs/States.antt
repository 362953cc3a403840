-- Which connections are closed after a call, of those that were before. Assumes nothing.
use Rattle.std.specs.Prelude.{if◌then◌else◌}
use Prim.Native.Nat.{ℕ, ◌+◌, ◌%◌, ◌<◌}
use mathlib.Core.Path.{◌≡◌, refl, sym, ap, ◌∙◌}
use mathlib.Core.Logic.{◌≢◌, ◌⊎◌, ⊎_elim}
use mathlib.Core.Bool.{Bool, true, false}
use mathlib.Core.List.{List, [], ◌∷◌}
use native.Mathlib.Omega.{arith}
use native.Mathlib.Decide.{ℕ_discrete}
use lib.Dec.{eqb, leb, ltb, lit≤}
use lib.ListN.{length}
use borrow.Author.Tests.{eq-eqb, ne_eqb}
use Rattle.octets.specs.Octets.{byte_at}
use Rattle.rules.specs.Sizes.{connection_count, connection_bytes, connections_size}
use Rattle.rules.specs.Searches.{end_row}
use Rattle.rules.specs.Tables.{Tables, partner_of, connection_at, awaiting, opened, closed, state, is_closed, peer, has_session, set_state}
use Rattle.rules.specs.Leases.{decide_lease, row_to_extend}
use Rattle.rules.specs.Sessions.{EstablishDecision, refused_with, established_with, decide_establish, clear, await, establish}
use Rattle.rules.specs.Calls.{Call, opening, message, closing, keepalive}
use Rattle.rules.specs.Keepalives.{is_dead, is_due}
use Rattle.rules.specs.Plans.{Plan, plan_open, plan_version_answer, plan_lease, plan_extension, plan_establish, plan_end, plan_data, plan_close, plan_decided, plan_message, plan_keepalive, plan_call, plan}
use Rattle.rules.specs.Bytes.{ChangedOnly}
use Rattle.rules.specs.Effects.{InSessionBytes}
use Rattle.rules.specs.Checks.{first_eight, wrong_state, precheck}
use Rattle.rules.specs.Step.{step, done}
use Rattle.rules.proofs.Records.{byte_beside, byte_put}
use Rattle.rules.proofs.Connections.{cleared_record, fresh_record, keys_most, length-end}
use Rattle.rules.proofs.Changes.{changed_both, changed_clear, changed_join, changed_end}
use Rattle.rules.proofs.Checks.{none_applies, passed}
use Rattle.rules.proofs.Answers.{is-done, done_passed}
use Rattle.rules.proofs.Plans.{EachDecision, every_decision, by-lease, by_test}
use Rattle.rules.proofs.Marks.{changed_ask, marks_changed}

-- ---- writings

-- it is the state's byte that tells
closed_same : (cs ds : List ℕ) (k : ℕ) → byte_at cs (connection_at k) ≡ byte_at ds (connection_at k) → is_closed ds k ≡ is_closed cs k
unfolding state
closed_same cs ds k e = rw e

-- a writing to other bytes than states
beside : {P : ℕ → Type 0} {cs ds : List ℕ} → ChangedOnly P cs ds → ((i : ℕ) → P i → i % connection_bytes ≢ 0) → (k : ℕ)
    → is_closed ds k ≡ is_closed cs k
beside {P} {cs} {ds} s apart k = closed_same cs ds k (s.at (connection_at k) (λ p. apart (connection_at k) p (omega arith)))

session_apart : (c i : ℕ) → InSessionBytes c i → i % connection_bytes ≢ 0
session_apart c i p z = ⊎_elim (λ a. omega (arith, a.0, a.1)) (λ b. omega (arith, b.0, b.1)) p

sessions_apart : (c d i : ℕ) → InSessionBytes c i ⊎ InSessionBytes d i → i % connection_bytes ≢ 0
sessions_apart c d i p = ⊎_elim (session_apart c i) (session_apart d i) p

-- connection c becomes closed, or not closed, and the others stay
abbrev becomes : Bool → ℕ → List ℕ → ℕ → Bool
becomes b c cs k = if eqb k c then b else is_closed cs k

module _ (cs : List ℕ) (c : ℕ) (size : length cs ≡ connections_size) (c< : c < connection_count) where
  clear-closed : (k : ℕ) → is_closed (clear cs c) k ≡ becomes true c cs k
  clear-closed k = go (ℕ_discrete k c)
    where
      z : connection_at c + 0 ≡ connection_at c
      z = omega arith

      first : byte_at (clear cs c) (connection_at c) ≡ 0
      first = rw z at (fresh_record (clear cs c) c (cleared_record cs c size c<) 0 (lit≤ tt))

      go : Dec (k ≡ c) → is_closed (clear cs c) k ≡ becomes true c cs k
      go (yes e) = rw (e, eq-eqb c c refl) (unfold state in rw first)
      go (no n) =
          rw (ne_eqb k c n)
          (closed_same cs (clear cs c) k ((changed_clear cs c).at (connection_at k) (λ p. omega (arith, p.0, p.1, n))))

  -- a state is written that is one of not being closed
  state-closed : (s k : ℕ) → eqb (if leb s opened then s else closed) closed ≡ false → is_closed (set_state cs c s) k ≡ becomes false c cs k
  unfolding state
  state-closed s k h = go (ℕ_discrete k c)
    where
      go : Dec (k ≡ c) → is_closed (set_state cs c s) k ≡ becomes false c cs k
      go (yes e) = rw (e, eq-eqb c c refl, byte_put cs (connection_at c) s (omega arith)) h
      go (no n) = rw (ne_eqb k c n, byte_beside cs (connection_at c) (s ∷ []) (connection_at k) (λ l. omega (arith, n)))

await-closed : (cs : List ℕ) (c : ℕ) → length cs ≡ connections_size → c < connection_count → (k : ℕ) → is_closed (await cs c) k ≡ becomes false c cs k
unfolding await
await-closed cs c size c< k =
    state-closed (clear cs c) c (sym (changed_clear cs c).long ∙ size) c< awaiting k refl
    ∙ twice (eqb k c) refl
  where
    twice : (x : Bool) → eqb k c ≡ x → (if x then false else is_closed (clear cs c) k) ≡ (if x then false else is_closed cs k)
    twice true e = refl
    twice false e = clear-closed cs c size c< k ∙ rw e

-- who isn't closed stays so
stays : (cs : List ℕ) (c : ℕ) → is_closed cs c ≡ false → (k : ℕ) → becomes false c cs k ≡ is_closed cs k
stays cs c h k = go (ℕ_discrete k c)
  where
    go : Dec (k ≡ c) → becomes false c cs k ≡ is_closed cs k
    go (yes e) = rw (e, eq-eqb c c refl, h)
    go (no n) = rw (ne_eqb k c n)

-- ---- plans

module _
    (tables : Tables) (now c : ℕ) (size : length tables.connections ≡ connections_size) (c< : c < connection_count)
  where
    open tables use {connections as cs, leases as ls}

    -- what is asked for closes the caller's connection exactly if it disconnects it, and leaves the others
    abbrev Ends : Plan → Type 0
    Ends x = (k : ℕ) → is_closed x.connections k ≡ (if x.disconnect then becomes true c cs k else is_closed cs k)

    close_closes : (k : ℕ) → is_closed (plan_close tables c).connections k ≡ becomes true c cs k
    unfolding plan_close plan_end
    close_closes k =
        by_test (λ (x : Plan). is_closed (clear x.connections c) k ≡ becomes true c cs k) (has_session cs c)
        (λ h.
        clear-closed _ c (length-end cs c (peer cs c) ∙ size) c< k
        ∙ ap (λ (b : Bool). if eqb k c then true else b) (beside (changed_end cs c (peer cs c)) (sessions_apart c (peer cs c)) k))
        (λ h. clear-closed cs c size c< k)

    keepalive-ends : Ends (plan_keepalive tables now c)
    unfolding plan_keepalive
    keepalive-ends =
        by_test Ends (is_dead cs now c) (λ d. close_closes)
        (λ d.
        by_test Ends (is_due cs now c)
        (λ u. beside (changed_ask cs now c) (λ i p z. ⊎_elim (λ a. omega (arith, a.0, a.1)) (λ b. omega (arith, b.0, b.1)) p))
        (λ u k. refl))

    answer-ends : is_closed cs c ≡ false → (ok : ℕ) → Ends (plan_version_answer tables c ok)
    unfolding plan_version_answer
    answer-ends h ok =
        by_test Ends (eqb ok 1) (λ e k. state-closed cs c size c< opened k refl ∙ stays cs c h k) (λ e. clear-closed cs c size c<)

    establish-ends : (id : ℕ) (random : List ℕ) (d : EstablishDecision) → Ends (plan_establish tables c id random d)
    unfolding plan_establish establish
    establish-ends id random (refused_with status) = λ k. refl
    establish-ends id random (established_with h) =
        beside
        (changed_both (changed_join cs c h _ (keys_most random _ _)) (changed_join _ h c _ (keys_most random _ _)))
        (sessions_apart c h)

    each_ends : is_closed cs c ≡ false → (random : List ℕ) (n kind : ℕ) → EachDecision (λ d. Ends (plan_decided tables now c random d)) tables now c random n kind
    unfolding plan_decided plan_lease plan_extension plan_end plan_data
    each_ends h random n kind = record {
      version_answered_lem = λ t. answer-ends h;
      lease_decided_lem = λ t cookie.
          by-lease Ends tables now c (decide_lease cs ls now c random cookie) (λ k. refl) (λ row e k. refl) (λ row id drawn e k. refl);
      extension_decided_lem = λ t cookie.
          by_test Ends (ltb (row_to_extend ls now c cookie) (end_row (partner_of c))) (λ e k. refl) (λ e k. refl);
      session_decided_lem = λ t id o. establish-ends id random (decide_establish cs ls now c id);
      session_ended_lem = λ t s. beside (changed_end cs c (peer cs c)) (sessions_apart c (peer cs c));
      data_sent_lem = λ t s bytes l k. refl;
      nothing_asked_lem = λ k. refl;
    }

-- ---- calls

-- whether a connection is closed after a call that is done, by whether it was, and by whether the caller is disconnected
abbrev pub closed_after : Call → Bool → List ℕ → ℕ → Bool
closed_after (opening now c reply) disconnect cs k = becomes false c cs k
closed_after (message now c m random reply relay) disconnect cs k = if disconnect then becomes true c cs k else is_closed cs k
closed_after (closing now c relay) disconnect cs k = becomes true c cs k
closed_after (keepalive now c reply relay) disconnect cs k = if disconnect then becomes true c cs k else is_closed cs k

-- check 4
pub right_state : (tables : Tables) (call : Call) → precheck tables call ≡ 0 → wrong_state tables.connections call ≡ false
unfolding precheck first_eight
right_state tables call h = none_applies 0 (first_eight tables call) h 3

message-not-closed : (tables : Tables) (now c : ℕ) (m random reply relay : List ℕ) → precheck tables (message now c m random reply relay) ≡ 0
    → is_closed tables.connections c ≡ false
unfolding wrong_state
message-not-closed tables now c m random reply relay h = right_state tables (message now c m random reply relay) h

planned_states : (tables : Tables) (call : Call) → precheck tables call ≡ 0 → (k : ℕ)
    → is_closed (plan_call tables call).connections k ≡ closed_after call (plan_call tables call).disconnect tables.connections k
unfolding plan_call plan_open plan_message
planned_states tables (opening now c reply) h k =
    let ok = passed tables (opening now c reply) h in
    await-closed tables.connections c ok.connections ok.known k
planned_states tables (message now c m random reply relay) h k =
    let ok = passed tables (message now c m random reply relay) h in
    every_decision _ tables now c m random reply relay h
    (each_ends tables now c ok.connections ok.known (message-not-closed tables now c m random reply relay h) random _ _)
    k
planned_states tables (closing now c relay) h k =
    let ok = passed tables (closing now c relay) h in
    close_closes tables now c ok.connections ok.known k
planned_states tables (keepalive now c reply relay) h k =
    let ok = passed tables (keepalive now c reply relay) h in
    keepalive-ends tables now c ok.connections ok.known k

pub states_after : (tables : Tables) (call : Call) → (step tables call).answer.number ≡ 0 → (k : ℕ)
    → is_closed (step tables call).tables.connections k ≡ closed_after call (step tables call).answer.disconnect tables.connections k
unfolding done plan
states_after tables call e k =
    rw (is-done tables call e)
    (beside (marks_changed call (plan_call tables call)) (λ i p z. omega (arith, p.0)) k
    ∙ planned_states tables call (done_passed tables call e) k)
