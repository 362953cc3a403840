-- After every run byte 2 of a connection record is 0 or 1, and neither of its times is after the clock. Assumes nothing.
use Prim.Native.Nat.{ℕ, ◌+◌, ◌%◌, ◌≤◌, ◌<◌}
use mathlib.Core.Path.{◌≡◌, refl, sym, ap, ◌∙◌}
use mathlib.Core.Logic.{◌⊎◌, inl, inr, ⊎_elim}
use mathlib.Core.List.{List}
use native.Mathlib.Omega.{arith}
use native.Mathlib.Decide.{ℕ_discrete}
use lib.Dec.{eqb, ltb, lit≤}
use lib.ListN.{length, replicate}
use Rattle.octets.specs.Octets.{byte_at, number, number_from, part, number_at}
use Rattle.rules.specs.Sizes.{connection_count, connection_bytes, connections_size, time_bytes, time_limit}
use Rattle.rules.specs.Searches.{end_row}
use Rattle.rules.specs.Tables.{Tables, partner_of, connection_at, unanswered_at, last_sent_at, keepalive_at, awaiting, opened, peer, has_session, set_state, last_sent, keepalive_sent, clock, fresh_connection, fresh}
use Rattle.rules.specs.Leases.{decide_lease, row_to_extend}
use Rattle.rules.specs.Sessions.{EstablishDecision, refused_with, established_with, decide_establish, clear, await, establish}
use Rattle.rules.specs.Keepalives.{ask, answered, stamp}
use Rattle.rules.specs.Calls.{Call, time_of, connection_of}
use Rattle.rules.specs.Charges.{received}
use Rattle.rules.specs.Plans.{Plan, plan_open, plan_version_answer, plan_lease, plan_extension, plan_establish, plan_end, plan_data, plan_close, plan_call, plan}
use Rattle.rules.specs.Step.{step, done}
use Rattle.rules.specs.Runs.{after}
use Rattle.rules.specs.Bytes.{ChangedOnly}
use Rattle.rules.specs.Effects.{InSessionBytes}
use Rattle.invariants.specs.Invariants.{InTime}
use Rattle.rules.proofs.Records.{part-part}
use Rattle.rules.proofs.Same.{same_number}
use Rattle.rules.proofs.Connections.{cleared_record, fresh_record, keys_most}
use Rattle.rules.proofs.Changes.{changed_both, changed_state, changed_clear, changed_join, changed_end}
use Rattle.rules.proofs.Fresh.{fresh-whole, fresh-connection, fresh-sizes}
use Rattle.rules.proofs.Checks.{passed}
use Rattle.rules.proofs.Answers.{is-done, done_passed}
use Rattle.rules.proofs.Runs.{run_keeps}
use Rattle.rules.proofs.Metered.{clock_takes_time}
use Rattle.rules.proofs.Plans.{Each, kind_of, every_plan, by-lease, by_test}
use Rattle.rules.proofs.Marks.{by_caller, changed_answered, changed_ask, changed_stamp, answered-exactly, asked-unanswered, asked-at, stamp-none, stamp-exactly, length-stamp, length-answered}

-- the records at a time, in a table of the right size
record Timely (now : ℕ) (cs : List ℕ) : Type 0 where
  size : length cs ≡ connections_size
  unanswered : (c : ℕ) → c < connection_count → byte_at cs (unanswered_at c) ≤ 1
  last_sent_lem : (c : ℕ) → c < connection_count → last_sent cs c ≤ now
  keepalive_sent_lem : (c : ℕ) → c < connection_count → keepalive_sent cs c ≤ now

later : {now then : ℕ} {cs : List ℕ} → now ≤ then → Timely now cs → Timely then cs
later l t = record {
  size = t.size;
  unanswered = t.unanswered;
  last_sent_lem = λ c k. omega (arith, t.last_sent_lem c k);
  keepalive_sent_lem = λ c k. omega (arith, t.keepalive_sent_lem c k);
}

-- a writing to other bytes
beside : {P : ℕ → Type 0} {now : ℕ} {cs ds : List ℕ} → ChangedOnly P cs ds
    → ((i : ℕ) → P i → (i % connection_bytes < 2) ⊎ (14 ≤ i % connection_bytes)) → Timely now cs → Timely now ds
unfolding last_sent keepalive_sent
beside s apart t = record {
  size = sym s.long ∙ t.size;
  unanswered = λ c k.
      omega (arith, t.unanswered c k, s.at (unanswered_at c) (λ p. ⊎_elim (λ a. omega arith) (λ b. omega arith) (apart _ p)));
  last_sent_lem = λ c k.
      omega (arith, t.last_sent_lem c k, same_number s (last_sent_at c) time_bytes (λ i l u p. ⊎_elim (λ a. omega arith) (λ b. omega arith) (apart i p)));
  keepalive_sent_lem = λ c k.
      omega (arith, t.keepalive_sent_lem c k, same_number s (keepalive_at c) time_bytes (λ i l u p. ⊎_elim (λ a. omega arith) (λ b. omega arith) (apart i p)));
}

-- ---- the writings

zero-time : (cs : List ℕ) (c i : ℕ) → part cs (connection_at c) connection_bytes ≡ fresh_connection → i + time_bytes ≤ connection_bytes
    → part fresh_connection i time_bytes ≡ replicate time_bytes 0 → number_at cs (connection_at c + i) time_bytes ≡ 0
unfolding number_at number number_from
zero-time cs c i e l z =
    let whole : part (part cs (connection_at c) connection_bytes) i time_bytes ≡ replicate time_bytes 0 = rw e z in
    ap number (sym (part-part cs (connection_at c) connection_bytes i time_bytes l) ∙ whole)

clear-timely : (now : ℕ) (cs : List ℕ) (c : ℕ) → c < connection_count → Timely now cs → Timely now (clear cs c)
unfolding last_sent keepalive_sent
clear-timely now cs c c< t = record {
  size = sym (changed_clear cs c).long ∙ t.size;
  unanswered = λ d k. byte d k (ℕ_discrete d c);
  last_sent_lem = λ d k. time 4 (lit≤ tt) (lit≤ tt) (unfold part in refl) d (t.last_sent_lem d k) (ℕ_discrete d c);
  keepalive_sent_lem = λ d k. time 9 (lit≤ tt) (lit≤ tt) (unfold part in refl) d (t.keepalive_sent_lem d k) (ℕ_discrete d c);
}
  where
    cleared : part (clear cs c) (connection_at c) connection_bytes ≡ fresh_connection
    cleared = cleared_record cs c t.size c<

    byte : (d : ℕ) → d < connection_count → Dec (d ≡ c) → byte_at (clear cs c) (unanswered_at d) ≤ 1
    byte d k (yes e) = rw e (omega (arith, fresh_record (clear cs c) c cleared 2 (lit≤ tt)))
    byte d k (no n) = omega (arith, t.unanswered d k, (changed_clear cs c).at (unanswered_at d) (λ p. omega (arith, p.0, p.1, n)))

    time : (i : ℕ) → i + time_bytes ≤ connection_bytes → i ≤ connection_bytes → part fresh_connection i time_bytes ≡ replicate time_bytes 0 → (d : ℕ)
        → number_at cs (connection_at d + i) time_bytes ≤ now → Dec (d ≡ c) → number_at (clear cs c) (connection_at d + i) time_bytes ≤ now
    time i l u z d k (yes e) = rw e (omega (arith, zero-time (clear cs c) c i cleared l z))
    time i l u z d k (no n) =
        omega (arith, k, same_number (changed_clear cs c) (connection_at d + i) time_bytes (λ j a b p. omega (arith, p.0, p.1, n)))

answered-timely : (now : ℕ) (cs : List ℕ) (c : ℕ) → c < connection_count → Timely now cs → Timely now (answered cs c)
unfolding last_sent keepalive_sent
answered-timely now cs c c< t = record {
  size = length-answered cs c ∙ t.size;
  unanswered = λ d k. byte d k (ℕ_discrete d c);
  last_sent_lem = λ d k. omega (arith, t.last_sent_lem d k, same_number (changed_answered cs c) (last_sent_at d) time_bytes (λ i l u p. omega (arith, p.0, p.1)));
  keepalive_sent_lem = λ d k.
      omega (arith, t.keepalive_sent_lem d k, same_number (changed_answered cs c) (keepalive_at d) time_bytes (λ i l u p. omega (arith, p.0, p.1)));
}
  where
    byte : (d : ℕ) → d < connection_count → Dec (d ≡ c) → byte_at (answered cs c) (unanswered_at d) ≤ 1
    byte d k (yes e) = rw e (omega (arith, (answered-exactly cs c t.size c<).zero))
    byte d k (no n) = omega (arith, t.unanswered d k, (changed_answered cs c).at (unanswered_at d) (λ p. omega (arith, p.0, p.1, n)))

stamp-timely : (now : ℕ) (cs : List ℕ) (n c : ℕ) → now < time_limit → Timely now cs → Timely now (stamp cs now n c)
unfolding last_sent keepalive_sent
stamp-timely now cs n c now< t = record {
  size = length-stamp cs now n c ∙ t.size;
  unanswered = λ d k. omega (arith, t.unanswered d k, (changed_stamp cs c now n).at (unanswered_at d) (λ p. omega (arith, p.0, p.1)));
  last_sent_lem = λ d k. time d k (ℕ_discrete d c) (ℕ_discrete n 0);
  keepalive_sent_lem = λ d k.
      omega (arith, t.keepalive_sent_lem d k, same_number (changed_stamp cs c now n) (keepalive_at d) time_bytes (λ i l u p. omega (arith, p.0, p.1)));
}
  where
    time : (d : ℕ) → d < connection_count → Dec (d ≡ c) → Dec (n ≡ 0) → number_at (stamp cs now n c) (last_sent_at d) time_bytes ≤ now
    time d k e (yes z) = rw (stamp-none cs now n c z) (t.last_sent_lem d k)
    time d k (yes e) (no z) = rw e (omega (arith, ((stamp-exactly cs now n c t.size (omega arith) now<).time_is z).number))
    time d k (no e) (no z) =
        omega (arith, t.last_sent_lem d k, same_number (changed_stamp cs c now n) (last_sent_at d) time_bytes (λ i l u p. omega (arith, p.0, p.1, e)))

ask-timely : (now : ℕ) (cs : List ℕ) (c : ℕ) → c < connection_count → now < time_limit → Timely now cs → Timely now (ask cs now c)
unfolding last_sent keepalive_sent
ask-timely now cs c c< now< t = record {
  size = sym (changed_ask cs now c).long ∙ t.size;
  unanswered = λ d k. byte d k (ℕ_discrete d c);
  last_sent_lem = λ d k.
      omega (
        arith,
        t.last_sent_lem d k,
        same_number (changed_ask cs now c) (last_sent_at d) time_bytes
            (λ i l u p. ⊎_elim (λ a. omega (arith, a.0, a.1)) (λ b. omega (arith, b.0, b.1)) p),
      );
  keepalive_sent_lem = λ d k. time d k (ℕ_discrete d c);
}
  where
    byte : (d : ℕ) → d < connection_count → Dec (d ≡ c) → byte_at (ask cs now c) (unanswered_at d) ≤ 1
    byte d k (yes e) = rw e (omega (arith, asked-unanswered cs now c t.size c<))
    byte d k (no n) =
        omega (
          arith,
          t.unanswered d k,
          (changed_ask cs now c).at (unanswered_at d)
              (λ p. ⊎_elim (λ a. omega (arith, a.0, a.1, n)) (λ b. omega (arith, b.0, b.1, n)) p),
        )

    time : (d : ℕ) → d < connection_count → Dec (d ≡ c) → number_at (ask cs now c) (keepalive_at d) time_bytes ≤ now
    time d k (yes e) = rw e (omega (arith, (asked-at cs now c t.size c< now<).number))
    time d k (no n) =
        omega (
          arith,
          t.keepalive_sent_lem d k,
          same_number (changed_ask cs now c) (keepalive_at d) time_bytes
              (λ i l u p. ⊎_elim (λ a. omega (arith, a.0, a.1, n)) (λ b. omega (arith, b.0, b.1, n)) p),
        )

-- ---- plans

session_apart : (c i : ℕ) → InSessionBytes c i → (i % connection_bytes < 2) ⊎ (14 ≤ i % connection_bytes)
session_apart c i = ⊎_elim (λ a. inl (omega (arith, a.0, a.1))) (λ b. inr (omega (arith, b.0, b.1)))

sessions_apart : (c d i : ℕ) → InSessionBytes c i ⊎ InSessionBytes d i → (i % connection_bytes < 2) ⊎ (14 ≤ i % connection_bytes)
sessions_apart c d i = ⊎_elim (session_apart c i) (session_apart d i)

module _ (tables : Tables) (now c : ℕ) (c< : c < connection_count) (now< : now < time_limit) (t : Timely now tables.connections) where
  open tables use {connections as cs, leases as ls}

  abbrev Kept : Plan → Type 0
  Kept x = Timely now x.connections

  state-timely : (ds : List ℕ) (s : ℕ) → Timely now ds → Timely now (set_state ds c s)
  state-timely ds s = beside (changed_state ds c s) (λ i p. inl (omega (arith, p.0, p.1)))

  answer-timely : (ok : ℕ) → Kept (plan_version_answer tables c ok)
  unfolding plan_version_answer
  answer-timely ok = by_test Kept (eqb ok 1) (λ h. state-timely cs opened t) (λ h. clear-timely now cs c c< t)

  establish-timely : (id : ℕ) (random : List ℕ) (d : EstablishDecision) → Kept (plan_establish tables c id random d)
  unfolding plan_establish establish
  establish-timely id random (refused_with status) = t
  establish-timely id random (established_with h) =
      beside
      (changed_both (changed_join cs c h _ (keys_most random _ _)) (changed_join _ h c _ (keys_most random _ _)))
      (sessions_apart c h)
      t

  end-timely : Kept (plan_end tables c (peer cs c))
  unfolding plan_end
  end-timely = beside (changed_end cs c (peer cs c)) (sessions_apart c (peer cs c)) t

  close_timely : Kept (plan_close tables c)
  unfolding plan_close
  close_timely = clear-timely now _ c c< (by_test Kept (has_session cs c) (λ h. end-timely) (λ h. t))

  each_timely : (n kind : ℕ) → Each Kept tables now c n kind
  unfolding plan_open await plan_lease plan_extension plan_data
  each_timely n kind = record {
    open_plan = state-timely _ awaiting (clear-timely now cs c c< t);
    version_answer_lem = λ k. answer-timely;
    lease = λ random cookie.
        by-lease Kept tables now c (decide_lease cs ls now c random cookie) t (λ row e. t) (λ row id drawn e. t);
    extension = λ cookie. by_test Kept (ltb (row_to_extend ls now c cookie) (end_row (partner_of c))) (λ h. t) (λ h. t);
    establish_plan = λ id random long o. establish-timely id random (decide_establish cs ls now c id);
    end_plan = λ h. end-timely;
    data_plan = λ h bytes l. t;
    no_plan = t;
    close_plan = close_timely;
    dead_plan = λ k. close_timely;
    ask_plan = ask-timely now cs c c< now< t;
  }

-- ---- calls, and runs

abbrev AtClock : Tables → Type 0
AtClock tables = Timely (clock tables.allowances) tables.connections

done-timely : (tables : Tables) (call : Call) → (step tables call).answer.number ≡ 0 → AtClock tables → AtClock (step tables call).tables
unfolding done plan
done-timely tables call e t =
    let h = done_passed tables call e in
    let ok = passed tables call h in
    let now = time_of call in
    let c = connection_of call in
    let each = each_timely tables now c ok.known ok.in_limit (later ok.in_order t) (received call) (kind_of call) in
    let x = every_plan (λ (p : Plan). Timely now p.connections) tables call h each in
    let heard = by_caller (Timely now) call (plan_call tables call).connections x (answered-timely now _ c ok.known x) in
    rw (clock_takes_time tables call e, is-done tables call e)
    (stamp-timely now _ _ _ ok.in_limit (stamp-timely now _ _ _ ok.in_limit heard))

-- in fresh tables all of these are zero
fresh-timely : (now term then : ℕ) → Timely then (fresh now term).connections
unfolding last_sent keepalive_sent
fresh-timely now term then = record {
  size = (fresh-sizes now term).connections;
  unanswered = λ c k. omega (arith, fresh-connection now term c k 2 (lit≤ tt));
  last_sent_lem = λ c k. omega (arith, zero-time (fresh now term).connections c 4 (fresh-whole now term c k) (lit≤ tt) (unfold part in refl));
  keepalive_sent_lem = λ c k. omega (arith, zero-time (fresh now term).connections c 9 (fresh-whole now term c k) (lit≤ tt) (unfold part in refl));
}

pub run_in_time : (calls : List Call) (now term : ℕ) → InTime (after (fresh now term) calls)
run_in_time calls now term =
    let t = run_keeps AtClock done-timely calls (fresh now term) (fresh-timely now term _) in
    record { unanswered = t.unanswered; last_sent_lem = t.last_sent_lem; keepalive_sent_lem = t.keepalive_sent_lem }
