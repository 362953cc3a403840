-- The laws that a reader wants of every call and every run; those of single effects are in CallLaws and MessageLaws. Assumes nothing.
use Rattle.std.specs.Prelude.{if◌then◌else◌}
use Prim.Native.Nat.{ℕ, zero, suc, ◌+◌, ◌-◌, ◌≤◌, ◌<◌}
use mathlib.Core.Path.{◌≡◌, refl, sym, ◌∙◌}
use mathlib.Core.Logic.{◌≢◌, ◌⊎◌, inl, inr, ⊎_elim, ◌↔◌}
use mathlib.Core.Bool.{Bool, true, false}
use mathlib.Core.List.{List, [], ◌∷◌, ◌++◌}
use native.Mathlib.Omega.{arith}
use native.Mathlib.Decide.{ℕ_discrete}
use borrow.Author.Tests.{eq-eqb}
use Rattle.octets.specs.Octets.{big_endian, number_at}
use Rattle.allowance.specs.Bucket.{Bucket, level_now}
use Rattle.allowance.specs.History.{level_from_history, latest, NonePaid}
use Rattle.rules.specs.Sizes.{partners, nobody}
use Rattle.rules.specs.Tables.{Tables, allowance_at, updated_at, bucket_bytes, set_bucket, set_clock, in_session, bucket_of, clock, term_at, stored_term, fresh}
use Rattle.rules.specs.Calls.{Call, time_of, connection_of, caller_of, Outcome}
use Rattle.rules.specs.Plans.{plan_call, plan}
use Rattle.rules.specs.Charges.{charged, received, price, charge}
use Rattle.rules.specs.Checks.{precheck, check_start}
use Rattle.rules.specs.Step.{step, done, start, started}
use Rattle.rules.specs.Runs.{after, history}
use Rattle.rules.specs.Bytes.{ChangedOnly}
use Rattle.rules.specs.Effects.{Marked}
use Rattle.rules.specs.Laws.{Accepted, Unchanged, WithinPartner, InAllowance, InClock}
use Rattle.rules.proofs.Checks.{Passed, passed}
use Rattle.rules.proofs.Answers.{refused-leaves-all, is-done, done_passed}
use Rattle.rules.proofs.Metered.{clock_takes_time, bucket-stored}
use Rattle.rules.proofs.Demand3.{started-fresh, relay_demand3}
use Rattle.rules.proofs.Same.{same_refl, same_number}
use Rattle.rules.proofs.Changes.{changed_at, changed_both}
use Rattle.rules.proofs.Plans.{kind_of, every_plan}
use Rattle.rules.proofs.Marks.{session_kept, marks_changed, marked}
use Rattle.rules.proofs.Within.{asked-within, plan-within}
use Rattle.rules.proofs.Sessions.{Relays, each_relays}

-- ---- making a fresh relay

module _ (tables : Tables) (now term : ℕ) where
  -- Answered with 0, the tables are fresh, and else as they were. (When it is answered with which number: Refusals.start-exactly.)
  pub started-is-fresh : (start tables now term).answer.number ≡ 0 → (start tables now term).tables ≡ fresh now term
  started-is-fresh = started-fresh tables now term

  -- It is lent no buffer, and has nothing for one.
  pub start-sends-nothing : ((start tables now term).reply ≡ []) × ((start tables now term).relay ≡ [])
  unfolding start
  start-sends-nothing = go (check_start tables now term)
    where
      go : (k : ℕ) → ((started k tables now term).reply ≡ []) × ((started k tables now term).relay ≡ [])
      go zero = (refl, refl)
      go (suc k) = (refl, refl)

  pub refused-start_changes_nothing : (start tables now term).answer.number ≢ 0 → (start tables now term).tables ≡ tables
  unfolding start
  refused-start_changes_nothing n = go (check_start tables now term) n
    where
      go : (k : ℕ) → (started k tables now term).answer.number ≢ 0 → (started k tables now term).tables ≡ tables
      go zero n = absurd (n refl)
      go (suc k) n = refl

-- ---- one call

module _ (tables : Tables) (call : Call) where
  abbrev o : Outcome
  o = step tables call

  -- A refused call changes no byte, sends nothing and names no destination.
  pub refused_changes_nothing : o.answer.number ≢ 0 → Unchanged tables call o
  refused_changes_nothing n =
      rw (refused-leaves-all tables call n) (record { answer = refl; tables_stay = refl; reply_stays = refl; relay_stays = refl })

  -- On 0 the clock takes the time of the call.
  pub clock-is-time : Accepted tables call → clock o.tables.allowances ≡ time_of call
  clock-is-time = clock_takes_time tables call

  -- A call changes connection records and lease rows of its own partner alone, and sends to its own partner alone.
  pub own-partner-only : WithinPartner (caller_of call) tables o.tables.connections o.tables.leases o.answer.destination
  own-partner-only = go (ℕ_discrete o.answer.number 0)
    where
      go : Dec (Accepted tables call)
          → WithinPartner (caller_of call) tables o.tables.connections o.tables.leases o.answer.destination
      go (yes e) =
          let w = plan-within tables call (done_passed tables call e) in
          rw (is-done tables call e)
          (unfold done in record { connections = w.connections.at; leases = w.leases.at; destination = w.destination })
      go (no n) =
          rw
          (refused-leaves-all tables call n)
          (record { connections = λ c n. refl; leases = λ r n. refl; destination = λ n. absurd (n refl) })

  abbrev charged_table : List ℕ
  charged_table = charge tables.allowances call (price tables call)

  at-clock : ChangedOnly InClock charged_table (set_clock charged_table (time_of call))
  unfolding big_endian
  at-clock = changed_at charged_table (updated_at partners) (big_endian 8 (time_of call)) (λ i l u. (l, u))

  -- Of the allowance table it changes its partner's record and the clock alone.
  pub own_allowance_only : ChangedOnly (λ i. InAllowance (caller_of call) i ⊎ InClock i) tables.allowances o.tables.allowances
  unfolding done charge bucket_bytes big_endian
  own_allowance_only = go (ℕ_discrete o.answer.number 0)
    where
      at_record : (k : Bool) (b : Bucket)
          → ChangedOnly (InAllowance (caller_of call)) tables.allowances
          (if k then set_bucket tables.allowances (caller_of call) b else tables.allowances)
      at_record true b = changed_at tables.allowances (allowance_at (caller_of call)) (bucket_bytes b) (λ i l u. (omega arith, omega arith))
      at_record false b = same_refl tables.allowances

      go : Dec (Accepted tables call) → ChangedOnly (λ i. InAllowance (caller_of call) i ⊎ InClock i) tables.allowances o.tables.allowances
      go (yes e) = rw (is-done tables call e) (changed_both (at_record (charged call) _) at-clock)
      go (no m) = rw (refused-leaves-all tables call m) (same_refl tables.allowances)

  -- 02, Item 6: "The ninth allowance record's level keeps the term.": no call writes it.
  pub term_not-written : stored_term o.tables.allowances ≡ stored_term tables.allowances
  unfolding stored_term
  term_not-written = go (ℕ_discrete o.answer.number 0)
    where
      go : Dec (Accepted tables call) → number_at o.tables.allowances term_at 8 ≡ number_at tables.allowances term_at 8
      go (yes e) =
          let p< = (passed tables call (done_passed tables call e)).of_partner in
          sym
          (same_number own_allowance_only term_at 8
          (λ i l u. ⊎_elim (λ a. omega (arith, a.1)) (λ b. omega (arith, b.0))))
      go (no m) = rw (refused-leaves-all tables call m)

  module _ (e : Accepted tables call) where
    ok : Passed tables call
    ok = passed tables call (done_passed tables call e)

    relays : Relays tables (time_of call) (connection_of call) ok.connections ok.known (plan_call tables call)
    relays =
        let each = each_relays tables (time_of call) (connection_of call) ok.connections ok.known (received call) (kind_of call) in
        every_plan _ tables call (done_passed tables call e) each

    -- what is written of the messages that were sent and heard changes no session
    sessions-kept : (c d : ℕ) → in_session (plan tables call).connections c d ≡ in_session (plan_call tables call).connections c d
    unfolding plan
    sessions-kept c d = session_kept (marks_changed call (plan_call tables call)) c d

    -- "4-8 the reading of the last message sent to it", "Any done message from the connection clears byte 2."
    pub marks-written : Marked call o
    unfolding done plan
    marks-written =
        let w = asked-within tables call (done_passed tables call e) in
        let m = marked call (plan_call tables call) (w.connections.long ∙ ok.connections) ok.known ok.in_limit
        (λ n. omega (arith, w.to_own n, ok.known)) in
        rw (is-done tables call e) (record { replied = m.replied; relayed = m.relayed; cleared = m.cleared })

    -- "A done charged call stores the level left and its reading as moment"; a free one changes the clock alone.
    pub charge-stored : charged call ≡ true
        → bucket_of o.tables.allowances (caller_of call)
        ≡ record {
          level = level_now (bucket_of tables.allowances (caller_of call)) (time_of call) - price tables call;
          updated = time_of call;
        }
    unfolding price
    charge-stored k = bucket-stored tables call e (caller_of call) ok.of_partner ∙ rw (k, eq-eqb (caller_of call) (caller_of call) refl)

    pub free_stays : charged call ≡ false → ChangedOnly InClock tables.allowances o.tables.allowances
    unfolding done charge
    free_stays k = rw (is-done tables call e, k) (rw k at at-clock)

    -- "With nothing in the relay tray the destination is 255."
    pub nothing_to_nobody : o.answer.relay_length ≡ 0 → o.answer.destination ≡ nobody
    unfolding done plan
    nothing_to_nobody = rw (is-done tables call e) relays.empty

    -- Whatever is relayed goes to a connection that is in session with the caller, before the call or after it.
    pub relayed_to_paired : o.answer.destination ≢ nobody
        → (in_session tables.connections (connection_of call) o.answer.destination ≡ true)
        ⊎ (in_session o.tables.connections (connection_of call) o.answer.destination ≡ true)
    unfolding done plan
    relayed_to_paired = rw (is-done tables call e) (λ n. ⊎_elim (λ s. inl s) (λ s. inr (sessions-kept _ _ ∙ s)) (relays.to_paired n))

-- ---- runs, from a fresh start

module _ (lent : Tables) (now term : ℕ) (e : (start lent now term).answer.number ≡ 0) where
  abbrev made : Tables
  made = (start lent now term).tables

  -- Demand 3 in the relay's words, three fields of `Claim`. Refused with 9 exactly when no check from 1 to 8 applies, the call is charged,
  -- and it costs more than the history before it leaves.
  pub nine-exactly : (before : List Call) (call : Call)
      → ((step (after made before) call).answer.number ≡ 9)
      ↔ ((precheck (after made before) call ≡ 0)
      × (charged call ≡ true)
      × (level_from_history (caller_of call) (time_of call) (history made before) < price (after made before) call))
  nine-exactly before call = (relay_demand3.every_run lent now term e (before ++ (call ∷ []))).refused_exactly before call [] refl

  -- The level in the table is the level from history, at any time not below the latest.
  pub level_is : (calls : List Call) (p : ℕ) → p < partners → (t : ℕ) → latest now (history made calls) ≤ t
      → level_now (bucket_of (after made calls).allowances p) t ≡ level_from_history p t (history made calls)
  level_is calls = (relay_demand3.every_run lent now term e calls).level

  -- Refused with 9 and with no accepted charged call since, a partner is not refused with 9 three seconds of clock later.
  pub not-nine_again : (before : List Call) (call : Call) (between : List Call) (again : Call)
      → (step (after made before) call).answer.number ≡ 9
      → NonePaid (caller_of call) (history (after made before) (call ∷ between))
      → caller_of again ≡ caller_of call
      → time_of call + 3 ≤ time_of again
      → (step (after made (before ++ (call ∷ between))) again).answer.number ≢ 9
  not-nine_again before call between again =
      (relay_demand3.every_run lent now term e (before ++ (call ∷ (between ++ (again ∷ []))))).retry before call between again [] refl
