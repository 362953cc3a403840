-- What a call sends fits the buffers that check 5 asks for: each message stands whole in its own. Assumes nothing.
use Prim.Native.Nat.{ℕ, ◌≤◌, max}
use mathlib.Core.Path.{◌≡◌}
use mathlib.Core.Bool.{Bool}
use mathlib.Core.List.{List}
use native.Mathlib.Omega.{arith}
use lib.Dec.{eqb, ltb, lit≤}
use lib.ListN.{length, length-append}
use Rattle.octets.specs.Octets.{big_endian}
use Rattle.octets.proofs.Numbers.{length-big_endian}
use Rattle.svsc.specs.Messages.{lease_granted, cookie_bytes, encode, digits}
use Rattle.rules.specs.Sizes.{least_buffer}
use Rattle.rules.specs.Searches.{end_row}
use Rattle.rules.specs.Tables.{Tables, partner_of, has_session, cookie_at, cookie_of}
use Rattle.rules.specs.Leases.{decide_lease, row_to_extend}
use Rattle.rules.specs.Sessions.{EstablishDecision, refused_with, established_with, decide_establish}
use Rattle.rules.specs.Calls.{Call, opening, message, closing, keepalive, time_of, connection_of, reply_buffer, relay_buffer}
use Rattle.rules.specs.Plans.{Plan, reply_only, refuse_lease, plan_open, plan_version_answer, plan_lease, plan_extension, plan_establish, plan_end, plan_data, plan_close, disconnecting, plan_call, plan}
use Rattle.rules.specs.Charges.{received}
use Rattle.rules.specs.Checks.{precheck}
use Rattle.rules.specs.Step.{step, done}
use Rattle.rules.proofs.Records.{length-part-most}
use Rattle.rules.proofs.Checks.{open_room, close_room, keepalive-room, reply_room, relay_room}
use Rattle.rules.proofs.Answers.{is-done, done_passed}
use Rattle.rules.proofs.Connections.{keys_most}
use Rattle.rules.proofs.Decisions.{is-granted}
use Rattle.rules.proofs.Plans.{Each, kind_of, every_plan, by-lease, by_test}

-- A reply of at most 64 bytes; to another connection at most 64 or as many as came.
record Fits (n : ℕ) (x : Plan) : Type 0 where
  reply_fits : length x.reply ≤ least_buffer
  relay_fits : length x.relay ≤ max least_buffer n

-- two messages of at most 64 bytes
small : {n d : ℕ} {reply relay cs ls : List ℕ} {u : Bool} → length reply ≤ least_buffer → length relay ≤ least_buffer
    → Fits n (record { reply = reply; relay = relay; destination = d; disconnect = u; connections = cs; leases = ls })
small a b = record { reply_fits = a; relay_fits = omega arith }

module _ (tables : Tables) (now c n : ℕ) where
  open tables use {connections as cs, leases as ls}

  answer-fits : (ok : ℕ) → Fits n (plan_version_answer tables c ok)
  unfolding plan_version_answer
  answer-fits ok =
      by_test (Fits n) (eqb ok 1) (λ h. small (lit≤ tt) (lit≤ tt)) (λ h. small (lit≤ tt) (lit≤ tt))

  refused-fits : Fits n (refuse_lease tables)
  unfolding encode
  refused-fits = small (lit≤ tt) (lit≤ tt)

  -- a lease that is told
  granted-fits : (id until : ℕ) (cookie ms : List ℕ) → length cookie ≤ cookie_bytes
      → Fits n (reply_only cs ms (encode (lease_granted id cookie until)))
  unfolding encode
  granted-fits id until cookie ms short =
      record { reply_fits = simp (length-append, length-big_endian) (omega arith); relay_fits = omega arith }

  lease-fits : (random cookie : List ℕ) → Fits n (plan_lease tables now c (decide_lease cs ls now c random cookie))
  unfolding plan_lease
  lease-fits random cookie =
      by-lease (Fits n) tables now c (decide_lease cs ls now c random cookie) refused-fits
      (λ row e. granted-fits _ _ _ _ (unfold cookie_of in length-part-most ls (cookie_at row) cookie_bytes))
      (λ row id drawn e.
      granted-fits _ _ _ _ (rw (is-granted ls now c random cs cookie row id drawn e).cookie_is (length-part-most random 0 cookie_bytes)))

  extension-fits : (row : ℕ) → Fits n (plan_extension tables now c row)
  unfolding plan_extension encode big_endian
  extension-fits row =
      by_test (Fits n) (ltb row (end_row (partner_of c)))
      (λ h. small (lit≤ tt) (lit≤ tt))
      (λ h. small (lit≤ tt) (lit≤ tt))

  establish-fits : (id : ℕ) (random : List ℕ) (d : EstablishDecision) → Fits n (plan_establish tables c id random d)
  unfolding plan_establish encode
  establish-fits id random (refused_with status) = small (unfold big_endian in lit≤ tt) (lit≤ tt)
  establish-fits id random (established_with h) = record {
    reply_fits =
        simp (length-append, length-big_endian) (omega (arith, simp length-append at (keys_most random 16 32)));
    relay_fits = omega (arith, keys_most random 48 64);
  }

  dead-fits : Fits n (plan_close tables c) → Fits n (disconnecting (plan_close tables c))
  dead-fits x = record { reply_fits = x.reply_fits; relay_fits = x.relay_fits }

  close_fits : Fits n (plan_close tables c)
  unfolding plan_close plan_end encode
  close_fits =
      small (lit≤ tt) (by_test (λ (x : Plan). length x.relay ≤ least_buffer) (has_session cs c) (λ h. lit≤ tt) (λ h. lit≤ tt))

  each_fits : (kind : ℕ) → Each (Fits n) tables now c n kind
  unfolding plan_open plan_end plan_data encode digits
  each_fits kind = record {
    open_plan = small (lit≤ tt) (lit≤ tt);
    version_answer_lem = λ t. answer-fits;
    lease = lease-fits;
    extension = λ cookie. extension-fits (row_to_extend ls now c cookie);
    establish_plan = λ id random long o. establish-fits id random (decide_establish cs ls now c id);
    end_plan = λ h. small (lit≤ tt) (lit≤ tt);
    data_plan = λ h bytes l. record { reply_fits = lit≤ tt; relay_fits = omega arith };
    no_plan = small (lit≤ tt) (lit≤ tt);
    close_plan = close_fits;
    dead_plan = λ t. dead-fits close_fits;
    ask_plan = small (lit≤ tt) (lit≤ tt);
  }

-- Each buffer has room for its message, so that it starts with the whole of it.
pub messages_fit : (tables : Tables) (call : Call) → (step tables call).answer.number ≡ 0
    → ((step tables call).answer.reply_length ≤ length (reply_buffer call))
    × ((step tables call).answer.relay_length ≤ length (relay_buffer call))
unfolding plan
messages_fit tables call e =
    let h = done_passed tables call e in
    rw (is-done tables call e) (unfold done in room call h (fits call h))
  where
    -- what is written of the messages sent changes none of them
    fits : (call : Call) → precheck tables call ≡ 0 → Fits (received call) (plan tables call)
    fits call h =
        let each = each_fits tables (time_of call) (connection_of call) (received call) (kind_of call) in
        let x = every_plan (Fits (received call)) tables call h each in
        record { reply_fits = x.reply_fits; relay_fits = x.relay_fits }

    room : (call : Call) → precheck tables call ≡ 0 → Fits (received call) (plan tables call)
        → (length (plan tables call).reply ≤ length (reply_buffer call)) × (length (plan tables call).relay ≤ length (relay_buffer call))
    room (opening now c reply) h x = (omega (arith, x.reply_fits, open_room tables now c reply h), unfold plan_call plan_open in lit≤ tt)
    room (message now c m random reply relay) h x =
        let reply-is = reply_room tables now c m random reply relay h in
        let relay-is = relay_room tables now c m random reply relay h in
        (omega (arith, x.reply_fits), omega (arith, x.relay_fits))
    room (closing now c relay) h x = (unfold plan_call plan_close in lit≤ tt, omega (arith, x.relay_fits, close_room tables now c relay h))
    room (keepalive now c reply relay) h x =
        let both = keepalive-room tables now c reply relay h in
        (omega (arith, x.reply_fits, both.0), omega (arith, x.relay_fits, both.1))
