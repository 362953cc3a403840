-- Two tables that a call finds alike: it gets the same answer and sends the same from both, and what it leaves is alike again.
-- Assumes nothing.
use Rattle.std.specs.Prelude.{if◌then◌else◌}
use Prim.Native.Nat.{ℕ, ◌≤◌, ◌<◌}
use mathlib.Core.Path.{◌≡◌, refl, sym, ap, subst}
use mathlib.Core.Bool.{Bool}
use mathlib.Core.Option.{Option, none, some}
use mathlib.Core.List.{List, []}
use native.Mathlib.Omega.{arith}
use lib.Dec.{eqb, ltb}
use Rattle.svsc.specs.Messages.{Message, protocol_version, version_answer, lease_request, lease_request_with_cookie, lease_refused, lease_granted, extension_request, extension_refused, extension_granted, establish_request, establish_refused, established, establish_notification, session_end, session_end_notification, data_send, data_receive, keepalive_message, decode}
use Rattle.rules.specs.Sizes.{rows_per_partner}
use Rattle.rules.specs.Searches.{first_row, end_row}
use Rattle.rules.specs.Tables.{Tables, partner_of, owner_of, connection_at, keys_at, bucket_of, clock, lease_term, sized, peer, has_session}
use Rattle.rules.specs.Leases.{LeaseDecision, holds_lease, no_spare_row, cookie_in_use, no_free_id, renewed, granted, first_free, id_taken, id_elsewhere, decide_lease, lease_end, grant, renew, row_to_extend, release}
use Rattle.rules.specs.Sessions.{EstablishDecision, refused_with, established_with, decide_establish, clear, await, join, leave, end_session, establish}
use Rattle.rules.specs.Decisions.{decide_message}
use Rattle.rules.specs.Calls.{Call, opening, message, closing, keepalive, time_of, connection_of, caller_of}
use Rattle.rules.specs.Plans.{Plan, do_nothing, plan_open, plan_version_answer, plan_lease, plan_extension, plan_establish, plan_end, plan_data, plan_close, plan_decided, plan_message, plan_keepalive, plan_call, answered_by, heard, stamped, plan}
use Rattle.rules.specs.Keepalives.{is_dead, is_due, ask, answered, stamp}
use Rattle.rules.specs.Charges.{price, caller_level}
use Rattle.rules.specs.Checks.{wrong_time, wrong_state, not_permitted, no_session, above_level, first_eight, checks, first_applying, check}
use Rattle.rules.specs.Step.{done}
use Rattle.rules.specs.Bytes.{SameAt}
use Rattle.noninterference.specs.Reading.{SameSizes, SameTold}
use Rattle.rules.proofs.Same.{same-put}
use Rattle.rules.proofs.Decisions.{is-renewed}
use Rattle.noninterference.proofs.Reading.{by_both, InLeases, state-same, peer-same, has_session_same, dead-same, due-same, id_same, cookie-same, row_to_extend_same, lease-same, first-free-same, establish-same, release-same}

-- ---- plans

-- the same is sent, to the same connection; afterwards the connection tables are the same at the places of which P holds, and so are the
-- lease rows of partners of which Q holds
pub record SamePlan (Q P : ℕ → Type 0) (x y : Plan) : Type 0 where
  pub reply : x.reply ≡ y.reply
  pub relay : x.relay ≡ y.relay
  pub destination : x.destination ≡ y.destination
  pub disconnect : x.disconnect ≡ y.disconnect
  pub connections : SameAt P x.connections y.connections
  pub leases : SameAt (InLeases Q) x.leases y.leases

-- plans that differ in the tables alone
tables_alike : {Q P : ℕ → Type 0} {m n : List ℕ} {d : ℕ} {u : Bool} {cs ds ls ms : List ℕ}
    → SameAt P cs ds → SameAt (InLeases Q) ls ms
    → SamePlan Q P
    (record { reply = m; relay = n; destination = d; disconnect = u; connections = cs; leases = ls })
    (record { reply = m; relay = n; destination = d; disconnect = u; connections = ds; leases = ms })
tables_alike s t = record { reply = refl; relay = refl; destination = refl; disconnect = refl; connections = s; leases = t }

module _
    (Q P : ℕ → Type 0) (heads : (c i : ℕ) → Q (partner_of c) → connection_at c ≤ i → i < keys_at c → P i)
    (a b : Tables) (now c : ℕ) (mine : Q (partner_of c))
    (s : SameAt P a.connections b.connections) (t : SameAt (InLeases Q) a.leases b.leases)
    (until : lease_end a.allowances now ≡ lease_end b.allowances now)
    (elsewhere : (r : ℕ) → Q (owner_of r) → id_elsewhere a.leases now r ≡ id_elsewhere b.leases now r)
  where
    open a use {connections as cs, leases as ls}
    open b use {connections as ds, leases as ms}

    abbrev Agree : Plan → Plan → Type 0
    Agree = SamePlan Q P

    nothing_alike : Agree (do_nothing a) (do_nothing b)
    nothing_alike = tables_alike s t

    open_alike : Agree (plan_open a c) (plan_open b c)
    unfolding plan_open await clear
    open_alike = tables_alike (same-put (same-put s _ _) _ _) t

    answer_alike : (ok : ℕ) → Agree (plan_version_answer a c ok) (plan_version_answer b c ok)
    unfolding plan_version_answer clear
    answer_alike ok =
        by_both Agree (eqb ok 1) (eqb ok 1) refl (λ e. tables_alike (same-put s _ _) t) (λ e. tables_alike (same-put s _ _) t)

    module _ (random cookie : List ℕ) where
      decided-lease : (d : LeaseDecision) → decide_lease cs ls now c random cookie ≡ d → Agree (plan_lease a now c d) (plan_lease b now c d)
      unfolding plan_lease grant renew
      decided-lease holds_lease e = tables_alike s t
      decided-lease no_spare_row e = tables_alike s t
      decided-lease cookie_in_use e = tables_alike s t
      decided-lease no_free_id e = tables_alike s t
      decided-lease (renewed row) e =
          let own = subst Q (sym (is-renewed ls now c random cs cookie row e).own.owner) mine in
          rw (← until, ← id_same Q ls ms t row own, ← cookie-same Q ls ms t row own)
          (tables_alike s (same-put (same-put t _ _) _ _))
      decided-lease (granted row id drawn) e =
          rw (← until) (tables_alike s (same-put (same-put (same-put (same-put t _ _) _ _) _ _) _ _))

      lease_alike : first_free ls now random ≡ first_free ms now random
          → Agree (plan_lease a now c (decide_lease cs ls now c random cookie)) (plan_lease b now c (decide_lease ds ms now c random cookie))
      lease_alike e =
          rw (← lease-same Q P heads cs ds ls ms s t now c mine elsewhere random cookie e)
          (decided-lease (decide_lease cs ls now c random cookie) refl)

    extension_alike : (cookie : List ℕ) → Agree (plan_extension a now c (row_to_extend ls now c cookie)) (plan_extension b now c (row_to_extend ms now c cookie))
    unfolding plan_extension
    extension_alike cookie =
        rw (← row_to_extend_same Q ls ms t now c mine cookie, ← until)
        (by_both Agree (ltb (row_to_extend ls now c cookie) (end_row (partner_of c))) _ refl
        (λ e. tables_alike s (same-put t _ _))
        (λ e. tables_alike s t))

    decided-establish : (id : ℕ) (random : List ℕ) (d : EstablishDecision) → Agree (plan_establish a c id random d) (plan_establish b c id random d)
    unfolding plan_establish establish join
    decided-establish id random (refused_with status) = tables_alike s t
    decided-establish id random (established_with h) =
        tables_alike (same-put (same-put (same-put (same-put s _ _) _ _) _ _) _ _) t

    establish_alike : (id : ℕ) (random : List ℕ)
        → Agree
        (plan_establish a c id random (decide_establish cs ls now c id))
        (plan_establish b c id random (decide_establish ds ms now c id))
    establish_alike id random =
        rw (← establish-same Q P heads cs ds ls ms s t now c id mine) (decided-establish id random (decide_establish cs ls now c id))

    end_alike : Agree (plan_end a c (peer cs c)) (plan_end b c (peer ds c))
    unfolding plan_end end_session leave join
    end_alike =
        rw (← peer-same Q P heads cs ds s c mine)
        (tables_alike (same-put (same-put (same-put (same-put s _ _) _ _) _ _) _ _) t)

    data_alike : (bytes : List ℕ) → Agree (plan_data a (peer cs c) bytes) (plan_data b (peer ds c) bytes)
    unfolding plan_data
    data_alike bytes = rw (← peer-same Q P heads cs ds s c mine) (tables_alike s t)

    close_alike : Agree (plan_close a c) (plan_close b c)
    unfolding plan_close release clear
    close_alike =
        let ended : Agree (if has_session cs c then plan_end a c (peer cs c) else do_nothing a) (if has_session ds c then plan_end b c (peer ds c) else do_nothing b) =
        by_both Agree (has_session cs c) _ (has_session_same Q P heads cs ds s c mine) (λ e. end_alike) (λ e. nothing_alike) in
        record {
          reply = refl;
          relay = ended.relay;
          destination = ended.destination;
          disconnect = refl;
          connections = same-put ended.connections _ _;
          leases =
              release-same Q c rows_per_partner (first_row (partner_of c))
              (λ i l u. subst Q (let e : partner_of c ≡ owner_of i = omega arith in e) mine) ls ms t;
        }

    keepalive_alike : Agree (plan_keepalive a now c) (plan_keepalive b now c)
    unfolding plan_keepalive ask
    keepalive_alike =
        let closed = close_alike in
        by_both Agree (is_dead cs now c) _ (dead-same Q P heads cs ds s now c mine)
        (λ e. record {
          reply = closed.reply;
          relay = closed.relay;
          destination = closed.destination;
          disconnect = refl;
          connections = closed.connections;
          leases = closed.leases;
        })
        (λ e.
        by_both Agree (is_due cs now c) _ (due-same Q P heads cs ds s now c mine)
        (λ u. tables_alike (same-put (same-put s _ _) _ _) t)
        (λ u. nothing_alike))

    message_alike : (random : List ℕ) → first_free ls now random ≡ first_free ms now random → (o : Option Message)
        → Agree (plan_message a now c random o) (plan_message b now c random o)
    unfolding plan_message plan_decided decide_message
    message_alike random e (some (version_answer ok)) = answer_alike ok
    message_alike random e (some lease_request) = lease_alike random [] e
    message_alike random e (some (lease_request_with_cookie cookie)) = lease_alike random cookie e
    message_alike random e (some (extension_request cookie)) = extension_alike cookie
    message_alike random e (some (establish_request id)) = establish_alike id random
    message_alike random e (some session_end) = end_alike
    message_alike random e (some (data_send bytes)) = data_alike bytes
    message_alike random e (some keepalive_message) = nothing_alike
    message_alike random e (some (protocol_version major minor)) = nothing_alike
    message_alike random e (some lease_refused) = nothing_alike
    message_alike random e (some (lease_granted id cookie expiration)) = nothing_alike
    message_alike random e (some extension_refused) = nothing_alike
    message_alike random e (some (extension_granted expiration)) = nothing_alike
    message_alike random e (some (establish_refused id status)) = nothing_alike
    message_alike random e (some (established id session peer_id key)) = nothing_alike
    message_alike random e (some (establish_notification session peer_id key)) = nothing_alike
    message_alike random e (some session_end_notification) = nothing_alike
    message_alike random e (some (data_receive bytes)) = nothing_alike
    message_alike random e none = nothing_alike

-- plans that agree do so with what is written of the messages that were sent and heard
stamp_alike : {P : ℕ → Type 0} {cs ds : List ℕ} (now n c : ℕ) → SameAt P cs ds → SameAt P (stamp cs now n c) (stamp ds now n c)
unfolding stamp
stamp_alike {P} now n c s = by_both (SameAt P) (eqb n 0) _ refl (λ e. s) (λ e. same-put s _ _)

answered_alike : {P : ℕ → Type 0} {cs ds : List ℕ} (call : Call) → SameAt P cs ds → SameAt P (answered_by call cs) (answered_by call ds)
unfolding answered
answered_alike (opening now c reply) s = s
answered_alike (message now c m random reply relay) s = same-put s _ _
answered_alike (closing now c relay) s = s
answered_alike (keepalive now c reply relay) s = s

marked_alike : {Q P : ℕ → Type 0} (call : Call) {x y : Plan} → SamePlan Q P x y
    → SamePlan Q P
    (stamped (time_of call) (connection_of call) (heard call x))
    (stamped (time_of call) (connection_of call) (heard call y))
marked_alike call e = record {
  reply = e.reply;
  relay = e.relay;
  destination = e.destination;
  disconnect = e.disconnect;
  connections =
      rw (e.reply, e.relay, e.destination)
      (stamp_alike (time_of call) _ _ (stamp_alike (time_of call) _ _ (answered_alike call e.connections)));
  leases = e.leases;
}

-- plans that send the same tell the same
pub sends-same : {Q P : ℕ → Type 0} (a b : Tables) (call : Call) {x y : Plan} → SamePlan Q P x y → SameTold (done a call x) (done b call y)
unfolding done
sends-same a b call e = record {
  answer = rw (e.reply, e.relay, e.destination, e.disconnect);
  reply = rw e.reply;
  relay = rw e.relay;
}

-- ---- the checks that read connection records

module _
    (Q P : ℕ → Type 0) (heads : (c i : ℕ) → Q (partner_of c) → connection_at c ≤ i → i < keys_at c → P i)
    (cs ds : List ℕ) (s : SameAt P cs ds)
  where
    wrong-state-same : (call : Call) → Q (caller_of call) → wrong_state cs call ≡ wrong_state ds call
    unfolding wrong_state
    wrong-state-same (opening now c reply) h = rw (state-same Q P heads cs ds s c h)
    wrong-state-same (message now c m random reply relay) h = rw (state-same Q P heads cs ds s c h)
    wrong-state-same (closing now c relay) h = rw (state-same Q P heads cs ds s c h)
    wrong-state-same (keepalive now c reply relay) h = rw (state-same Q P heads cs ds s c h)

    not-permitted-same : (call : Call) → Q (caller_of call) → not_permitted cs call ≡ not_permitted ds call
    unfolding not_permitted
    not-permitted-same (opening now c reply) h = refl
    not-permitted-same (message now c m random reply relay) h = rw (state-same Q P heads cs ds s c h)
    not-permitted-same (closing now c relay) h = refl
    not-permitted-same (keepalive now c reply relay) h = refl

    no_session_same : (call : Call) → Q (caller_of call) → no_session cs call ≡ no_session ds call
    unfolding no_session
    no_session_same (opening now c reply) h = refl
    no_session_same (message now c m random reply relay) h = rw (has_session_same Q P heads cs ds s c h)
    no_session_same (closing now c relay) h = refl
    no_session_same (keepalive now c reply relay) h = refl

-- ---- a call

-- Q holds of the partners whose lease rows are the same, P of the places of the connection table that are.
pub record Alike (Q P : ℕ → Type 0) (a b : Tables) (call : Call) : Type 0 where
  pub mine : Q (caller_of call)
  pub heads : (c i : ℕ) → Q (partner_of c) → connection_at c ≤ i → i < keys_at c → P i
  pub sizes : SameSizes a b
  pub connections : SameAt P a.connections b.connections
  pub leases : SameAt (InLeases Q) a.leases b.leases
  pub live_ids : (id : ℕ) → id_taken a.leases (time_of call) id ≡ id_taken b.leases (time_of call) id
  pub elsewhere : (r : ℕ) → Q (owner_of r) → id_elsewhere a.leases (time_of call) r ≡ id_elsewhere b.leases (time_of call) r
  pub allowance : bucket_of a.allowances (caller_of call) ≡ bucket_of b.allowances (caller_of call)
  pub clocks : clock a.allowances ≡ clock b.allowances
  pub terms : lease_term a.allowances ≡ lease_term b.allowances

module _ {Q P : ℕ → Type 0} {a b : Tables} {call : Call} (x : Alike Q P a b call) where
  open a use {connections as cs, leases as ls, allowances as al}
  open b use {connections as ds, leases as ms, allowances as bl}

  level-same : caller_level al call ≡ caller_level bl call
  unfolding caller_level
  level-same = rw x.allowance

  end_same : (now : ℕ) → lease_end al now ≡ lease_end bl now
  unfolding lease_end
  end_same now = rw x.terms

  sized_same : sized a ≡ sized b
  unfolding sized
  sized_same = rw (x.sizes.connections, x.sizes.leases, x.sizes.allowances)

  plan-of : (k : Call) → Q (caller_of k) → time_of k ≡ time_of call → SamePlan Q P (plan_call a k) (plan_call b k)
  unfolding plan_call
  plan-of (opening now c reply) q t =
      open_alike Q P x.heads a b now c q x.connections x.leases (end_same now) (rw t x.elsewhere)
  plan-of (message now c m random reply relay) q t =
      message_alike Q P x.heads a b now c q x.connections x.leases (end_same now) (rw t x.elsewhere) random
      (first-free-same Q ls ms now (rw t x.live_ids) random)
      (decode m)
  plan-of (closing now c relay) q t =
      close_alike Q P x.heads a b now c q x.connections x.leases (end_same now) (rw t x.elsewhere)
  plan-of (keepalive now c reply relay) q t =
      keepalive_alike Q P x.heads a b now c q x.connections x.leases (end_same now) (rw t x.elsewhere)

  pub plan-same : SamePlan Q P (plan a call) (plan b call)
  unfolding plan
  plan-same = marked_alike call (plan-of call x.mine refl)

  -- what they send costs the same
  pub price-same : price a call ≡ price b call
  unfolding price
  price-same = rw (plan-same.reply, plan-same.relay)

  checks-same : checks a call ≡ checks b call
  unfolding checks first_eight wrong_time above_level
  checks-same =
      rw (
        sized_same,
        x.clocks,
        wrong-state-same Q P x.heads cs ds x.connections call x.mine,
        not-permitted-same Q P x.heads cs ds x.connections call x.mine,
        no_session_same Q P x.heads cs ds x.connections call x.mine,
        level-same,
        price-same,
      )

  pub check-same : check a call ≡ check b call
  unfolding check
  check-same = ap (first_applying 1) checks-same
