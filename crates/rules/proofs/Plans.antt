-- What is shown of each kind of plan holds of what every call that passed the first eight checks asks for. Assumes nothing.
use Rattle.std.specs.Prelude.{if◌then◌else◌}
use Prim.Native.Nat.{ℕ, suc}
use mathlib.Core.Path.{◌≡◌, refl}
use mathlib.Core.Logic.{◌⊎◌, inl, inr, ⊎_elim}
use mathlib.Core.Bool.{Bool, true, false, ◌||◌}
use mathlib.Core.Option.{Option, none, some}
use mathlib.Core.List.{List, []}
use lib.Dec.{eqb}
use lib.ListN.{length}
use borrow.Author.Tests.{eq-eqb}
use Rattle.octets.specs.Octets.{part}
use Rattle.svsc.specs.Messages.{Message, protocol_version, version_answer, lease_request, lease_request_with_cookie, lease_refused, lease_granted, extension_request, extension_refused, extension_granted, establish_request, establish_refused, established, establish_notification, session_end, session_end_notification, data_send, data_receive, keepalive_message, encode, type_of, decode, from_peer}
use Rattle.rules.specs.Sizes.{random_bytes}
use Rattle.rules.specs.Tables.{Tables, opened, state, is_open, peer, has_session}
use Rattle.rules.specs.Leases.{LeaseDecision, holds_lease, no_spare_row, cookie_in_use, no_free_id, renewed, granted, decide_lease, row_to_extend}
use Rattle.rules.specs.Sessions.{decide_establish}
use Rattle.rules.specs.Decisions.{Decision, version_answered, lease_decided, extension_decided, session_decided, session_ended, data_sent, nothing_asked, decide_message}
use Rattle.rules.specs.Keepalives.{is_dead, is_due, ask}
use Rattle.rules.specs.Calls.{Call, opening, message, closing, keepalive, time_of, connection_of}
use Rattle.rules.specs.Charges.{received}
use Rattle.rules.specs.Plans.{Plan, reply_only, do_nothing, refuse_lease, plan_open, plan_version_answer, plan_lease, plan_extension, plan_establish, plan_end, plan_data, plan_close, plan_decided, plan_message, disconnecting, plan_keepalive, plan_call}
use Rattle.rules.specs.Checks.{permits, precheck}
use Rattle.rules.proofs.Checks.{random-length, has_session_lem, is-permitted, open_permits}
use Rattle.rules.proofs.Messages.{decode_type, data_length, lease_read, no_cookie}

-- a test that decides between two plans
pub by_test : {A : Type 0} (P : A → Type 0) (t : Bool) {a b : A} → (t ≡ true → P a) → (t ≡ false → P b) → P (if t then a else b)
by_test P true f g = f refl
by_test P false f g = g refl

-- What is to be shown of each kind of plan, so that it holds of every one.
pub record Each (P : Plan → Type 0) (tables : Tables) (now c received kind : ℕ) : Type 0 where
  pub open_plan : P (plan_open tables c)
  pub version_answer_lem : kind ≡ 1 → (ok : ℕ) → P (plan_version_answer tables c ok)
  pub lease : (random cookie : List ℕ) → P (plan_lease tables now c (decide_lease tables.connections tables.leases now c random cookie))
  pub extension : (cookie : List ℕ) → P (plan_extension tables now c (row_to_extend tables.leases now c cookie))
  pub establish_plan : (id : ℕ) (random : List ℕ) → length random ≡ random_bytes → is_open tables.connections c ≡ true
      → P (plan_establish tables c id random (decide_establish tables.connections tables.leases now c id))
  pub end_plan : has_session tables.connections c ≡ true → P (plan_end tables c (peer tables.connections c))
  pub data_plan : has_session tables.connections c ≡ true → (bytes : List ℕ) → suc (length bytes) ≡ received → P (plan_data tables (peer tables.connections c) bytes)
  pub no_plan : P (do_nothing tables)
  pub close_plan : P (plan_close tables c)
  pub dead_plan : kind ≡ 15 → P (disconnecting (plan_close tables c))
  pub ask_plan : P (reply_only (ask tables.connections now c) tables.leases (encode keepalive_message))

-- What is to be shown of each decision on a message, so that it holds of every one.
pub record EachDecision (P : Decision → Type 0) (tables : Tables) (now c : ℕ) (random : List ℕ) (received kind : ℕ) : Type 0 where
  pub version_answered_lem : kind ≡ 1 → (ok : ℕ) → P (version_answered ok)
  pub lease_decided_lem : kind ≡ 2 → (cookie : List ℕ) → P (lease_decided (decide_lease tables.connections tables.leases now c random cookie))
  pub extension_decided_lem : kind ≡ 4 → (cookie : List ℕ) → P (extension_decided (row_to_extend tables.leases now c cookie))
  pub session_decided_lem : kind ≡ 6 → (id : ℕ) → is_open tables.connections c ≡ true
      → P (session_decided id (decide_establish tables.connections tables.leases now c id))
  pub session_ended_lem : kind ≡ 9 → has_session tables.connections c ≡ true → P (session_ended (peer tables.connections c))
  pub data_sent_lem : kind ≡ 11 → has_session tables.connections c ≡ true → (bytes : List ℕ) → suc (length bytes) ≡ received
      → P (data_sent (peer tables.connections c) bytes)
  pub nothing_asked_lem : P nothing_asked

module _
    (P : Decision → Type 0) (tables : Tables) (now c : ℕ) (random : List ℕ) (n kind : ℕ) (each : EachDecision P tables now c random n kind)
  where
    opened-by : permits (state tables.connections c) 6 ≡ true → is_open tables.connections c ≡ true
    opened-by h = eq-eqb _ opened (open_permits (state tables.connections c) h)

    -- a message that the state permits, with a session for types 9 and 11
    of-message : (o : Option Message) → ((x : Message) → o ≡ some x → permits (state tables.connections c) (type_of (encode x)) ≡ true)
        → ((x : Message) → o ≡ some x → eqb (type_of (encode x)) 9 || eqb (type_of (encode x)) 11 ≡ true
        → has_session tables.connections c ≡ true)
        → ((bytes : List ℕ) → o ≡ some (data_send bytes) → suc (length bytes) ≡ n)
        → ((x : Message) → o ≡ some x → kind ≡ type_of (encode x))
        → P (decide_message tables.connections tables.leases now c random o)
    unfolding decide_message encode
    of-message (some (version_answer n)) ok h l t = each.version_answered_lem (t (version_answer n) refl) n
    of-message (some lease_request) ok h l t = each.lease_decided_lem (t lease_request refl) []
    of-message (some (lease_request_with_cookie cookie)) ok h l t = each.lease_decided_lem (t (lease_request_with_cookie cookie) refl) cookie
    of-message (some (extension_request cookie)) ok h l t = each.extension_decided_lem (t (extension_request cookie) refl) cookie
    of-message (some (establish_request id)) ok h l t = each.session_decided_lem (t (establish_request id) refl) id (opened-by (ok (establish_request id) refl))
    of-message (some session_end) ok h l t = each.session_ended_lem (t session_end refl) (h session_end refl refl)
    of-message (some (data_send bytes)) ok h l t = each.data_sent_lem (t (data_send bytes) refl) (h (data_send bytes) refl refl) bytes (l bytes refl)
    of-message (some keepalive_message) ok h l t = each.nothing_asked_lem
    of-message (some (protocol_version major minor)) ok h l t = each.nothing_asked_lem
    of-message (some lease_refused) ok h l t = each.nothing_asked_lem
    of-message (some (lease_granted id cookie expiration)) ok h l t = each.nothing_asked_lem
    of-message (some extension_refused) ok h l t = each.nothing_asked_lem
    of-message (some (extension_granted expiration)) ok h l t = each.nothing_asked_lem
    of-message (some (establish_refused id status)) ok h l t = each.nothing_asked_lem
    of-message (some (established id session peer_id key)) ok h l t = each.nothing_asked_lem
    of-message (some (establish_notification session peer_id key)) ok h l t = each.nothing_asked_lem
    of-message (some session_end_notification) ok h l t = each.nothing_asked_lem
    of-message (some (data_receive bytes)) ok h l t = each.nothing_asked_lem
    of-message none ok h l t = each.nothing_asked_lem

pub every_decision : (P : Decision → Type 0) (tables : Tables) (now c : ℕ) (m random reply relay : List ℕ)
    → precheck tables (message now c m random reply relay) ≡ 0
    → EachDecision P tables now c random (length m) (type_of m) → P (decide_message tables.connections tables.leases now c random (decode m))
every_decision P tables now c m random reply relay h each =
    of-message P tables now c random (length m) (type_of m) each (decode m)
    (λ x e. rw (← decode_type m x e) (is-permitted tables now c m random reply relay h))
    (λ x e t. has_session_lem tables now c m random reply relay h (rw (decode_type m x e) t))
    (data_length m)
    (decode_type m)

-- the type of a message; 14 and 15, no types, of an open and a close, and of a keepalive
abbrev pub kind_of : Call → ℕ
kind_of (opening now c reply) = 14
kind_of (message now c m random reply relay) = type_of m
kind_of (closing now c relay) = 14
kind_of (keepalive now c reply relay) = 15

pub every_plan : (P : Plan → Type 0) (tables : Tables) (call : Call) → precheck tables call ≡ 0
    → Each P tables (time_of call) (connection_of call) (received call) (kind_of call) → P (plan_call tables call)
unfolding plan_call plan_message plan_decided plan_keepalive
every_plan P tables (opening now c reply) h each = each.open_plan
every_plan P tables (message now c m random reply relay) h each =
    every_decision (λ d. P (plan_decided tables now c random d)) tables now c m random reply relay h
    (record {
      version_answered_lem = each.version_answer_lem;
      lease_decided_lem = λ t. each.lease random;
      extension_decided_lem = λ t. each.extension;
      session_decided_lem = λ t id. each.establish_plan id random (random-length tables now c m random reply relay h);
      session_ended_lem = λ t. each.end_plan;
      data_sent_lem = λ t. each.data_plan;
      nothing_asked_lem = each.no_plan;
    })
every_plan P tables (closing now c relay) h each = each.close_plan
every_plan P tables (keepalive now c reply relay) h each =
    by_test P (is_dead tables.connections now c)
    (λ t. each.dead_plan refl)
    (λ t. by_test P (is_due tables.connections now c) (λ u. each.ask_plan) (λ u. each.no_plan))

-- What a message asks for depends on the random bytes for types 2 and 6 alone.
pub plan_depends : (tables : Tables) (now c : ℕ) (r s : List ℕ) (o : Option Message)
    → ((x : Message) → o ≡ some x → (type_of (encode x) ≡ 2) ⊎ (type_of (encode x) ≡ 6) → r ≡ s)
    → plan_message tables now c r o ≡ plan_message tables now c s o
unfolding plan_message plan_decided decide_message encode
plan_depends tables now c r s (some (version_answer ok)) g = refl
plan_depends tables now c r s (some lease_request) g = rw (g lease_request refl (inl refl))
plan_depends tables now c r s (some (lease_request_with_cookie cookie)) g = rw (g (lease_request_with_cookie cookie) refl (inl refl))
plan_depends tables now c r s (some (extension_request cookie)) g = refl
plan_depends tables now c r s (some (establish_request id)) g = rw (g (establish_request id) refl (inr refl))
plan_depends tables now c r s (some session_end) g = refl
plan_depends tables now c r s (some (data_send bytes)) g = refl
plan_depends tables now c r s (some keepalive_message) g = refl
plan_depends tables now c r s (some (protocol_version major minor)) g = refl
plan_depends tables now c r s (some lease_refused) g = refl
plan_depends tables now c r s (some (lease_granted id cookie expiration)) g = refl
plan_depends tables now c r s (some extension_refused) g = refl
plan_depends tables now c r s (some (extension_granted expiration)) g = refl
plan_depends tables now c r s (some (establish_refused id status)) g = refl
plan_depends tables now c r s (some (established id session peer_id key)) g = refl
plan_depends tables now c r s (some (establish_notification session peer_id key)) g = refl
plan_depends tables now c r s (some session_end_notification) g = refl
plan_depends tables now c r s (some (data_receive bytes)) g = refl
plan_depends tables now c r s none g = refl

-- A message of type 2 asks for a lease, with the cookie behind its first two bytes: no bytes, if it has none.
pub lease-decision : (tables : Tables) (now c : ℕ) (m random : List ℕ) → from_peer m ≡ true → type_of m ≡ 2
    → decide_message tables.connections tables.leases now c random (decode m)
    ≡ lease_decided (decide_lease tables.connections tables.leases now c random (part m 2 24))
unfolding decide_message
lease-decision tables now c m random h t = ⊎_elim (λ e. rw (no_cookie m e) (rw e)) (λ e. rw e) (lease_read m h t)

pub lease-plan : (tables : Tables) (now c : ℕ) (m random : List ℕ) → from_peer m ≡ true → type_of m ≡ 2
    → plan_message tables now c random (decode m)
    ≡ plan_lease tables now c (decide_lease tables.connections tables.leases now c random (part m 2 24))
unfolding plan_message plan_decided
lease-plan tables now c m random h t = rw (lease-decision tables now c m random h t)

-- a lease: all that fail have one plan
module _ (P : Plan → Type 0) (tables : Tables) (now c : ℕ) where
  pub by-lease : (d : LeaseDecision) → P (refuse_lease tables) → ((row : ℕ) → d ≡ renewed row → P (plan_lease tables now c (renewed row)))
      → ((row id : ℕ) (cookie : List ℕ) → d ≡ granted row id cookie → P (plan_lease tables now c (granted row id cookie)))
      → P (plan_lease tables now c d)
  unfolding plan_lease
  by-lease holds_lease r f g = r
  by-lease no_spare_row r f g = r
  by-lease cookie_in_use r f g = r
  by-lease no_free_id r f g = r
  by-lease (renewed row) r f g = f row refl
  by-lease (granted row id cookie) r f g = g row id cookie refl
