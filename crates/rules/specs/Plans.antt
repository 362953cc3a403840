-- What a call that passes the checks would do: what is sent, and the tables afterwards (01, "Effects"; 02, Item 3).
use Rattle.std.specs.Prelude.{ℕ, Bool, true, false, List, [], eqb, ltb, length, if◌then◌else◌}
use Rattle.std.proofs.Math.Option.{Option}
use Rattle.svsc.specs.Messages.{Message, protocol_version, lease_refused, lease_granted, extension_refused, extension_granted, establish_refused, established, establish_notification, session_end_notification, data_receive, keepalive_message, encode, decode}
use Rattle.rules.specs.Sizes.{nobody}
use Rattle.rules.specs.Searches.{end_row}
use Rattle.rules.specs.Tables.{Tables, partner_of, opened, peer, has_session, id_of, cookie_of, set_state, set_expiry}
use Rattle.rules.specs.Leases.{LeaseDecision, holds_lease, no_spare_row, cookie_in_use, no_free_id, renewed, granted, lease_end, grant, renew, release}
use Rattle.rules.specs.Sessions.{EstablishDecision, refused_with, established_with, random_session_id, callers_peer_id, callers_key, holders_peer_id, holders_key, establish, end_session, await, clear}
use Rattle.rules.specs.Decisions.{Decision, version_answered, lease_decided, extension_decided, session_decided, session_ended, data_sent, nothing_asked, decide_message}
use Rattle.rules.specs.Keepalives.{is_dead, is_due, ask, answered, stamp}
use Rattle.rules.specs.Calls.{Call, opening, message, closing, keepalive, time_of, connection_of}

-- the messages to the caller and to another connection, as bytes (none where nothing is sent), that connection, whether the host
-- disconnects the caller, and two tables afterwards
pub record Plan : Type 0 where
  pub reply : List ℕ
  pub relay : List ℕ
  pub destination : ℕ
  pub disconnect : Bool
  pub connections : List ℕ
  pub leases : List ℕ

-- "With nothing in the relay tray the destination is 255"; type 1 with ok 0 and a dead connection hang up, and nothing else
abbrev pub reply_only : List ℕ → List ℕ → List ℕ → Plan
reply_only cs ls bytes = record { reply = bytes; relay = []; destination = nobody; disconnect = false; connections = cs; leases = ls }

abbrev pub relay_only : List ℕ → List ℕ → List ℕ → ℕ → Plan
relay_only cs ls bytes d = record { reply = []; relay = bytes; destination = d; disconnect = false; connections = cs; leases = ls }

abbrev pub do_nothing : Tables → Plan
do_nothing tables = reply_only tables.connections tables.leases []

-- Open: "reply is the version message", "SVSC 001.000"
unfoldable pub plan_open : Tables → ℕ → Plan
plan_open tables c = reply_only (await tables.connections c) tables.leases (encode (protocol_version 1 0))

-- Type 1: "ok 1 gives state 2; ok 0 puts the record back to fresh and hangs up"
unfoldable pub plan_version_answer : Tables → ℕ → ℕ → Plan
plan_version_answer tables c ok =
    if eqb ok 1 then reply_only (set_state tables.connections c opened) tables.leases []
    else record {
      reply = [];
      relay = [];
      destination = nobody;
      disconnect = true;
      connections = clear tables.connections c;
      leases = tables.leases;
    }

-- Lease: "reply is type 3"; "Otherwise accepted 0, still answer 0."
abbrev pub refuse_lease : Tables → Plan
refuse_lease tables = reply_only tables.connections tables.leases (encode lease_refused)

unfoldable pub plan_lease : Tables → ℕ → ℕ → LeaseDecision → Plan
plan_lease tables now c holds_lease = refuse_lease tables
plan_lease tables now c no_spare_row = refuse_lease tables
plan_lease tables now c cookie_in_use = refuse_lease tables
plan_lease tables now c no_free_id = refuse_lease tables
plan_lease tables now c (renewed row) =
    let until = lease_end tables.allowances now in
    reply_only
    tables.connections
    (renew tables.leases row until c)
    (encode (lease_granted (id_of tables.leases row) (cookie_of tables.leases row) until))
plan_lease tables now c (granted row id cookie) =
    let until = lease_end tables.allowances now in
    reply_only tables.connections (grant tables.leases row until id cookie c) (encode (lease_granted id cookie until))

-- Extension: "reply is type 5"; "expiry becomes reading +" the term
unfoldable pub plan_extension : Tables → ℕ → ℕ → ℕ → Plan
plan_extension tables now c row =
    let until = lease_end tables.allowances now in
    if ltb row (end_row (partner_of c))
    then reply_only tables.connections (set_expiry tables.leases row until) (encode (extension_granted until))
    else reply_only tables.connections tables.leases (encode extension_refused)

-- Establish: "reply is type 7 with the caller's pair, relay is type 8 with the holder's pair, to the holder"
unfoldable pub plan_establish : Tables → ℕ → ℕ → List ℕ → EstablishDecision → Plan
plan_establish tables c id random (refused_with status) =
    reply_only tables.connections tables.leases (encode (establish_refused id status))
plan_establish tables c id random (established_with h) = record {
  reply = encode (established id (random_session_id random) (callers_peer_id random) (callers_key random));
  relay = encode (establish_notification (random_session_id random) (holders_peer_id random) (holders_key random));
  destination = h;
  disconnect = false;
  connections = establish tables.connections c h random;
  leases = tables.leases;
}

-- Type 9: "both records lose the session ..; relay is type 10 to the other"
unfoldable pub plan_end : Tables → ℕ → ℕ → Plan
plan_end tables c d = relay_only (end_session tables.connections c d) tables.leases (encode session_end_notification) d

-- Type 11: "relay is 12 and the same data, to the other". The other is a number here, and no record is read.
unfoldable pub plan_data : Tables → ℕ → List ℕ → Plan
plan_data tables d bytes = relay_only tables.connections tables.leases (encode (data_receive bytes)) d

-- Close: "ends a session as type 9 does, sets byte 12 to 255 in the partner's rows that name this connection, puts its record back to
-- fresh"
unfoldable pub plan_close : Tables → ℕ → Plan
plan_close tables c =
    let ended = (if has_session tables.connections c then plan_end tables c (peer tables.connections c) else do_nothing tables) in
    record {
      reply = [];
      relay = ended.relay;
      destination = ended.destination;
      disconnect = false;
      connections = clear ended.connections c;
      leases = release tables.leases c;
    }

-- A message of connection c, once it is decided what it does: no record is looked up again.
unfoldable pub plan_decided : Tables → ℕ → ℕ → List ℕ → Decision → Plan
plan_decided tables now c random (version_answered ok) = plan_version_answer tables c ok
plan_decided tables now c random (lease_decided d) = plan_lease tables now c d
plan_decided tables now c random (extension_decided row) = plan_extension tables now c row
plan_decided tables now c random (session_decided id d) = plan_establish tables c id random d
plan_decided tables now c random (session_ended other) = plan_end tables c other
plan_decided tables now c random (data_sent other bytes) = plan_data tables other bytes
plan_decided tables now c random nothing_asked = do_nothing tables

unfoldable pub plan_message : Tables → ℕ → ℕ → List ℕ → Option Message → Plan
plan_message tables now c random o = plan_decided tables now c random (decide_message tables.connections tables.leases now c random o)

-- "hang-up yes": the same, and the host disconnects the caller
abbrev pub disconnecting : Plan → Plan
disconnecting p = record {
  reply = p.reply;
  relay = p.relay;
  destination = p.destination;
  disconnect = true;
  connections = p.connections;
  leases = p.leases;
}

-- 02, Item 3: "unanswered for 60 seconds or more, the connection is closed as by close, hang-up yes; else, none unanswered and nothing sent
-- for 30 seconds or more, a Keepalive goes into the reply tray. Otherwise nothing is sent"
unfoldable pub plan_keepalive : Tables → ℕ → ℕ → Plan
plan_keepalive tables now c =
    if is_dead tables.connections now c then disconnecting (plan_close tables c)
    else if is_due tables.connections now c
    then reply_only (ask tables.connections now c) tables.leases (encode keepalive_message)
    else do_nothing tables

-- What each call asks for.
unfoldable pub plan_call : Tables → Call → Plan
plan_call tables (opening now c reply) = plan_open tables c
plan_call tables (message now c m random reply relay) = plan_message tables now c random (decode m)
plan_call tables (closing now c relay) = plan_close tables c
plan_call tables (keepalive now c reply relay) = plan_keepalive tables now c

-- ---- what every plan is wrapped in

abbrev pub with_connections : Plan → List ℕ → Plan
with_connections p cs = record {
  reply = p.reply;
  relay = p.relay;
  destination = p.destination;
  disconnect = p.disconnect;
  connections = cs;
  leases = p.leases;
}

-- "Any done message from the connection clears byte 2."
abbrev pub answered_by : Call → List ℕ → List ℕ
answered_by (opening now c reply) cs = cs
answered_by (message now c m random reply relay) cs = answered cs c
answered_by (closing now c relay) cs = cs
answered_by (keepalive now c reply relay) cs = cs

abbrev pub heard : Call → Plan → Plan
heard call p = with_connections p (answered_by call p.connections)

-- "the reading of the last message sent to it": the reply is sent to the caller, what is relayed to its destination. "Opening sets the first
-- reading", as its reply does.
abbrev pub stamped : ℕ → ℕ → Plan → Plan
stamped now c p =
    with_connections p (stamp (stamp p.connections now (length p.reply) c) now (length p.relay) p.destination)

unfoldable pub plan : Tables → Call → Plan
plan tables call = stamped (time_of call) (connection_of call) (heard call (plan_call tables call))
