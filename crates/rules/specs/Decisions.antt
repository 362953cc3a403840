-- What a message will do, decided before it is priced and before it is done (02, Item 5: "the bytes that it puts into both trays if done").
-- Two tables are read, and none is written.
use Rattle.std.specs.Prelude.{ℕ, List, []}
use Rattle.std.proofs.Math.Option.{Option, none, some}
use Rattle.svsc.specs.Messages.{Message, protocol_version, version_answer, lease_request, lease_request_with_cookie, lease_refused, lease_granted, extension_request, extension_refused, extension_granted, establish_request, establish_refused, established, establish_notification, session_end, session_end_notification, data_send, data_receive, keepalive_message}
use Rattle.rules.specs.Sizes.{nobody}
use Rattle.rules.specs.Tables.{peer}
use Rattle.rules.specs.Leases.{LeaseDecision, decide_lease, row_to_extend}
use Rattle.rules.specs.Sessions.{EstablishDecision, decide_establish}

-- The version answer; what was decided on a lease; the row to extend, or the end of the partner's rows; the id asked for and what was decided
-- on a session with its holder; the other connection of the session that ends, or that the data goes to; or nothing.
pub data Decision : Type 0 where
  version_answered : (ok : ℕ) → Decision
  lease_decided : LeaseDecision → Decision
  extension_decided : (row : ℕ) → Decision
  session_decided : (id : ℕ) → EstablishDecision → Decision
  session_ended : (other : ℕ) → Decision
  data_sent : (other : ℕ) (bytes : List ℕ) → Decision
  nothing_asked : Decision

-- the other connection that it names, or 255
abbrev pub other_of : Decision → ℕ
other_of (version_answered ok) = nobody
other_of (lease_decided d) = nobody
other_of (extension_decided row) = nobody
other_of (session_decided id d) = nobody
other_of (session_ended other) = other
other_of (data_sent other bytes) = other
other_of nothing_asked = nobody

-- A message of connection c. 02, Item 2: "a request's cookie is considered"; Item 4: "a send looks its session up once": the other connection
-- is a number from here on. 01: "Type 13: nothing sent". What peers do not send, check 6 refuses.
unfoldable pub decide_message : List ℕ → List ℕ → ℕ → ℕ → List ℕ → Option Message → Decision
decide_message cs ls now c random (some (version_answer ok)) = version_answered ok
decide_message cs ls now c random (some lease_request) = lease_decided (decide_lease cs ls now c random [])
decide_message cs ls now c random (some (lease_request_with_cookie cookie)) = lease_decided (decide_lease cs ls now c random cookie)
decide_message cs ls now c random (some (extension_request cookie)) = extension_decided (row_to_extend ls now c cookie)
decide_message cs ls now c random (some (establish_request id)) = session_decided id (decide_establish cs ls now c id)
decide_message cs ls now c random (some session_end) = session_ended (peer cs c)
decide_message cs ls now c random (some (data_send bytes)) = data_sent (peer cs c) bytes
decide_message cs ls now c random (some keepalive_message) = nothing_asked
decide_message cs ls now c random (some (protocol_version major minor)) = nothing_asked
decide_message cs ls now c random (some lease_refused) = nothing_asked
decide_message cs ls now c random (some (lease_granted id cookie expiration)) = nothing_asked
decide_message cs ls now c random (some extension_refused) = nothing_asked
decide_message cs ls now c random (some (extension_granted expiration)) = nothing_asked
decide_message cs ls now c random (some (establish_refused id status)) = nothing_asked
decide_message cs ls now c random (some (established id session peer_id key)) = nothing_asked
decide_message cs ls now c random (some (establish_notification session peer_id key)) = nothing_asked
decide_message cs ls now c random (some session_end_notification) = nothing_asked
decide_message cs ls now c random (some (data_receive bytes)) = nothing_asked
decide_message cs ls now c random none = nothing_asked
