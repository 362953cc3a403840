-- Where each field of the three tables stands, in 01's numbers, but for how many connections and rows a partner has (proofs/Sizes); how the
-- term is read (02, Item 6); and what each call brings: the words in which the other laws speak.
use Rattle.std.specs.Prelude.{ℕ, ◌+◌, ◌*◌, ◌/◌, ◌≤◌, ◌<◌, ◌≡◌, ◌⊎◌, ◌↔◌, true, List, [], drop}
use Rattle.std.proofs.Math.Option.{some}
use Rattle.octets.specs.Octets.{byte_at, part, number_at}
use Rattle.svsc.specs.Messages.{version_answer, lease_request, lease_request_with_cookie, extension_request, establish_request, session_end, data_send, keepalive_message, type_of, decode}
use Rattle.rules.specs.Sizes.{connections_per_partner, rows_per_partner}
use Rattle.rules.specs.Tables.{partner_of, owner_of, state, peer, is_unanswered, last_sent, keepalive_sent, session_id_of, peer_id_of, peer_key_of, expiry, id_of, holder, cookie_of, bucket_of, clock, stored_term, lease_term}
use Rattle.rules.specs.Calls.{opening, message, closing, keepalive, time_of, connection_of, caller_of, reply_buffer, relay_buffer}

-- "64 bytes. Byte 0 state (0 closed, 1 awaiting the version answer, 2 open), byte 1 peer connection or 255, .. 16-31 session-id, 32-47
-- peer-id, 48-63 peer-key."; "State above 2 reads as closed."; "Connection c belongs to partner c / 8"
pub record ConnectionFields (cs : List ℕ) (c : ℕ) : Type 0 where
  pub state_known : byte_at cs (64 * c) ≤ 2 → state cs c ≡ byte_at cs (64 * c)
  pub state_above : 2 < byte_at cs (64 * c) → state cs c ≡ 0
  pub peer_is : peer cs c ≡ byte_at cs (64 * c + 1)
  -- 02, Item 3: "byte 2 is 1 while a keepalive is unanswered, 4-8 the reading of the last message sent to it, 9-13 that of the unanswered
  -- keepalive"; "byte 2 other than 1 as none unanswered"
  pub unanswered_is : (is_unanswered cs c ≡ true) ↔ (byte_at cs (64 * c + 2) ≡ 1)
  pub last_sent_is : last_sent cs c ≡ number_at cs (64 * c + 4) 5
  pub keepalive_sent_is : keepalive_sent cs c ≡ number_at cs (64 * c + 9) 5
  pub session_id_is : session_id_of cs c ≡ part cs (64 * c + 16) 16
  pub peer_id_is : peer_id_of cs c ≡ part cs (64 * c + 32) 16
  pub peer_key_is : peer_key_of cs c ≡ part cs (64 * c + 48) 16
  pub of_partner : partner_of c ≡ c / connections_per_partner

-- "40 bytes. 0-7 expiry, 8-11 id, 12 holder connection or 255, .. 16-39 cookie."; "Partner p owns lease rows 16p to 16p+15."
pub record LeaseFields (ls : List ℕ) (r : ℕ) : Type 0 where
  pub expiry_is : expiry ls r ≡ number_at ls (40 * r) 8
  pub id_is : id_of ls r ≡ number_at ls (40 * r + 8) 4
  pub holder_is : holder ls r ≡ byte_at ls (40 * r + 12)
  pub cookie_is : cookie_of ls r ≡ part ls (40 * r + 16) 24
  pub of_partner : owner_of r ≡ r / rows_per_partner

-- "9 records of 16 bytes: level 8, moment 8. The ninth has .., as moment, the relay's latest clock reading."; 02, Item 6: "The ninth allowance
-- record's level keeps the term."
pub record AllowanceFields (al : List ℕ) (p : ℕ) : Type 0 where
  pub level_is : (bucket_of al p).level ≡ number_at al (16 * p) 8
  pub updated_is : (bucket_of al p).updated ≡ number_at al (16 * p + 8) 8
  pub clock_is : clock al ≡ number_at al 136 8
  pub term_is : stored_term al ≡ number_at al 128 8

-- 02, Item 6: how long leases last, by what the tables keep: "A board where it holds 0 is an old one and keeps 3,600; any other number out of
-- range reads as 600."
pub record TermRead (al : List ℕ) : Type 0 where
  pub old : stored_term al ≡ 0 → lease_term al ≡ 3600
  pub in_range : 600 ≤ stored_term al → stored_term al ≤ 86400 → lease_term al ≡ stored_term al
  pub below : 0 < stored_term al → stored_term al < 600 → lease_term al ≡ 600
  pub above : 86400 < stored_term al → lease_term al ≡ 600

-- what is meant by the time, the connection, the partner and the buffers of each call
pub record CallWords (now c : ℕ) (m random reply relay : List ℕ) : Type 0 where
  pub times : (time_of (opening now c reply) ≡ now) × (time_of (message now c m random reply relay) ≡ now) × (time_of (closing now c relay) ≡ now)
      × (time_of (keepalive now c reply relay) ≡ now)
  pub connections : (connection_of (opening now c reply) ≡ c)
      × (connection_of (message now c m random reply relay) ≡ c)
      × (connection_of (closing now c relay) ≡ c)
      × (connection_of (keepalive now c reply relay) ≡ c)
  pub callers : (caller_of (opening now c reply) ≡ partner_of c)
      × (caller_of (message now c m random reply relay) ≡ partner_of c)
      × (caller_of (closing now c relay) ≡ partner_of c)
      × (caller_of (keepalive now c reply relay) ≡ partner_of c)
  pub replies : (reply_buffer (opening now c reply) ≡ reply)
      × (reply_buffer (message now c m random reply relay) ≡ reply)
      × (reply_buffer (closing now c relay) ≡ [])
      × (reply_buffer (keepalive now c reply relay) ≡ reply)
  pub relays : (relay_buffer (opening now c reply) ≡ [])
      × (relay_buffer (message now c m random reply relay) ≡ relay)
      × (relay_buffer (closing now c relay) ≡ relay)
      × (relay_buffer (keepalive now c reply relay) ≡ relay)

-- what a message that peers send is, by its type: the laws of single messages are of these and leave none out
pub record ByType (m : List ℕ) : Type 0 where
  pub one : type_of m ≡ 1 → (decode m ≡ some (version_answer 0)) ⊎ (decode m ≡ some (version_answer 1))
  pub two : type_of m ≡ 2 → (decode m ≡ some lease_request) ⊎ (decode m ≡ some (lease_request_with_cookie (part m 2 24)))
  pub four : type_of m ≡ 4 → decode m ≡ some (extension_request (part m 1 24))
  pub six : type_of m ≡ 6 → decode m ≡ some (establish_request (number_at m 1 4))
  pub nine : type_of m ≡ 9 → decode m ≡ some session_end
  pub eleven : type_of m ≡ 11 → decode m ≡ some (data_send (drop 1 m))
  pub thirteen : type_of m ≡ 13 → decode m ≡ some keepalive_message
