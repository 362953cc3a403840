-- What 01, "Effects", and 02, Item 3, say of each call that is done, as statements: what is sent to whom, and what stands in the tables afterwards, byte by
-- byte. 01's numbers stand here as numbers, but for the sizes of records and the number of rows.
use Rattle.std.specs.Prelude.{ℕ, ◌+◌, ◌*◌, ◌%◌, ◌≤◌, ◌<◌, ◌≡◌, ◌≢◌, ◌⊎◌, ◌↔◌, Bool, true, false, List, eqb, length, replicate, if◌then◌else◌}
use Rattle.octets.specs.Octets.{byte_at, big_endian, part, number_at, put}
use Rattle.svsc.specs.Messages.{established, establish_notification, keepalive_message, encode}
use Rattle.rules.specs.Sizes.{row_count, connection_bytes, lease_bytes}
use Rattle.rules.specs.Searches.{end_row}
use Rattle.rules.specs.Tables.{Tables, partner_of, owner_of, connection_at, in_session, has_session, holder_counts, session_id_of, peer_id_of, peer_key_of, live, expiry, id_of, holder, cookie_of}
use Rattle.rules.specs.Leases.{LeaseDecision, holds_lease, no_spare_row, cookie_in_use, no_free_id, renewed, granted}
use Rattle.rules.specs.Sessions.{EstablishDecision, refused_with, established_with}
use Rattle.rules.specs.Calls.{Call, opening, message, closing, keepalive, time_of, connection_of, reply_buffer, relay_buffer, Outcome}
use Rattle.rules.specs.Bytes.{ChangedOnly, InField}

-- ---- what is sent: the whole answer, and both buffers

-- bytes for the caller, and nothing for another connection
pub record RepliedOnly (call : Call) (o : Outcome) (bytes : List ℕ) : Type 0 where
  pub answer : o.answer
      ≡ record { number = 0; reply_length = length bytes; relay_length = 0; destination = 255; disconnect = false }
  pub reply : o.reply ≡ put (reply_buffer call) 0 bytes
  pub relay : o.relay ≡ relay_buffer call

-- bytes for connection d, and nothing for the caller
pub record RelayedOnly (call : Call) (o : Outcome) (bytes : List ℕ) (d : ℕ) : Type 0 where
  pub answer : o.answer ≡ record { number = 0; reply_length = 0; relay_length = length bytes; destination = d; disconnect = false }
  pub reply : o.reply ≡ reply_buffer call
  pub relay : o.relay ≡ put (relay_buffer call) 0 bytes

-- nothing for anybody
pub record SentNothing (call : Call) (o : Outcome) (disconnect : Bool) : Type 0 where
  pub answer : o.answer ≡ record { number = 0; reply_length = 0; relay_length = 0; destination = 255; disconnect = disconnect }
  pub reply : o.reply ≡ reply_buffer call
  pub relay : o.relay ≡ relay_buffer call

-- ---- connection records

-- a place in connection c's record
abbrev pub InConnection : ℕ → ℕ → Type 0
InConnection c i = InField connection_bytes c 0 connection_bytes i

-- "byte 1" and "16-63" of it: what a session stands in
abbrev pub InSessionBytes : ℕ → ℕ → Type 0
InSessionBytes c i = InField connection_bytes c 1 1 i ⊎ InField connection_bytes c 16 48 i

-- byte 2, 4-8 and 9-13 of it: an unanswered keepalive, the time of the last message sent to it, and that of the keepalive
abbrev pub InUnanswered : ℕ → ℕ → Type 0
InUnanswered c i = InField connection_bytes c 2 1 i

abbrev pub InLastSent : ℕ → ℕ → Type 0
InLastSent c i = InField connection_bytes c 4 5 i

abbrev pub InKeepaliveSent : ℕ → ℕ → Type 0
InKeepaliveSent c i = InField connection_bytes c 9 5 i

-- "connections all zero but byte 1 = 255", and but for the state
abbrev pub fresh_byte : ℕ → ℕ → ℕ
fresh_byte s i = if eqb i 0 then s else if eqb i 1 then 255 else 0

abbrev pub FreshBut : ℕ → List ℕ → ℕ → Type 0
FreshBut s cs c = (i : ℕ) → i < connection_bytes → byte_at cs (connection_at c + i) ≡ fresh_byte s i

-- "lose the session (byte 1 = 255, 16-63 zero)"
pub record Cleared (cs : List ℕ) (c : ℕ) : Type 0 where
  pub peer_none : byte_at cs (connection_at c + 1) ≡ 255
  pub keys_zero : part cs (connection_at c + 16) 48 ≡ replicate 48 0

-- byte 2 and 4-8 of the caller of a message that is replied to
abbrev pub InOwnMarks : ℕ → ℕ → Type 0
InOwnMarks c i = InUnanswered c i ⊎ InLastSent c i

-- no row changes, and of the connection records only these bytes
pub record MarksOnly (P : ℕ → Type 0) (tables : Tables) (o : Outcome) : Type 0 where
  pub connections : ChangedOnly P tables.connections o.tables.connections
  pub leases : o.tables.leases ≡ tables.leases

-- An open: "the record becomes fresh but for state 1; reply is the version message"; 02, Item 3: "Opening sets the first reading" (its value:
-- Marked)
pub record Opened (tables : Tables) (call : Call) (c : ℕ) (o : Outcome) (version : List ℕ) : Type 0 where
  pub sent : RepliedOnly call o version
  pub own : (i : ℕ) → i < connection_bytes → (i < 4) ⊎ (8 < i) → byte_at o.tables.connections (connection_at c + i) ≡ fresh_byte 1 i
  pub others : ChangedOnly (InConnection c) tables.connections o.tables.connections
  pub leases : o.tables.leases ≡ tables.leases

-- Type 1: "ok 1 gives state 2"
pub record VersionTaken (tables : Tables) (call : Call) (c : ℕ) (o : Outcome) : Type 0 where
  pub sent : SentNothing call o false
  pub own : byte_at o.tables.connections (connection_at c) ≡ 2
  pub others : ChangedOnly (λ i. InField connection_bytes c 0 1 i ⊎ InUnanswered c i) tables.connections o.tables.connections
  pub leases : o.tables.leases ≡ tables.leases

-- "ok 0 puts the record back to fresh and hangs up"
pub record VersionRefused (tables : Tables) (call : Call) (c : ℕ) (o : Outcome) : Type 0 where
  pub sent : SentNothing call o true
  pub own : FreshBut 0 o.tables.connections c
  pub others : ChangedOnly (InConnection c) tables.connections o.tables.connections
  pub leases : o.tables.leases ≡ tables.leases

-- ---- sessions

-- Establish, status 0, of connection c with holder h, from the random bytes: "Each record gets the session-id, its own pair and the other's
-- number; reply is type 7 with the caller's pair, relay is type 8 with the holder's pair, to the holder."
pub record KeysToOwners (tables : Tables) (call : Call) (c h id : ℕ) (random : List ℕ) (o : Outcome) : Type 0 where
  pub answer : o.answer ≡ record { number = 0; reply_length = 54; relay_length = 49; destination = h; disconnect = false }
  pub reply : o.reply
      ≡ put (reply_buffer call) 0 (encode (established id (part random 0 16) (part random 16 16) (part random 32 16)))
  pub relay : o.relay ≡ put (relay_buffer call) 0 (encode (establish_notification (part random 0 16) (part random 48 16) (part random 64 16)))
  pub paired : in_session o.tables.connections c h ≡ true
  pub caller_session : session_id_of o.tables.connections c ≡ part random 0 16
  pub caller_id : peer_id_of o.tables.connections c ≡ part random 16 16
  pub caller_key : peer_key_of o.tables.connections c ≡ part random 32 16
  pub holder_session : session_id_of o.tables.connections h ≡ part random 0 16
  pub holder_id : peer_id_of o.tables.connections h ≡ part random 48 16
  pub holder_key : peer_key_of o.tables.connections h ≡ part random 64 16
  pub others : ChangedOnly
      (λ i. (InSessionBytes c i ⊎ InSessionBytes h i) ⊎ (InOwnMarks c i ⊎ InLastSent h i))
      tables.connections
      o.tables.connections
  pub leases : o.tables.leases ≡ tables.leases

-- Type 9: "both records lose the session (byte 1 = 255, 16-63 zero); relay is type 10 to the other"
pub record SessionEnded (tables : Tables) (call : Call) (c d : ℕ) (o : Outcome) (told : List ℕ) : Type 0 where
  pub paired : in_session tables.connections c d ≡ true
  pub sent : RelayedOnly call o told d
  pub own : Cleared o.tables.connections c
  pub other : Cleared o.tables.connections d
  pub others : ChangedOnly
      (λ i. (InSessionBytes c i ⊎ InSessionBytes d i) ⊎ (InUnanswered c i ⊎ InLastSent d i))
      tables.connections
      o.tables.connections
  pub leases : o.tables.leases ≡ tables.leases

-- Type 11: "relay is 12 and the same data, to the other"
pub record DataRelayed (tables : Tables) (call : Call) (c d : ℕ) (o : Outcome) (bytes : List ℕ) : Type 0 where
  pub paired : in_session tables.connections c d ≡ true
  pub sent : RelayedOnly call o bytes d
  pub stay : MarksOnly (λ i. InUnanswered c i ⊎ InLastSent d i) tables o

-- A close: "sets byte 12 to 255 in the partner's rows that name this connection, puts its record back to fresh"
pub record Closed (tables : Tables) (c : ℕ) (o : Outcome) : Type 0 where
  pub own : FreshBut 0 o.tables.connections c
  pub given_back : (r : ℕ) → owner_of r ≡ partner_of c → holder tables.leases r ≡ c → holder o.tables.leases r ≡ 255
  pub other_rows : ChangedOnly
      (λ i. (r : ℕ) × (owner_of r ≡ partner_of c) × (holder tables.leases r ≡ c) × (i ≡ 40 * r + 12))
      tables.leases
      o.tables.leases

-- "ends a session as type 9 does", if there is one with connection d
pub record ClosedInSession (tables : Tables) (call : Call) (c d : ℕ) (o : Outcome) (told : List ℕ) : Type 0 where
  pub sent : RelayedOnly call o told d
  pub other : Cleared o.tables.connections d
  pub others : ChangedOnly
      (λ i. (InConnection c i ⊎ InSessionBytes d i) ⊎ InLastSent d i)
      tables.connections
      o.tables.connections

-- and else nothing is sent, and no other record changes
pub record ClosedAlone (tables : Tables) (call : Call) (c : ℕ) (o : Outcome) : Type 0 where
  pub sent : SentNothing call o false
  pub others : ChangedOnly (InConnection c) tables.connections o.tables.connections

-- ---- dead connections (02, Item 3)

-- a message from a connection, and no other call
abbrev pub IsMessage : Call → Type 0
IsMessage (opening now c reply) = ⊥
IsMessage (message now c m random reply relay) = Unit {0}
IsMessage (closing now c relay) = ⊥
IsMessage (keepalive now c reply relay) = ⊥

-- the five bytes of a time stand at a place of a table, and are read as that time
pub record TimeAt (cs : List ℕ) (at time : ℕ) : Type 0 where
  pub bytes : part cs at 5 ≡ big_endian 5 time
  pub number : number_at cs at 5 ≡ time

-- Every call that is done: "4-8 the reading of the last message sent to it", of whoever is sent one; "Any done message from the connection
-- clears byte 2."
pub record Marked (call : Call) (o : Outcome) : Type 0 where
  pub replied : o.answer.reply_length ≢ 0 → TimeAt o.tables.connections (connection_at (connection_of call) + 4) (time_of call)
  pub relayed : o.answer.relay_length ≢ 0 → TimeAt o.tables.connections (connection_at o.answer.destination + 4) (time_of call)
  pub cleared : IsMessage call → byte_at o.tables.connections (connection_at (connection_of call) + 2) ≡ 0

-- what a stamp writes, of a message of n bytes to connection c, and what it leaves
pub record Stamped (cs : List ℕ) (now n c : ℕ) (ds : List ℕ) : Type 0 where
  pub none : n ≡ 0 → ds ≡ cs
  pub time_is : n ≢ 0 → TimeAt ds (connection_at c + 4) now
  pub others : ChangedOnly (InLastSent c) cs ds

-- what an answer to a keepalive writes, and what it leaves
pub record Answered (cs : List ℕ) (c : ℕ) (ds : List ℕ) : Type 0 where
  pub zero : byte_at ds (connection_at c + 2) ≡ 0
  pub others : ChangedOnly (InUnanswered c) cs ds

-- "unanswered for 60 seconds or more"; "A stored reading after the present one counts as no time passed, and byte 2 other than 1 as none
-- unanswered"
abbrev pub Dead : List ℕ → ℕ → ℕ → Type 0
Dead cs now c = (byte_at cs (connection_at c + 2) ≡ 1) × (number_at cs (connection_at c + 9) 5 + 60 ≤ now)

-- "none unanswered and nothing sent for 30 seconds or more"
abbrev pub Due : List ℕ → ℕ → ℕ → Type 0
Due cs now c = (byte_at cs (connection_at c + 2) ≢ 1) × (number_at cs (connection_at c + 4) 5 + 30 ≤ now)

-- a keepalive of connection c that is done: the host has to disconnect it exactly if it is dead, and it is sent a message exactly if one is due
pub record KeepaliveExactly (cs : List ℕ) (now c : ℕ) (o : Outcome) : Type 0 where
  pub dead : (o.answer.disconnect ≡ true) ↔ Dead cs now c
  pub due : (o.answer.reply_length ≢ 0) ↔ Due cs now c

-- "the connection is closed as by close, hang-up yes": the tables and the buffer are what a close leaves, and nothing goes into the reply's
pub record ClosedAsDead (call : Call) (o closed : Outcome) : Type 0 where
  pub also_closed : closed.answer.number ≡ 0
  pub answer : o.answer
      ≡ record {
        number = 0;
        reply_length = 0;
        relay_length = closed.answer.relay_length;
        destination = closed.answer.destination;
        disconnect = true;
      }
  pub tables : o.tables ≡ closed.tables
  pub relay : o.relay ≡ closed.relay
  pub reply : o.reply ≡ reply_buffer call

-- "a Keepalive goes into the reply tray"; "The Keepalive counts as a message sent and sets byte 2 and both readings."
pub record Asked (tables : Tables) (call : Call) (now c : ℕ) (o : Outcome) : Type 0 where
  pub sent : RepliedOnly call o (encode keepalive_message)
  pub unanswered : byte_at o.tables.connections (connection_at c + 2) ≡ 1
  pub last_sent_lem : TimeAt o.tables.connections (connection_at c + 4) now
  pub keepalive_sent_lem : TimeAt o.tables.connections (connection_at c + 9) now
  pub stay : MarksOnly (λ i. (InUnanswered c i ⊎ InKeepaliveSent c i) ⊎ InLastSent c i) tables o

-- "Otherwise nothing is sent and the answer is 0": no record and no row changes
pub record Untouched (tables : Tables) (call : Call) (o : Outcome) : Type 0 where
  pub sent : SentNothing call o false
  pub connections : o.tables.connections ≡ tables.connections
  pub leases : o.tables.leases ≡ tables.leases

-- "4 if the caller has a session; 1 if no live row of its partner has the id; 2 if the lowest such row has no holder that counts; 5 if that
-- holder is the caller; 3 if it has a session; else 0": of connection c, where r is the lowest such row, and d what is decided
pub record Statuses (cs ls : List ℕ) (c r : ℕ) (d : EstablishDecision) : Type 0 where
  pub four : has_session cs c ≡ true → d ≡ refused_with 4
  pub one : has_session cs c ≡ false → end_row (partner_of c) ≤ r → d ≡ refused_with 1
  pub two : has_session cs c ≡ false → r < end_row (partner_of c) → holder_counts cs ls r ≡ false → d ≡ refused_with 2
  pub five : has_session cs c ≡ false → r < end_row (partner_of c) → holder_counts cs ls r ≡ true → holder ls r ≡ c → d ≡ refused_with 5
  pub three : has_session cs c ≡ false → r < end_row (partner_of c) → holder_counts cs ls r ≡ true → holder ls r ≢ c
      → has_session cs (holder ls r) ≡ true → d ≡ refused_with 3
  pub zero : has_session cs c ≡ false → r < end_row (partner_of c) → holder_counts cs ls r ≡ true → holder ls r ≢ c
      → has_session cs (holder ls r) ≡ false → d ≡ established_with (holder ls r)

-- ---- leases

-- r is the lowest row of the partner that passes a test, or, where none passes, the end of its rows
pub record LowestOwn (p : ℕ) (test : ℕ → Bool) (r : ℕ) : Type 0 where
  pub passes : r < end_row p → (owner_of r ≡ p) × (test r ≡ true)
  pub lower_fail : (k : ℕ) → owner_of k ≡ p → k < r → test k ≡ false

-- "fourteen candidates of four bytes, each taken modulo 67,108,864", from byte 24 on: candidate k, from 0
abbrev pub candidate_in : List ℕ → ℕ → ℕ
candidate_in random k = number_at random (24 + 4 * k) 4 % 67108864

-- "one is free if no live row of all 128 has it"
abbrev pub FreeId : List ℕ → ℕ → ℕ → Type 0
FreeId ls now id = (r : ℕ) → r < row_count → live ls now r ≡ true → id_of ls r ≢ id

-- The four conditions of a lease, in 01's order. "the connection holds no live row"
abbrev pub HoldsNone : List ℕ → ℕ → ℕ → Type 0
HoldsNone ls now c = (r : ℕ) → owner_of r ≡ partner_of c → live ls now r ≡ true → holder ls r ≢ c

-- "the partner has a row that isn't live"
abbrev pub HasSpare : List ℕ → ℕ → ℕ → Type 0
HasSpare ls now c = (r : ℕ) × (owner_of r ≡ partner_of c) × (live ls now r ≡ false)

-- "the draw's bytes 0-23 aren't the cookie of a live row of the partner"
abbrev pub NewCookie : List ℕ → ℕ → ℕ → List ℕ → Type 0
NewCookie ls now c random = (r : ℕ) → owner_of r ≡ partner_of c → live ls now r ≡ true → cookie_of ls r ≢ part random 0 24

-- "and one of the candidates is free"
abbrev pub FreeCandidate : List ℕ → ℕ → List ℕ → Type 0
FreeCandidate ls now random = (k : ℕ) × (k < 14) × FreeId ls now (candidate_in random k)

-- "accepted exactly if" all of them hold
pub record LeaseConditions (ls : List ℕ) (now c : ℕ) (random : List ℕ) : Type 0 where
  pub holds_none : HoldsNone ls now c
  pub spare : HasSpare ls now c
  pub new_cookie : NewCookie ls now c random
  pub free : FreeCandidate ls now random

abbrev pub is_accepted : LeaseDecision → Bool
is_accepted holds_lease = false
is_accepted no_spare_row = false
is_accepted cookie_in_use = false
is_accepted no_free_id = false
is_accepted (renewed row) = true
is_accepted (granted row id cookie) = true

-- 02, Item 2: "the row with the earliest expiry among those not live, the lowest on a tie", of connection c's partner
pub record EarliestSpare (ls : List ℕ) (now c row : ℕ) : Type 0 where
  pub own : owner_of row ≡ partner_of c
  pub spare : live ls now row ≡ false
  pub earliest : (k : ℕ) → owner_of k ≡ partner_of c → live ls now k ≡ false → expiry ls row ≤ expiry ls k
  pub lowest : (k : ℕ) → owner_of k ≡ partner_of c → live ls now k ≡ false → expiry ls k ≡ expiry ls row → row ≤ k

-- "The first free candidate goes into" that row, "with those 24 bytes as cookie"
pub record FirstFree (ls : List ℕ) (now c : ℕ) (random : List ℕ) (row id : ℕ) (cookie : List ℕ) : Type 0 where
  pub row_is : EarliestSpare ls now c row
  pub place : ℕ
  pub in_fourteen : place < 14
  pub id_is : id ≡ candidate_in random place
  pub free : FreeId ls now id
  pub earlier_taken : (k : ℕ) → k < place → FreeId ls now (candidate_in random k) → ⊥
  pub cookie_is : cookie ≡ part random 0 24

-- 02, Item 2: a row that "has that cookie, an expiry above 0, no counting holder while live, and an id that no other live row has"
pub record Renewable (cs ls : List ℕ) (now : ℕ) (cookie : List ℕ) (r : ℕ) : Type 0 where
  pub cookie_is : cookie_of ls r ≡ cookie
  pub used : 0 < expiry ls r
  pub not_held : live ls now r ≡ true → holder_counts cs ls r ≡ false
  pub id_alone : (k : ℕ) → k < row_count → k ≢ r → live ls now k ≡ true → id_of ls k ≢ id_of ls r

-- "the lowest such row", "of the partner"
pub record LowestRenewable (cs ls : List ℕ) (now c : ℕ) (cookie : List ℕ) (row : ℕ) : Type 0 where
  pub own : owner_of row ≡ partner_of c
  pub renewable : Renewable cs ls now cookie row
  pub lower_not : (k : ℕ) → owner_of k ≡ partner_of c → k < row → Renewable cs ls now cookie k → ⊥

-- what stands in a row
pub record LeaseRow (ls : List ℕ) (r until id : ℕ) (cookie : List ℕ) (c : ℕ) : Type 0 where
  pub expiry_is : expiry ls r ≡ until
  pub id_is : id_of ls r ≡ id
  pub cookie_is : cookie_of ls r ≡ cookie
  pub holder_is : holder ls r ≡ c

-- a new lease: "with those 24 bytes as cookie, this holder, expiry reading +" the term (`until`, in the law); bytes 13-15 stay
pub record LeaseTold (tables : Tables) (call : Call) (row until id : ℕ) (cookie : List ℕ) (c : ℕ) (o : Outcome) (told : List ℕ) : Type 0 where
  pub sent : RepliedOnly call o told
  pub written : LeaseRow o.tables.leases row until id cookie c
  pub others : ChangedOnly (λ i. InField lease_bytes row 0 13 i ⊎ InField lease_bytes row 16 24 i) tables.leases o.tables.leases
  pub connections : ChangedOnly (InOwnMarks c) tables.connections o.tables.connections

-- "renewed for this connection with its id and cookie, and no new row is used": its expiry (`until`, in the law) and its holder are all that
-- changes of the lease table
pub record LeaseRenewed (tables : Tables) (call : Call) (row until c : ℕ) (o : Outcome) (told : List ℕ) : Type 0 where
  pub sent : RepliedOnly call o told
  pub written : LeaseRow o.tables.leases row until (id_of tables.leases row) (cookie_of tables.leases row) c
  pub others : ChangedOnly (λ i. InField lease_bytes row 0 8 i ⊎ InField lease_bytes row 12 1 i) tables.leases o.tables.leases
  pub connections : ChangedOnly (InOwnMarks c) tables.connections o.tables.connections

-- "extended exactly if a live row of the partner, held by this connection, has that cookie"
abbrev pub Extendable : List ℕ → ℕ → ℕ → List ℕ → Type 0
Extendable ls now c cookie =
    (r : ℕ) × (owner_of r ≡ partner_of c) × (live ls now r ≡ true) × (holder ls r ≡ c) × (cookie_of ls r ≡ cookie)

-- "expiry becomes reading +" the term (`until`, in the law)
pub record ExtensionTold (tables : Tables) (call : Call) (row until c : ℕ) (o : Outcome) (told : List ℕ) : Type 0 where
  pub sent : RepliedOnly call o told
  pub written : expiry o.tables.leases row ≡ until
  pub others : ChangedOnly (InField lease_bytes row 0 8) tables.leases o.tables.leases
  pub connections : ChangedOnly (InOwnMarks c) tables.connections o.tables.connections
