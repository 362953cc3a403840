-- The three tables (01's board): their fields, and how they are read whatever they hold. 01, "The board".
-- A definition reads the table that it needs. A byte past the end of a table is 0, so that each of them has a value at any number.
use Rattle.std.specs.Prelude.{ℕ, zero, suc, ◌+◌, ◌*◌, ◌/◌, Bool, not, ◌&&◌, List, [], ◌∷◌, ◌++◌, length, replicate, eqb, leb, ltb, if◌then◌else◌}
use Rattle.octets.specs.Octets.{byte_at, big_endian, part, number_at, put}
use Rattle.svsc.specs.Messages.{cookie_bytes, key_bytes}
use Rattle.allowance.specs.Bucket.{Bucket, full}
use Rattle.rules.specs.Sizes.{partners, connections_per_partner, rows_per_partner, connection_count, row_count, connection_bytes, lease_bytes, allowance_bytes, connections_size, leases_size, allowances_size, time_bytes, nobody, default_term, shortest_term, longest_term, old_term}

-- "Three lent byte tables of fixed records, without headers."
pub record Tables : Type 0 where
  pub connections : List ℕ
  pub leases : List ℕ
  pub allowances : List ℕ

-- the three tables as a call is lent them
abbrev pub lent : List ℕ → List ℕ → List ℕ → Tables
lent cs ls al = record { connections = cs; leases = ls; allowances = al }

-- "Connection c belongs to partner c / 8 (whole part). Partner p owns lease rows 16p to 16p+15."
abbrev pub partner_of : ℕ → ℕ
partner_of c = c / connections_per_partner

abbrev pub owner_of : ℕ → ℕ
owner_of r = r / rows_per_partner

-- ---- connections: "Byte 0 state .., byte 1 peer connection or 255, .. 16-31 session-id, 32-47 peer-id, 48-63 peer-key."; 02, Item 3: "The
-- connection record's spare bytes get a meaning: byte 2 .., 4-8 .., 9-13". 3, 14 and 15 stay zero.

abbrev pub connection_at : ℕ → ℕ
connection_at c = connection_bytes * c

abbrev pub peer_at : ℕ → ℕ
peer_at c = connection_at c + 1

-- "byte 2 is 1 while a keepalive is unanswered"
abbrev pub unanswered_at : ℕ → ℕ
unanswered_at c = connection_at c + 2

-- "4-8 the reading of the last message sent to it"
abbrev pub last_sent_at : ℕ → ℕ
last_sent_at c = connection_at c + 4

-- "9-13 that of the unanswered keepalive"
abbrev pub keepalive_at : ℕ → ℕ
keepalive_at c = connection_at c + 9

abbrev pub keys_at : ℕ → ℕ
keys_at c = connection_at c + 16

-- session-id, peer-id and peer-key together
abbrev pub keys_bytes : ℕ
keys_bytes = key_bytes + key_bytes + key_bytes

-- "(0 closed, 1 awaiting the version answer, 2 open)"
abbrev pub closed : ℕ
closed = 0

abbrev pub awaiting : ℕ
awaiting = 1

abbrev pub opened : ℕ
opened = 2

-- "State above 2 reads as closed."
unfoldable pub state : List ℕ → ℕ → ℕ
state cs c = if leb (byte_at cs (connection_at c)) opened then byte_at cs (connection_at c) else closed

abbrev pub is_closed : List ℕ → ℕ → Bool
is_closed cs c = eqb (state cs c) closed

abbrev pub is_open : List ℕ → ℕ → Bool
is_open cs c = eqb (state cs c) opened

abbrev pub peer : List ℕ → ℕ → ℕ
peer cs c = byte_at cs (peer_at c)

-- "Two connections are in session exactly if they differ, both are open, are of one partner, and each names the other."
unfoldable pub in_session : List ℕ → ℕ → ℕ → Bool
in_session cs c d =
    eqb (partner_of c) (partner_of d) && (not (eqb c d) && is_open cs c && is_open cs d && eqb (peer cs c) d && eqb (peer cs d) c)

-- a connection's session can only be with the one that it names
unfoldable pub has_session : List ℕ → ℕ → Bool
has_session cs c = in_session cs c (peer cs c)

abbrev pub session_id_of : List ℕ → ℕ → List ℕ
session_id_of cs c = part cs (keys_at c) key_bytes

abbrev pub peer_id_of : List ℕ → ℕ → List ℕ
peer_id_of cs c = part cs (keys_at c + key_bytes) key_bytes

abbrev pub peer_key_of : List ℕ → ℕ → List ℕ
peer_key_of cs c = part cs (keys_at c + key_bytes + key_bytes) key_bytes

-- "byte 2 other than 1 as none unanswered"
unfoldable pub is_unanswered : List ℕ → ℕ → Bool
is_unanswered cs c = eqb (byte_at cs (unanswered_at c)) 1

unfoldable pub last_sent : List ℕ → ℕ → ℕ
last_sent cs c = number_at cs (last_sent_at c) time_bytes

unfoldable pub keepalive_sent : List ℕ → ℕ → ℕ
keepalive_sent cs c = number_at cs (keepalive_at c) time_bytes

abbrev pub set_state : List ℕ → ℕ → ℕ → List ℕ
set_state cs c s = put cs (connection_at c) (s ∷ [])

abbrev pub set_peer : List ℕ → ℕ → ℕ → List ℕ
set_peer cs c d = put cs (peer_at c) (d ∷ [])

abbrev pub set_unanswered : List ℕ → ℕ → ℕ → List ℕ
set_unanswered cs c n = put cs (unanswered_at c) (n ∷ [])

abbrev pub set_last_sent : List ℕ → ℕ → ℕ → List ℕ
set_last_sent cs c time = put cs (last_sent_at c) (big_endian time_bytes time)

abbrev pub set_keepalive_sent : List ℕ → ℕ → ℕ → List ℕ
set_keepalive_sent cs c time = put cs (keepalive_at c) (big_endian time_bytes time)

abbrev pub set_keys : List ℕ → ℕ → List ℕ → List ℕ
set_keys cs c keys = put cs (keys_at c) keys

-- ---- leases: "0-7 expiry, 8-11 id, 12 holder connection or 255, 13-15 zero, 16-39 cookie."

abbrev pub lease_at : ℕ → ℕ
lease_at r = lease_bytes * r

abbrev pub id_at : ℕ → ℕ
id_at r = lease_at r + 8

abbrev pub holder_at : ℕ → ℕ
holder_at r = lease_at r + 12

abbrev pub cookie_at : ℕ → ℕ
cookie_at r = lease_at r + 16

unfoldable pub expiry : List ℕ → ℕ → ℕ
expiry ls r = number_at ls (lease_at r) 8

unfoldable pub id_of : List ℕ → ℕ → ℕ
id_of ls r = number_at ls (id_at r) 4

abbrev pub holder : List ℕ → ℕ → ℕ
holder ls r = byte_at ls (holder_at r)

unfoldable pub cookie_of : List ℕ → ℕ → List ℕ
cookie_of ls r = part ls (cookie_at r) cookie_bytes

-- "A lease row is live when the reading is below its expiry."
unfoldable pub live : List ℕ → ℕ → ℕ → Bool
live ls now r = ltb now (expiry ls r)

-- row r is live and has the id
unfoldable pub live_with_id : List ℕ → ℕ → ℕ → ℕ → Bool
live_with_id ls now id r = live ls now r && eqb (id_of ls r) id

-- "A holder counts exactly if it is an open connection of the row's partner."
unfoldable pub holder_counts : List ℕ → List ℕ → ℕ → Bool
holder_counts cs ls r = eqb (partner_of (holder ls r)) (owner_of r) && is_open cs (holder ls r)

abbrev pub set_expiry : List ℕ → ℕ → ℕ → List ℕ
set_expiry ls r time = put ls (lease_at r) (big_endian 8 time)

abbrev pub set_id : List ℕ → ℕ → ℕ → List ℕ
set_id ls r id = put ls (id_at r) (big_endian 4 id)

abbrev pub set_holder : List ℕ → ℕ → ℕ → List ℕ
set_holder ls r c = put ls (holder_at r) (c ∷ [])

abbrev pub set_cookie : List ℕ → ℕ → List ℕ → List ℕ
set_cookie ls r cookie = put ls (cookie_at r) cookie

-- ---- allowances: "level 8, moment 8. The ninth has .., as moment, the relay's latest clock reading."; 02, Item 6: "The ninth allowance record's
-- level keeps the term." It is no allowance.

abbrev pub allowance_at : ℕ → ℕ
allowance_at p = allowance_bytes * p

abbrev pub updated_at : ℕ → ℕ
updated_at p = allowance_at p + 8

unfoldable pub bucket_of : List ℕ → ℕ → Bucket
bucket_of al p = record { level = number_at al (allowance_at p) 8; updated = number_at al (updated_at p) 8 }

unfoldable pub clock : List ℕ → ℕ
clock al = number_at al (updated_at partners) 8

abbrev pub term_at : ℕ
term_at = allowance_at partners

unfoldable pub stored_term : List ℕ → ℕ
stored_term al = number_at al term_at 8

-- 02, Item 6: "another term, from 600 to 86,400"
unfoldable pub term_in_range : ℕ → Bool
term_in_range term = leb shortest_term term && leb term longest_term

-- how long leases last; 02, Item 6: "A board where it holds 0 is an old one and keeps 3,600; any other number out of range reads as 600."
unfoldable pub lease_term : List ℕ → ℕ
lease_term al = if eqb (stored_term al) 0 then old_term else if term_in_range (stored_term al) then stored_term al else default_term

unfoldable pub bucket_bytes : Bucket → List ℕ
bucket_bytes b = big_endian 8 b.level ++ big_endian 8 b.updated

abbrev pub set_bucket : List ℕ → ℕ → Bucket → List ℕ
set_bucket al p b = put al (allowance_at p) (bucket_bytes b)

abbrev pub set_clock : List ℕ → ℕ → List ℕ
set_clock al now = put al (updated_at partners) (big_endian 8 now)

-- ---- fresh tables

-- n records in a row
unfoldable pub records : ℕ → List ℕ → List ℕ
records zero r = []
records (suc n) r = r ++ records n r

-- "connections all zero but byte 1 = 255; leases all zero but byte 12 = 255"
abbrev pub fresh_connection : List ℕ
fresh_connection = closed ∷ nobody ∷ replicate 62 0

abbrev pub fresh_lease : List ℕ
fresh_lease = replicate 12 0 ++ (nobody ∷ replicate 27 0)

-- 02, Item 6: "naming 0 means 600"
unfoldable pub named_term : ℕ → ℕ
named_term term = if eqb term 0 then default_term else term

-- "Fresh, at a reading t: .. the eight partners' levels 262,144, .. every moment t.", and in the ninth record the term that the host names
unfoldable pub fresh : ℕ → ℕ → Tables
fresh now term = record {
  connections = records connection_count fresh_connection;
  leases = records row_count fresh_lease;
  allowances = records partners (bucket_bytes (full now)) ++ (big_endian 8 (named_term term) ++ big_endian 8 now);
}

-- Check 1: "4,096, 5,120 or 144 bytes"
unfoldable pub sized : Tables → Bool
sized tables =
    eqb (length tables.connections) connections_size
    && eqb (length tables.leases) leases_size
    && eqb (length tables.allowances) allowances_size
