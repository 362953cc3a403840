-- The fourteen messages: their bytes, the range of every field, and which bytes are a message. 01 'Messages, by first byte'.
use Rattle.std.specs.Prelude.{ℕ, ◌+◌, ◌-◌, ◌*◌, ◌/◌, ◌%◌, ◌^◌, Bool, true, false, ◌&&◌, List, [], ◌∷◌, ◌++◌, length, get_or, drop, eqb, leb, ltb}
use Rattle.std.proofs.Math.Option.{Option, none, some}
use Rattle.octets.specs.Octets.{byte_at, big_endian, part, number_at, same, is_bytes, is_short}

-- "1 to 65,534: data"; "cookie 24"; "session-id 16, peer-id 16, peer-key 16"
abbrev pub longest_message : ℕ
longest_message = 65534

abbrev pub cookie_bytes : ℕ
cookie_bytes = 24

abbrev pub key_bytes : ℕ
key_bytes = 16

-- a message; types 2, 3, 5 and 7 have two forms each
pub data Message : Type 0 where
  protocol_version : (major minor : ℕ) → Message
  version_answer : (ok : ℕ) → Message
  lease_request : Message
  lease_request_with_cookie : (cookie : List ℕ) → Message
  lease_refused : Message
  lease_granted : (id : ℕ) (cookie : List ℕ) (expiration : ℕ) → Message
  extension_request : (cookie : List ℕ) → Message
  extension_refused : Message
  extension_granted : (expiration : ℕ) → Message
  establish_request : (id : ℕ) → Message
  establish_refused : (id status : ℕ) → Message
  established : (id : ℕ) (session peer key : List ℕ) → Message
  establish_notification : (session peer key : List ℕ) → Message
  session_end : Message
  session_end_notification : Message
  data_send : (bytes : List ℕ) → Message
  data_receive : (bytes : List ℕ) → Message
  keepalive_message : Message

-- ---- bytes of a message

-- the fixed parts of the version text: "SVSC " and "."
abbrev pub version_name : List ℕ
version_name = 83 ∷ 86 ∷ 83 ∷ 67 ∷ 32 ∷ []

abbrev pub version_point : List ℕ
version_point = 46 ∷ []

-- "three digits"
unfoldable pub digits : ℕ → List ℕ
digits n = (48 + n / 100 % 10) ∷ (48 + n / 10 % 10) ∷ (48 + n % 10) ∷ []

-- the table's "Whole length and contents after the type"
unfoldable pub encode : Message → List ℕ
encode (protocol_version major minor) = 0 ∷ (version_name ++ (digits major ++ (version_point ++ digits minor)))
encode (version_answer ok) = 1 ∷ ok ∷ []
encode lease_request = 2 ∷ 0 ∷ []
encode (lease_request_with_cookie cookie) = 2 ∷ 1 ∷ cookie
encode lease_refused = 3 ∷ 0 ∷ []
encode (lease_granted id cookie expiration) = 3 ∷ 1 ∷ (big_endian 4 id ++ (cookie ++ big_endian 8 expiration))
encode (extension_request cookie) = 4 ∷ cookie
encode extension_refused = 5 ∷ 0 ∷ []
encode (extension_granted expiration) = 5 ∷ 1 ∷ big_endian 8 expiration
encode (establish_request id) = 6 ∷ big_endian 4 id
encode (establish_refused id status) = 7 ∷ (big_endian 4 id ++ (status ∷ []))
encode (established id session peer key) = 7 ∷ (big_endian 4 id ++ (0 ∷ (session ++ (peer ++ key))))
encode (establish_notification session peer key) = 8 ∷ (session ++ (peer ++ key))
encode session_end = 9 ∷ []
encode session_end_notification = 10 ∷ []
encode (data_send bytes) = 11 ∷ bytes
encode (data_receive bytes) = 12 ∷ bytes
encode keepalive_message = 13 ∷ []

-- "a field outside its range (6)": the range of every field
unfoldable pub well_formed : Message → Bool
well_formed (protocol_version major minor) = ltb major 1000 && ltb minor 1000
well_formed (version_answer ok) = leb ok 1
well_formed lease_request = true
well_formed (lease_request_with_cookie cookie) = is_bytes cookie_bytes cookie
well_formed lease_refused = true
well_formed (lease_granted id cookie expiration) = ltb id (2 ^ 32) && ltb expiration (2 ^ 64) && is_bytes cookie_bytes cookie
well_formed (extension_request cookie) = is_bytes cookie_bytes cookie
well_formed extension_refused = true
well_formed (extension_granted expiration) = ltb expiration (2 ^ 64)
well_formed (establish_request id) = ltb id (2 ^ 32)
well_formed (establish_refused id status) = ltb id (2 ^ 32) && leb 1 status && leb status 5
well_formed (established id session peer key) = ltb id (2 ^ 32) && is_bytes key_bytes session && is_bytes key_bytes peer && is_bytes key_bytes key
well_formed (establish_notification session peer key) = is_bytes key_bytes session && is_bytes key_bytes peer && is_bytes key_bytes key
well_formed session_end = true
well_formed session_end_notification = true
well_formed (data_send bytes) = is_short longest_message bytes
well_formed (data_receive bytes) = is_short longest_message bytes
well_formed keepalive_message = true

-- ---- the message that bytes are

-- the first byte; 14, no type, of the empty message
abbrev pub type_of : List ℕ → ℕ
type_of m = get_or m 0 14

-- "Lengths are exact; a byte too many is malformed"
abbrev pub length_is : List ℕ → ℕ → Bool
length_is m n = eqb (length m) n

-- a form: the message, if the test passes
abbrev pub when : Bool → Message → Option Message
when true x = some x
when false x = none

-- of two forms, the one that the bytes have
infixr 20 ◌or_else◌
abbrev pub ◌or_else◌ : Option Message → Option Message → Option Message
some x or_else y = some x
none or_else y = y

unfoldable pub is_digit : ℕ → Bool
is_digit x = leb 48 x && leb x 57

unfoldable pub are_digits : List ℕ → Bool
are_digits [] = true
are_digits (x ∷ xs) = is_digit x && are_digits xs

-- the number that the three digits from a place on say
unfoldable pub digits_at : List ℕ → ℕ → ℕ
digits_at m at = (byte_at m at - 48) * 100 + (byte_at m (at + 1) - 48) * 10 + (byte_at m (at + 2) - 48)

-- "SVSC ", three digits, ".", three digits; "The fixed parts of the version text are compared byte for byte"
unfoldable pub is_version : List ℕ → Bool
is_version m = same (part m 1 5) version_name && are_digits (part m 6 3) && same (part m 9 1) version_point && are_digits (part m 10 3)

-- the table, a row for each type: what the bytes are, if the type is theirs
unfoldable pub readings : List ℕ → List (Option Message)
readings m =
    when (length_is m 13 && is_version m) (protocol_version (digits_at m 6) (digits_at m 10))
    ∷ when (length_is m 2 && leb (byte_at m 1) 1) (version_answer (byte_at m 1))
    ∷ (when (length_is m 2 && eqb (byte_at m 1) 0) lease_request
    or_else when (length_is m 26 && eqb (byte_at m 1) 1) (lease_request_with_cookie (part m 2 24)))
    ∷ (when (length_is m 2 && eqb (byte_at m 1) 0) lease_refused
    or_else when (length_is m 38 && eqb (byte_at m 1) 1) (lease_granted (number_at m 2 4) (part m 6 24) (number_at m 30 8)))
    ∷ when (length_is m 25) (extension_request (part m 1 24))
    ∷ (when (length_is m 2 && eqb (byte_at m 1) 0) extension_refused
    or_else when (length_is m 10 && eqb (byte_at m 1) 1) (extension_granted (number_at m 2 8)))
    ∷ when (length_is m 5) (establish_request (number_at m 1 4))
    ∷ (when (length_is m 6 && leb 1 (byte_at m 5) && leb (byte_at m 5) 5) (establish_refused (number_at m 1 4) (byte_at m 5))
    or_else when (length_is m 54 && eqb (byte_at m 5) 0) (established (number_at m 1 4) (part m 6 16) (part m 22 16) (part m 38 16)))
    ∷ when (length_is m 49) (establish_notification (part m 1 16) (part m 17 16) (part m 33 16))
    ∷ when (length_is m 1) session_end
    ∷ when (length_is m 1) session_end_notification
    ∷ when (leb (length m) longest_message) (data_send (drop 1 m))
    ∷ when (leb (length m) longest_message) (data_receive (drop 1 m))
    ∷ when (length_is m 1) keepalive_message
    ∷ []

-- the message that bytes are, or nothing: "whatever the table hasn't got"
unfoldable pub decode : List ℕ → Option Message
decode m = get_or (readings m) (type_of m) none

abbrev pub is_some : Option Message → Bool
is_some none = false
is_some (some x) = true

-- "Peers send 1, 2, 4, 6, 9, 11, 13", by type
abbrev pub sent_by_peers : List Bool
sent_by_peers = false ∷ true ∷ true ∷ false ∷ true ∷ false ∷ true ∷ false ∷ false ∷ true ∷ false ∷ true ∷ false ∷ true ∷ []

-- a message that peers send: the relay's check 6
unfoldable pub from_peer : List ℕ → Bool
from_peer m = get_or sent_by_peers (type_of m) false && is_some (decode m)

-- the types that a row of a table by type has, the first of the row being type k
unfoldable pub types_in : ℕ → List Bool → List ℕ
types_in k [] = []
types_in k (true ∷ bs) = k ∷ types_in (k + 1) bs
types_in k (false ∷ bs) = types_in (k + 1) bs
