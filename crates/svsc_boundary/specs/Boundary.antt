-- What C gets of a message: its fields of bytes, and its numbers.
use Rattle.std.specs.Prelude.{ℕ, List, [], ◌∷◌, get_or}
use Rattle.std.proofs.Math.Option.{Option, none, some}
use Rattle.svsc.specs.Messages.{Message, protocol_version, version_answer, lease_request, lease_request_with_cookie, lease_refused, lease_granted, extension_request, extension_refused, extension_granted, establish_request, establish_refused, established, establish_notification, session_end, session_end_notification, data_send, data_receive, keepalive_message, is_some}
use Rattle.svsc.specs.Writing.{WriteOutcome, emit}
use Rattle.svsc_boundary.specs.declared.numbers.Numbers.{Numbers}

-- ---- fields of bytes

-- a message's cookie, session-id, peer-id, peer-key and data, in this order, as far as it has them
unfoldable pub fields : Message → List (List ℕ)
fields (protocol_version major minor) = []
fields (version_answer ok) = []
fields lease_request = []
fields (lease_request_with_cookie cookie) = cookie ∷ []
fields lease_refused = []
fields (lease_granted id cookie expiration) = cookie ∷ []
fields (extension_request cookie) = cookie ∷ []
fields extension_refused = []
fields (extension_granted expiration) = []
fields (establish_request id) = []
fields (establish_refused id status) = []
fields (established id session peer key) = [] ∷ session ∷ peer ∷ key ∷ []
fields (establish_notification session peer key) = [] ∷ session ∷ peer ∷ key ∷ []
fields session_end = []
fields session_end_notification = []
fields (data_send bytes) = [] ∷ [] ∷ [] ∷ [] ∷ bytes ∷ []
fields (data_receive bytes) = [] ∷ [] ∷ [] ∷ [] ∷ bytes ∷ []
fields keepalive_message = []

-- the field of a number, from 0; empty where there is none
abbrev pub field_of : ℕ → Option Message → List ℕ
field_of f none = []
field_of f (some x) = get_or (fields x) f []

-- a field copied out, as a writer writes: 6 for bytes that are no message, before 5 for a buffer too short; else the field at the buffer's start
abbrev pub copy_field : ℕ → Option Message → List ℕ → WriteOutcome
copy_field f x buffer = emit (is_some x) (field_of f x) buffer

-- ---- the numbers of a message, as C has them

abbrev pub form : (type flag id expiration : ℕ) → Numbers
form type flag id expiration = record { number = 0; kind = type; flag = flag; major = 0; minor = 0; id = id; expiration = expiration }

-- the type, the byte that tells its forms or statuses apart, id and expiration; 0 where a message hasn't got one
abbrev pub numbers_of : Message → Numbers
numbers_of (protocol_version major minor) = record { number = 0; kind = 0; flag = 0; major = major; minor = minor; id = 0; expiration = 0 }
numbers_of (version_answer ok) = form 1 ok 0 0
numbers_of lease_request = form 2 0 0 0
numbers_of (lease_request_with_cookie cookie) = form 2 1 0 0
numbers_of lease_refused = form 3 0 0 0
numbers_of (lease_granted id cookie expiration) = form 3 1 id expiration
numbers_of (extension_request cookie) = form 4 0 0 0
numbers_of extension_refused = form 5 0 0 0
numbers_of (extension_granted expiration) = form 5 1 0 expiration
numbers_of (establish_request id) = form 6 0 id 0
numbers_of (establish_refused id status) = form 7 status id 0
numbers_of (established id session peer key) = form 7 0 id 0
numbers_of (establish_notification session peer key) = form 8 0 0 0
numbers_of session_end = form 9 0 0 0
numbers_of session_end_notification = form 10 0 0 0
numbers_of (data_send bytes) = form 11 0 0 0
numbers_of (data_receive bytes) = form 12 0 0 0
numbers_of keepalive_message = form 13 0 0 0

-- of bytes that are no message only the number, 6
abbrev pub numbers : Option Message → Numbers
numbers none = record { number = 6; kind = 0; flag = 0; major = 0; minor = 0; id = 0; expiration = 0 }
numbers (some x) = numbers_of x
