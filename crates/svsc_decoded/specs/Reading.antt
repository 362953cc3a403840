-- What the reader's answers mean: 01's number and the message for each case.
use Rattle.std.specs.Prelude.{ℕ, List, drop, Option, Some, None}
use Rattle.std.proofs.Math.Option.{none, some}
use Rattle.std.proofs.Math.Option as math
use Rattle.octets.specs.Octets.{part}
use Rattle.svsc.specs.Messages.{Message, protocol_version, version_answer, lease_request, lease_request_with_cookie, lease_refused, lease_granted, extension_request, extension_refused, extension_granted, establish_request, establish_refused, established, establish_notification, session_end, session_end_notification, data_send, data_receive, keepalive_message}
use Rattle.svsc_decoded.specs.declared.Decoded.{Decoded}
use Rattle.svsc_decoded.specs.declared.Decoded.TheVariants as case

-- an answer to bytes: a number, and a message where it is 0
pub record Answer : Type 0 where
  pub number : ℕ
  pub message : math.Option Message

-- "its reader refuses with 6 whatever the table hasn't got"
abbrev pub number_of : math.Option Message → ℕ
number_of none = 6
number_of (some x) = 0

abbrev pub answer : math.Option Message → Answer
answer x = record { number = number_of x; message = x }

-- the message that each case is, of the bytes m. Fields of bytes are parts of m
abbrev pub message_of : Decoded → List ℕ → Message
message_of (case.Version major minor) m = protocol_version major minor
message_of (case.VersionAnswer ok) m = version_answer ok
message_of case.LeaseRequest m = lease_request
message_of case.LeaseRequestWithCookie m = lease_request_with_cookie (part m 2 24)
message_of case.LeaseRefused m = lease_refused
message_of (case.LeaseGranted id expiration) m = lease_granted id (part m 6 24) expiration
message_of case.ExtensionRequest m = extension_request (part m 1 24)
message_of case.ExtensionRefused m = extension_refused
message_of (case.ExtensionGranted expiration) m = extension_granted expiration
message_of (case.EstablishRequest id) m = establish_request id
message_of (case.EstablishRefused id status) m = establish_refused id status
message_of (case.Established id) m = established id (part m 6 16) (part m 22 16) (part m 38 16)
message_of case.EstablishNotification m = establish_notification (part m 1 16) (part m 17 16) (part m 33 16)
message_of case.SessionEnd m = session_end
message_of case.SessionEndNotification m = session_end_notification
message_of case.DataSend m = data_send (drop 1 m)
message_of case.DataReceive m = data_receive (drop 1 m)
message_of case.Keepalive m = keepalive_message

-- the reader's answer about the bytes m
abbrev pub meaning : Option Decoded → List ℕ → Answer
meaning None m = answer none
meaning (Some d) m = answer (some (message_of d m))
