-- What the work of a message may go by; the checks have shown it.
use Rattle.std.specs.Prelude.{ℕ, ◌≤◌, ◌<◌, ◌≡◌, List, length}
use Rattle.svsc.specs.Messages.{longest_message}
use Rattle.rules.specs.Sizes.{connection_count, leases_size, least_buffer, time_limit, random_bytes}
use Rattle.rules.specs.Decisions.{Decision, version_answered, lease_decided, extension_decided, session_decided, session_ended, data_sent, nothing_asked}
use Rattle.leasing.specs.Asked.{InRows}
use Rattle.establishing.specs.Asked.{InStatuses}

pub record Admitted (ls : List ℕ) (time c : ℕ) (m random reply relay : List ℕ) : Type 0 where
  pub size : length ls ≡ leases_size
  pub known : c < connection_count
  pub timely : time < time_limit
  pub random_size : length random ≡ random_bytes
  pub reply_room : least_buffer ≤ length reply
  pub relay_room : least_buffer ≤ length relay
  pub message_some : 0 < length m
  pub message_short : length m ≤ longest_message
  pub message_room : length m ≤ length relay

-- a decision that can be carried out: its row is one of the table, its status one of the protocol
abbrev pub Feasible : Decision → Type 0
Feasible (version_answered ok) = Unit {0}
Feasible (lease_decided d) = InRows d
Feasible (extension_decided row) = Unit {0}
Feasible (session_decided id d) = InStatuses d
Feasible (session_ended other) = Unit {0}
Feasible (data_sent other bytes) = Unit {0}
Feasible nothing_asked = Unit {0}
