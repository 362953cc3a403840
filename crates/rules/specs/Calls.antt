-- What a call brings, and what it leaves (01, "Answer numbers and their order").
use Rattle.std.specs.Prelude.{ℕ, Bool, false, List, []}
use Rattle.rules.specs.Sizes.{nobody}
use Rattle.rules.specs.Tables.{Tables, partner_of}

-- "opens, messages and closes", and 02, Item 3: "A new host call for one connection", which "may stand in the lists of demand 3 and in 01's
-- runs as a close may": the time (01's reading), the connection, and what else is lent: the message, the random bytes (01's draw)
-- and the buffers (01's trays) for the reply and for the message to another connection. "all else that it brings may be anything"
pub data Call : Type 0 where
  opening : (now connection : ℕ) (reply : List ℕ) → Call
  message : (now connection : ℕ) (bytes random reply relay : List ℕ) → Call
  closing : (now connection : ℕ) (relay : List ℕ) → Call
  keepalive : (now connection : ℕ) (reply relay : List ℕ) → Call

abbrev pub time_of : Call → ℕ
time_of (opening now c reply) = now
time_of (message now c m random reply relay) = now
time_of (closing now c relay) = now
time_of (keepalive now c reply relay) = now

abbrev pub connection_of : Call → ℕ
connection_of (opening now c reply) = c
connection_of (message now c m random reply relay) = c
connection_of (closing now c relay) = c
connection_of (keepalive now c reply relay) = c

-- the partner whose call it is
abbrev pub caller_of : Call → ℕ
caller_of call = partner_of (connection_of call)

-- the buffers lent; a call that is lent none has the empty one
abbrev pub reply_buffer : Call → List ℕ
reply_buffer (opening now c reply) = reply
reply_buffer (message now c m random reply relay) = reply
reply_buffer (closing now c relay) = []
reply_buffer (keepalive now c reply relay) = reply

abbrev pub relay_buffer : Call → List ℕ
relay_buffer (opening now c reply) = []
relay_buffer (message now c m random reply relay) = relay
relay_buffer (closing now c relay) = relay
relay_buffer (keepalive now c reply relay) = relay

-- "An answer also has: bytes in the reply tray (for the caller's connection), bytes in the relay tray, its destination connection or 255,
-- hang-up yes or no."
pub record Answer : Type 0 where
  pub number : ℕ
  pub reply_length : ℕ
  pub relay_length : ℕ
  pub destination : ℕ
  pub disconnect : Bool

-- the answer with a number where nothing is sent: 0, 0, 255, no
abbrev pub sent_nothing : ℕ → Answer
sent_nothing n = record { number = n; reply_length = 0; relay_length = 0; destination = nobody; disconnect = false }

-- "Refusals 1 to 9 report 0, 0, 255, no"
abbrev pub refusal : ℕ → Answer
refusal n = sent_nothing n

-- the answer, and every byte of tables and buffers afterwards
pub record Outcome : Type 0 where
  pub answer : Answer
  pub tables : Tables
  pub reply : List ℕ
  pub relay : List ℕ
