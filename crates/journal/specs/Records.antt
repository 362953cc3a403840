-- 02, Item 8: "Each call's answer also has a record of 16 bytes, most significant byte first, all zero on 1 to 3".
use Rattle.std.specs.Prelude.{ℕ, ◌+◌, Bool, ◌&&◌, ◌||◌, List, ◌++◌, replicate, eqb, leb, if◌then◌else◌}
use Rattle.octets.specs.Octets.{byte_at, big_endian, number_at}
use Rattle.rules.specs.Tables.{Tables}
use Rattle.rules.specs.Calls.{Call, opening, message, closing, keepalive, time_of, connection_of}
use Rattle.rules.specs.Charges.{price}
use Rattle.rules.specs.Step.{step}

abbrev pub record_bytes : ℕ
record_bytes = 16

-- 01's reading is `time`, the type byte `kind`
pub record Record : Type 0 where
  pub time : ℕ
  pub connection : ℕ
  pub call : ℕ
  pub kind : ℕ
  pub answer : ℕ
  pub charge : ℕ

-- "reading 8, connection 1, call 1 .., type byte or 0, answer 1, charge 4": as bytes,
unfoldable pub written : Record → List ℕ
written r =
    big_endian 8 r.time
    ++ (big_endian 1 r.connection
    ++ (big_endian 1 r.call ++ (big_endian 1 r.kind ++ (big_endian 1 r.answer ++ big_endian 4 r.charge))))

-- and of the bytes from a place on
unfoldable pub record_at : List ℕ → ℕ → Record
record_at j place = record {
  time = number_at j place 8;
  connection = number_at j (place + 8) 1;
  call = number_at j (place + 9) 1;
  kind = number_at j (place + 10) 1;
  answer = number_at j (place + 11) 1;
  charge = number_at j (place + 12) 4;
}

-- ---- the record of a call

-- "call 1 (0 open, 1 message, 2 close, 3 keepalive check)"
abbrev pub call_number : Call → ℕ
call_number (opening now c reply) = 0
call_number (message now c m random reply relay) = 1
call_number (closing now c relay) = 2
call_number (keepalive now c reply relay) = 3

-- "type byte or 0": the first byte of the message as it came, 0 for an empty one and for other calls
abbrev pub kind_of : Call → ℕ
kind_of (opening now c reply) = 0
kind_of (message now c m random reply relay) = byte_at m 0
kind_of (closing now c relay) = 0
kind_of (keepalive now c reply relay) = 0

-- answers 1 to 3, which are not in the journal
abbrev pub unrecorded : ℕ → Bool
unrecorded n = leb 1 n && leb n 3

-- answers 0 and 9, which have a charge
abbrev pub priced : ℕ → Bool
priced n = eqb n 0 || eqb n 9

-- "all zero on 1 to 3"
abbrev pub no_record : List ℕ
no_record = replicate record_bytes 0

-- the record of a call that is answered with a number, where the price is what check 9 compares; "for answers other than 0 and 9 the charge is 0"
unfoldable pub record_with : (number time connection call kind price : ℕ) → Record
record_with n time c call kind price = record {
  time = time;
  connection = c;
  call = call;
  kind = kind;
  answer = n;
  charge = if priced n then price else 0;
}

-- the record of a call on these tables
abbrev pub record_of : Tables → Call → Record
record_of tables call =
    record_with (step tables call).answer.number (time_of call) (connection_of call) (call_number call) (kind_of call) (price tables call)

-- its sixteen bytes, as the answer has them
unfoldable pub answer_record : ℕ → Record → List ℕ
answer_record n r = if unrecorded n then no_record else written r
