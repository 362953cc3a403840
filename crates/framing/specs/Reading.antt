-- A reader: its state as two numbers, one step on a chunk of the stream, and all steps on a list of chunks. 02, Item 9.
use Rattle.std.specs.Prelude.{ℕ, zero, suc, ◌+◌, ◌-◌, ◌*◌, ◌%◌, Bool, ◌&&◌, ◌||◌, List, [], ◌∷◌, ◌++◌, length, take, drop, eqb, leb, ltb, if◌then◌else◌}
use Rattle.octets.specs.Octets.{big_endian, put}
use Rattle.framing.specs.Frames.{message_limit, header_bytes, frame_type, frame_length, Start, begun, refused, whole, start_of}
use Rattle.framing.specs.Streams.{End, within, refused_after, Parsed}

-- ---- the state

-- how many bytes of a frame were taken, and its length as far as that is known
pub record State : Type 0 where
  pub taken : ℕ
  pub size : ℕ

abbrev pub state : ℕ → ℕ → State
state taken size = record { taken = taken; size = size }

-- at a stream's start, and after each message
abbrev pub fresh : State
fresh = state 0 0

-- "the stream stays refused"
abbrev pub refusal : State
refusal = state 0 1

-- "a state neither fresh nor made by a step": fresh; a first byte of the length; or the length, with a part of what it counts
unfoldable pub is_valid : State → Bool
is_valid s =
    eqb s.taken 0 && eqb s.size 0
    || eqb s.taken 1 && ltb s.size (256 * 256) && eqb (s.size % 256) 0
    || leb 2 s.taken && leb 1 s.size && ltb s.size (256 * 256) && ltb s.taken (s.size + 2)

-- the state after the beginning of a frame
unfoldable pub state_after : List ℕ → State
state_after [] = fresh
state_after (high ∷ []) = state 1 (high * 256)
state_after (high ∷ low ∷ bytes) = state (suc (suc (length bytes))) (high * 256 + low)

-- and that beginning again: what a reader has taken of a frame, by its state and its buffer
unfoldable pub held : State → List ℕ → List ℕ
held s buffer = take s.taken (big_endian 2 s.size ++ (frame_type ∷ buffer))

-- ---- one step

-- the number, whether a message stands in the buffer, bytes of the chunk taken, the message's length, the state and the buffer afterwards
pub record Step : Type 0 where
  pub number : ℕ
  pub complete : ℕ
  pub used : ℕ
  pub length : ℕ
  pub state : State
  pub buffer : List ℕ

-- what a step makes of the bytes that were taken before, so many, and the chunk behind them, where `start` stands there: "Length 0 or a type
-- other than 1 is refused with 6, the byte that shows it the last one taken"; nothing is written then
abbrev pub advance : (taken : ℕ) (buffer bytes : List ℕ) (start : Start) → Step
advance taken buffer bytes begun =
    record { number = 0; complete = 0; used = length bytes - taken; length = 0; state = state_after bytes; buffer = put buffer 0 (drop header_bytes bytes) }
advance taken buffer bytes (refused k) =
    record { number = 6; complete = 0; used = k - taken; length = 0; state = refusal; buffer = buffer }
advance taken buffer bytes (whole message) =
    record { number = 0; complete = 1; used = frame_length message - taken; length = length message; state = fresh; buffer = put buffer 0 message }

-- "the stream stays refused, as does a state neither fresh nor made by a step"
abbrev pub refusing : List ℕ → Step
refusing buffer = record { number = 6; complete = 0; used = 0; length = 0; state = refusal; buffer = buffer }

-- "else 5, before any 6, and nothing taken"
abbrev pub too_short : State → List ℕ → Step
too_short s buffer = record { number = 5; complete = 0; used = 0; length = 0; state = s; buffer = buffer }

unfoldable pub step : State → (buffer chunk : List ℕ) → Step
step s buffer chunk =
    if ltb (length buffer) message_limit then too_short s buffer
    else if is_valid s then advance s.taken buffer (held s buffer ++ chunk) (start_of (held s buffer ++ chunk))
    else refusing buffer

-- ---- all steps

-- what was read: the messages, how many bytes of the stream were taken, the state and the buffer
pub record Reader : Type 0 where
  pub messages : List (List ℕ)
  pub at : ℕ
  pub state : State
  pub buffer : List ℕ

-- a reader at the start of a stream, with a buffer that holds anything
abbrev pub starting : List ℕ → Reader
starting buffer = record { messages = []; at = 0; state = fresh; buffer = buffer }

-- the reader after a step
abbrev pub stepped : Reader → Step → Reader
stepped r s =
    record {
      messages = if eqb s.complete 0 then r.messages else r.messages ++ (take s.length s.buffer ∷ []);
      at = r.at + s.used;
      state = s.state;
      buffer = s.buffer;
    }

-- a chunk is offered, and after each message what is left of it again; no more than n times again
unfoldable pub offer : (n : ℕ) → Reader → (chunk : List ℕ) → Reader
offer zero r chunk = stepped r (step r.state r.buffer chunk)
offer (suc n) r chunk =
    let s = step r.state r.buffer chunk in
    if eqb s.complete 0 then stepped r s else offer n (stepped r s) (drop s.used chunk)

-- a message takes a byte at least, so a chunk has no more messages than bytes
unfoldable pub read_chunks : Reader → List (List ℕ) → Reader
read_chunks r [] = r
read_chunks r (chunk ∷ chunks) = read_chunks (offer (length chunk) r chunk) chunks

-- the end that a reader is at
unfoldable pub end_of : Reader → End
end_of r = if eqb r.state.taken 0 && eqb r.state.size 1 then refused_after r.at else within r.state.taken

-- "yields the same messages and the same end"
abbrev pub result : Reader → Parsed
result r = record { messages = r.messages; end = end_of r }
