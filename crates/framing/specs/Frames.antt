-- A frame, and what stands at the start of a stream of frames. 02, Item 9: "the paper's section 3.1: data-length 2, type 1, then data-length minus 1
-- bytes; the number counts the type byte".
use Rattle.std.specs.Prelude.{ℕ, suc, ◌+◌, ◌-◌, ◌*◌, Bool, true, ◌&&◌, List, [], ◌∷◌, ◌++◌, length, take, eqb, leb, ltb, if◌then◌else◌}
use Rattle.octets.specs.Octets.{big_endian}
use Rattle.svsc.specs.Messages.{longest_message}

-- "must hold 65,534 bytes": the longest message of a frame, whose length has two bytes and counts the type
abbrev pub message_limit : ℕ
message_limit = longest_message

abbrev pub header_bytes : ℕ
header_bytes = 3

-- a frame's type on TCP
abbrev pub frame_type : ℕ
frame_type = 1

-- a message's frame, and how many bytes that has
unfoldable pub frame_of : List ℕ → List ℕ
frame_of message = big_endian 2 (suc (length message)) ++ (frame_type ∷ message)

abbrev pub frame_length : List ℕ → ℕ
frame_length message = header_bytes + length message

-- which messages have frames, and these, one behind the other
abbrev pub fits : List ℕ → Bool
fits message = leb (length message) message_limit

unfoldable pub all_fit : List (List ℕ) → Bool
all_fit [] = true
all_fit (message ∷ messages) = fits message && all_fit messages

unfoldable pub frames_of : List (List ℕ) → List ℕ
frames_of [] = []
frames_of (message ∷ messages) = frame_of message ++ frames_of messages

-- ---- reading

-- the start of a stream: nothing yet but a beginning of a frame; refused, after so many bytes; or a whole frame with this message
pub data Start : Type 0 where
  begun : Start
  refused : (after : ℕ) → Start
  whole : (message : List ℕ) → Start

-- "then data-length minus 1 bytes"
unfoldable pub start_of_message : (size : ℕ) → List ℕ → Start
start_of_message size bytes = if ltb (length bytes) (size - 1) then begun else whole (take (size - 1) bytes)

-- "a type other than 1 is refused with 6, the byte that shows it the last one taken"
unfoldable pub start_of_type : (size : ℕ) → List ℕ → Start
start_of_type size [] = begun
start_of_type size (type ∷ bytes) = if eqb type frame_type then start_of_message size bytes else refused 3

-- "Length 0 .. is refused": its second byte shows it, and the type isn't looked at
unfoldable pub start_of : List ℕ → Start
start_of [] = begun
start_of (high ∷ []) = begun
start_of (high ∷ low ∷ bytes) = if eqb (high * 256 + low) 0 then refused 2 else start_of_type (high * 256 + low) bytes
