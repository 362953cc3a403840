-- What a whole stream of bytes gives: its messages, and how it ends. 02, Item 9.
use Rattle.std.specs.Prelude.{ℕ, zero, suc, ◌+◌, List, [], ◌∷◌, length, drop}
use Rattle.framing.specs.Frames.{frame_length, Start, begun, refused, whole, start_of}

-- "the same end": so many bytes of a frame are there, none after a whole one; or the stream is refused, after so many bytes of it
pub data End : Type 0 where
  within : (bytes : ℕ) → End
  refused_after : (bytes : ℕ) → End

pub record Parsed : Type 0 where
  pub messages : List (List ℕ)
  pub end : End

-- a message, and what follows it
unfoldable pub after : List ℕ → Parsed → Parsed
after message p = record { messages = message ∷ p.messages; end = p.end }

-- the bytes behind the place `at` of a stream, where `start` stands there; `rest` is what follows a message
unfoldable pub parse_start : (at : ℕ) → List ℕ → (rest : List ℕ → Parsed) → (start : Start) → Parsed
parse_start at bytes rest begun = record { messages = []; end = within (length bytes) }
parse_start at bytes rest (refused k) = record { messages = []; end = refused_after (at + k) }
parse_start at bytes rest (whole message) = after message (rest message)

-- of these bytes no more than n frames
unfoldable pub parse_frames : (n at : ℕ) → List ℕ → Parsed
parse_frames zero at bytes = record { messages = []; end = within (length bytes) }
parse_frames (suc n) at bytes =
    parse_start at bytes (λ message. parse_frames n (at + frame_length message) (drop (frame_length message) bytes)) (start_of bytes)

-- a frame has three bytes at least, so there are no more frames than bytes
unfoldable pub parse_from : (at : ℕ) → List ℕ → Parsed
parse_from at bytes = parse_frames (length bytes) at bytes

unfoldable pub parse : List ℕ → Parsed
parse bytes = parse_from 0 bytes
