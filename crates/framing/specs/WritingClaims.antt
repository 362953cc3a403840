-- What 02, Item 9, says of the writer, as statements.
use Rattle.std.specs.Prelude.{ℕ, ◌≤◌, ◌<◌, ◌≡◌, ◌≢◌, ◌↔◌, Bool, true, ◌&&◌, eqb, length, take, drop}
use Rattle.std.proofs.Math.Option.{some}
use mathlib.Core.List.{List, [], ◌∷◌, ◌++◌, map, flatten}
use Rattle.std.proofs.Math.Pow.{are_bytes}
use Rattle.svsc.specs.Messages.{Message, encode, well_formed, decode}
use Rattle.svsc.specs.Writing.{WriteOutcome}
use Rattle.framing.specs.Frames.{message_limit, frame_of, frame_length, frames_of}
use Rattle.framing.specs.Streams.{within}
use Rattle.framing.specs.Reading.{fresh, starting, read_chunks, result}
use Rattle.framing.specs.Writing.{write_frame}

-- "The writer refuses a message above 65,534 bytes with 6, then a short tray with 5."
pub record WriteClaims (message buffer : List ℕ) (w : WriteOutcome) : Type 0 where
  pub too_long : (w.number ≡ 6) ↔ (message_limit < length message)
  pub short : (w.number ≡ 5) ↔ ((length message ≤ message_limit) × (length buffer < frame_length message))
  pub done : (w.number ≡ 0) ↔ ((length message ≤ message_limit) × (frame_length message ≤ length buffer))
  pub refused : w.number ≢ 0 → (w.length ≡ 0) × (w.buffer ≡ buffer)
  pub written : w.number ≡ 0 → (w.length ≡ frame_length message) × (w.buffer ≡ frame_of message ++ drop (frame_length message) buffer)

-- ---- what is written is read back

-- a message, and the buffer that its frame is written to
pub record Writing : Type 0 where
  pub message : List ℕ
  pub buffer : List ℕ

-- whether the writer takes them all
unfoldable pub all_taken : List Writing → Bool
all_taken [] = true
all_taken (w ∷ ws) = eqb (write_frame w.message w.buffer).number 0 && all_taken ws

-- what it makes of them, one behind the other
unfoldable pub stream_of : List Writing → List ℕ
stream_of [] = []
stream_of (w ∷ ws) = take (write_frame w.message w.buffer).length (write_frame w.message w.buffer).buffer ++ stream_of ws

-- the range of every field of messages of the protocol
unfoldable pub all_well_formed : List Message → Bool
all_well_formed [] = true
all_well_formed (x ∷ xs) = well_formed x && all_well_formed xs

pub record WritingClaims : Type 0 where
  pub writes : (message buffer : List ℕ) → WriteClaims message buffer (write_frame message buffer)
  -- "A writer makes frames that the reader gives back.": exactly these, however the stream is cut, and the reader is fresh again
  pub read_back : (ws : List Writing) (buffer : List ℕ) (chunks : List (List ℕ)) → message_limit ≤ length buffer → all_taken ws ≡ true
      → are_bytes (flatten chunks) ≡ true → flatten chunks ≡ stream_of ws
      → (result (read_chunks (starting buffer) chunks) ≡ record { messages = map (λ (w : Writing). w.message) ws; end = within 0 })
      × ((read_chunks (starting buffer) chunks).state ≡ fresh)
  -- "above the messages": every message of the protocol has a frame, and is read from it
  pub carried : (xs : List Message) (buffer : List ℕ) (chunks : List (List ℕ)) → message_limit ≤ length buffer → all_well_formed xs ≡ true
      → are_bytes (flatten chunks) ≡ true → flatten chunks ≡ frames_of (map encode xs)
      → map decode (result (read_chunks (starting buffer) chunks)).messages ≡ map some xs
