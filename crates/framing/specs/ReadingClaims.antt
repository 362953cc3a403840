-- What 02, Item 9, says of a reader, as statements.
use Rattle.std.specs.Prelude.{ℕ, ◌+◌, ◌-◌, ◌≤◌, ◌<◌, ◌≡◌, ◌≢◌, ◌⊎◌, ◌↔◌, true, false, length, take, drop}
use mathlib.Core.List.{List, [], ◌∷◌, ◌++◌, flatten}
use Rattle.std.proofs.Math.Pow.{are_bytes}
use Rattle.framing.specs.Frames.{message_limit, header_bytes, frame_of, refused, start_of}
use Rattle.framing.specs.Streams.{within, parse}
use Rattle.framing.specs.Reading.{State, fresh, refusal, is_valid, held, Step, step, Reader, starting, read_chunks, result}

-- ---- one step, from any state

pub record StepClaims (s : State) (buffer chunk : List ℕ) (r : Step) : Type 0 where
  -- 0, 5 or 6, and no other number
  pub numbers : (r.number ≡ 0) ⊎ (r.number ≡ 5) ⊎ (r.number ≡ 6)
  -- "The reader's lent message buffer must hold 65,534 bytes, else 5, before any 6, and nothing taken."; the state is handed back
  pub short_exactly : (r.number ≡ 5) ↔ (length buffer < message_limit)
  pub short : r.number ≡ 5 → (r.used ≡ 0) × (r.state ≡ s)
  -- "is refused with 6, the byte that shows it the last one taken .. as does a state neither fresh nor made by a step"
  pub refused_exactly : (r.number ≡ 6)
      ↔ ((message_limit ≤ length buffer) × (is_valid s ≡ true → (k : ℕ) × (start_of (held s buffer ++ chunk) ≡ refused k)))
  pub last_byte : r.number ≡ 6 → is_valid s ≡ true → start_of (held s buffer ++ chunk) ≡ refused (s.taken + r.used)
  pub refused_state : r.number ≡ 6 → r.state ≡ refusal
  pub invalid : r.number ≡ 6 → is_valid s ≡ false → r.used ≡ 0
  -- nothing is written, and no message given
  pub no_message : r.number ≢ 0 → (r.complete ≡ 0) × (r.length ≡ 0) × (r.buffer ≡ buffer)
  -- what was taken is the frame of the message that stands in the buffer
  pub completed : r.number ≡ 0 → r.complete ≢ 0
      → (r.complete ≡ 1) × (held s buffer ++ take r.used chunk ≡ frame_of (take r.length r.buffer)) × (r.length ≤ message_limit)
  -- or all was taken, and is kept
  pub kept : r.number ≡ 0 → r.complete ≡ 0 → (r.used ≡ length chunk) × (r.length ≡ 0) × (held r.state r.buffer ≡ held s buffer ++ chunk)
  pub done_state : r.number ≡ 0 → (is_valid r.state ≡ true) × (r.complete ≢ 0 → r.state ≡ fresh)
  -- the buffer's further bytes stay: those behind a message, or behind what is there of one
  pub behind : drop (r.length + (r.state.taken - header_bytes)) r.buffer ≡ drop (r.length + (r.state.taken - header_bytes)) buffer
  pub used_there : r.used ≤ length chunk
  pub room_stays : length r.buffer ≡ length buffer

-- ---- whole streams

-- some bytes lead to the state from a fresh one
pub record LedTo (buffer : List ℕ) (s : State) : Type 0 where
  pub bytes : List ℕ
  pub are_bytes_lem : are_bytes bytes ≡ true
  pub leads : (read_chunks (starting buffer) (bytes ∷ [])).state ≡ s

pub record ReadingClaims : Type 0 where
  pub steps : (s : State) (buffer chunk : List ℕ) → are_bytes chunk ≡ true → StepClaims s buffer chunk (step s buffer chunk)
  -- "From a fresh reader whose state and buffer nobody else writes, cutting the stream anywhere .. yields the same messages and the same end": those
  -- of the whole
  pub chunks_read : (buffer : List ℕ) (chunks : List (List ℕ)) → message_limit ≤ length buffer → are_bytes (flatten chunks) ≡ true
      → result (read_chunks (starting buffer) chunks) ≡ parse (flatten chunks)
  -- after whole frames it is fresh again, and only then
  pub fresh_exactly : (buffer : List ℕ) (chunks : List (List ℕ)) → message_limit ≤ length buffer → are_bytes (flatten chunks) ≡ true
      → ((parse (flatten chunks)).end ≡ within 0) ↔ ((read_chunks (starting buffer) chunks).state ≡ fresh)
  -- "a state neither fresh nor made by a step"
  pub valid_exactly : (buffer : List ℕ) (s : State) → message_limit ≤ length buffer → (is_valid s ≡ true) ↔ ((s ≢ refusal) × LedTo buffer s)
  -- "the stream stays refused", and nothing more is taken
  pub stays_refused : (r : Reader) (chunks : List (List ℕ)) → message_limit ≤ length r.buffer → r.state ≡ refusal → read_chunks r chunks ≡ r
