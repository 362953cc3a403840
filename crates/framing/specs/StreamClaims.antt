-- What 02, Item 9, says of a stream, as statements.
use Rattle.std.specs.Prelude.{ℕ, ◌+◌, ◌*◌, ◌/◌, ◌%◌, ◌≤◌, ◌<◌, ◌≡◌, ◌≢◌, ◌⊎◌, ◌↔◌, true, List, ◌∷◌, ◌++◌, length}
use Rattle.std.proofs.Math.Pow.{are_bytes}
use Rattle.octets.specs.Octets.{byte_at}
use Rattle.framing.specs.Frames.{frame_of, frame_type, fits, all_fit, frames_of, begun, refused, whole, start_of}
use Rattle.framing.specs.Streams.{End, within, refused_after, Parsed, parse_from}

-- ---- a frame

-- in numbers: "data-length 2, type 1, then data-length minus 1 bytes; the number counts the type byte", "most significant byte first"
pub record Layout (message : List ℕ) : Type 0 where
  pub fitting : (fits message ≡ true) ↔ (length message ≤ 65534)
  pub bytes : length message ≤ 65534 → frame_of message ≡ ((length message + 1) / 256) ∷ ((length message + 1) % 256) ∷ 1 ∷ message

-- ---- the start of a stream

-- the length that the first two bytes spell
abbrev pub size_of : List ℕ → ℕ
size_of bytes = byte_at bytes 0 * 256 + byte_at bytes 1

-- "Length 0 or a type other than 1 is refused with 6, the byte that shows it the last one taken": after two bytes or three
abbrev pub RefusedBy : List ℕ → ℕ → Type 0
RefusedBy bytes k =
    ((k ≡ 2) × (2 ≤ length bytes) × (size_of bytes ≡ 0))
    ⊎ ((k ≡ 3) × (3 ≤ length bytes) × (size_of bytes ≢ 0) × (byte_at bytes 2 ≢ frame_type))

-- some frame goes on from these bytes
pub record Begins (bytes : List ℕ) : Type 0 where
  pub message : List ℕ
  pub rest : List ℕ
  pub fitting : fits message ≡ true
  pub further : 0 < length rest
  pub goes_on : bytes ++ rest ≡ frame_of message

pub record Starts (bytes : List ℕ) : Type 0 where
  -- a whole frame stands there exactly if the bytes begin with it
  pub whole_exactly : (message : List ℕ) → (start_of bytes ≡ whole message) ↔ ((fits message ≡ true) × ((rest : List ℕ) × (bytes ≡ frame_of message ++ rest)))
  pub begun_exactly : (start_of bytes ≡ begun) ↔ Begins bytes
  pub refused_exactly : (k : ℕ) → (start_of bytes ≡ refused k) ↔ RefusedBy bytes k

-- ---- a whole stream

-- the end, of what is left behind so many bytes of frames
abbrev pub Ends : (at : ℕ) (rest : List ℕ) → End → Type 0
Ends at rest (within n) = (start_of rest ≡ begun) × (n ≡ length rest)
Ends at rest (refused_after n) = (k : ℕ) × (start_of rest ≡ refused k) × (n ≡ at + k)

-- the bytes behind the place `at` of a stream are the frames of their messages, and what the end says behind them
pub record Accounted (at : ℕ) (bytes : List ℕ) (p : Parsed) : Type 0 where
  pub rest : List ℕ
  pub fitting : all_fit p.messages ≡ true
  pub stream : bytes ≡ frames_of p.messages ++ rest
  pub ends : Ends (at + length (frames_of p.messages)) rest p.end

pub record StreamClaims : Type 0 where
  pub layout : (message : List ℕ) → Layout message
  -- what stands at the start of every byte string, exactly
  pub starts : (bytes : List ℕ) → are_bytes bytes ≡ true → Starts bytes
  -- the parse of every byte string accounts for all of it, and there is no other account
  pub parsed_exactly : (at : ℕ) (bytes : List ℕ) (p : Parsed) → are_bytes bytes ≡ true → (parse_from at bytes ≡ p) ↔ Accounted at bytes p
