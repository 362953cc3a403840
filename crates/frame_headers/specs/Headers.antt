-- What a reader takes of a chunk before the message: the bytes of a header that are missing. Not a part of the rules: what `step` does, byte by byte.
use Rattle.std.specs.Prelude.{ℕ, ◌+◌, ◌*◌, List, [], ◌∷◌, eqb, if◌then◌else◌, Result, Ok, Err}
use Rattle.framing.specs.Frames.{frame_type}
use Rattle.frame_headers.specs.declared.Header.{Header}
use Rattle.frame_headers.specs.declared.BadHeader.{BadHeader}

abbrev pub Read : Type 0
Read = Result Header BadHeader

-- so many bytes are taken, and this is the state
abbrev pub reached : (used taken size : ℕ) → Read
reached used taken size = Ok (record { used = used; state = record { taken = taken; size = size } })

-- the first byte is refused
abbrev pub refused_byte : Read
refused_byte = Err (record { used = 1 })

-- how many bytes are taken
abbrev pub used : Read → ℕ
used (Ok h) = h.used
used (Err bad) = bad.used

-- the same a byte later
abbrev pub behind : Read → Read
behind (Ok h) = Ok (record { used = 1 + h.used; state = h.state })
behind (Err bad) = Err (record { used = 1 + bad.used })

-- the type, once the length is there
unfoldable pub read_type : (size : ℕ) → List ℕ → Read
read_type size [] = reached 0 2 size
read_type size (type ∷ bytes) = if eqb type frame_type then reached 1 3 size else refused_byte

-- the length's second byte, and what comes behind it
unfoldable pub read_low : (size : ℕ) → List ℕ → Read
read_low size [] = reached 0 1 size
read_low size (low ∷ bytes) = if eqb (size + low) 0 then refused_byte else behind (read_type (size + low) bytes)

-- its first byte, and what comes behind it
unfoldable pub read_high : List ℕ → Read
read_high [] = reached 0 0 0
read_high (high ∷ bytes) = behind (read_low (high * 256) bytes)

unfoldable pub read_header : (taken size : ℕ) → List ℕ → Read
read_header taken size chunk =
    if eqb taken 0 then read_high chunk
    else if eqb taken 1 then read_low size chunk
    else if eqb taken 2 then read_type size chunk
    else reached 0 taken size
