-- What a reader takes of a chunk once the header is there, from a place of it on. Not a part of the rules: what `step` does, as a copy to the buffer.
use Rattle.std.specs.Prelude.{ℕ, ◌+◌, ◌-◌, ◌*◌, ◌≤◌, ◌<◌, List, ltb, length, drop, if◌then◌else◌}
use Rattle.octets.specs.Octets.{part, put}
use Rattle.framing.specs.Frames.{message_limit}
use Rattle.framing.specs.Reading.{state, fresh, Step}

-- the header is there and no more than the frame, and the place is in the chunk
pub record BodyAhead (taken size used : ℕ) (buffer chunk : List ℕ) : Type 0 where
  pub header : 3 ≤ taken
  pub frame : taken ≤ size + 2
  pub limit : size < 256 * 256
  pub place : used ≤ length chunk
  pub room : message_limit ≤ length buffer

unfoldable pub read_body : (taken size used : ℕ) (buffer chunk : List ℕ) → Step
read_body taken size used buffer chunk =
    if ltb (length chunk - used) (size + 2 - taken)
    then record
    { number = 0; complete = 0; used = length chunk; length = 0; state = state (taken + (length chunk - used)) size; buffer = put buffer (taken - 3) (drop used chunk) }
    else record
    { number = 0; complete = 1; used = used + (size + 2 - taken); length = size - 1; state = fresh; buffer = put buffer (taken - 3) (part chunk used (size + 2 - taken)) }
