-- The examples hold. Assumes nothing.
use Prim.Native.Nat.{ℕ, suc, ◌≤◌}
use mathlib.Core.Path.{◌≡◌, refl, sym, ap, ◌∙◌}
use mathlib.Core.List.{List, [], ◌∷◌, ◌++◌, append-nil}
use native.Mathlib.Omega.{arith}
use lib.ListN.{length, drop, drop_of_length-le}
use borrow.Author.Tests.{le-ltb}
use Rattle.octets.specs.Octets.{big_endian}
use Rattle.framing.specs.Frames.{message_limit, frame_of, frame_length, frame_type}
use Rattle.framing.specs.Reading.{State, step}
use Rattle.framing.specs.Writing.{write_frame}
use Rattle.framing.proofs.Writing.{write-long, write-short, write_done}
use Rattle.framing_examples.specs.Frames.{Holds, step_in_room, steps, short_steps, streams, written, LongestWritten}

-- a step is this one, where there is room
pub in_room : (s : State) (buffer chunk : List ℕ) → message_limit ≤ length buffer → step s buffer chunk ≡ step_in_room s buffer chunk
unfolding step step_in_room
in_room s buffer chunk room = rw (le-ltb (length buffer) message_limit room)

pub steps_made : (x y : ℕ) (more : List ℕ) → Holds (steps x y more)
unfolding steps
steps_made x y more = refl

pub short-steps_made : Holds short_steps
unfolding short_steps
short-steps_made = refl

pub streams_parsed : Holds streams
unfolding streams
streams_parsed = refl

pub frames_written : Holds written
unfolding written
frames_written = refl

-- the longest message fills its frame
filled : (message buffer : List ℕ) → length message ≡ 65534 → length buffer ≡ 65537
    → frame_of message ++ drop (frame_length message) buffer ≡ 0xff ∷ 0xff ∷ 1 ∷ message
unfolding frame_of big_endian
filled message buffer m b =
    let nothing : drop (frame_length message) buffer ≡ [] = drop_of_length-le buffer {i = frame_length message} (omega arith) in
    ap (λ (l : List ℕ). frame_of message ++ l) nothing ∙ append-nil (frame_of message) ∙ ap (λ (n : ℕ). big_endian 2 (suc n) ++ (frame_type ∷ message)) m

pub longest-written : LongestWritten
longest-written =
    record {
      longest = λ message buffer m b.
          let all : frame_length message ≡ 65537 = omega arith in
          write_done message buffer (omega arith) (omega arith) ∙ rw (filled message buffer m b, all);
      short = λ message buffer m b. write-short message buffer (omega arith) (omega arith);
      too_long = λ message buffer m. write-long message buffer (omega arith);
    }
