-- The ways out of the writer, over plain values. Assumes nothing.
use Prim.Native.Nat.{ℕ, suc, ◌+◌, ◌/◌, ◌%◌, ◌^◌, ◌≤◌}
use mathlib.Core.Path.{◌≡◌, sym, ap, ◌∙◌}
use mathlib.Core.List.{List, [], ◌∷◌, ◌++◌, append_assoc}
use native.Mathlib.Omega.{arith}
use lib.ListN.{length, length-append}
use Rattle.octets.specs.Octets.{big_endian, put}
use Rattle.octets.proofs.Numbers.{length-big_endian}
use Rattle.octets.proofs.Stores.{put-behind}
use Rattle.svsc.proofs.Writing.{stored}
use Rattle.framing.specs.Frames.{message_limit, frame_of, frame_length, frame_type, fits}
use Rattle.framing.specs.Writing.{write_frame}
use Rattle.framing.proofs.Streams.{length-frame}
use borrow.Author.Tests.{le-leb}

-- what stands before a message
pub three-bytes : (length size : ℕ) → size ≡ length + 1
    → (size / 256 % 256) ∷ (size % 256) ∷ frame_type ∷ [] ≡ big_endian 2 (suc length) ++ (frame_type ∷ [])
unfolding big_endian
three-bytes length size e =
    let high : suc length / 256 ^ 1 % 256 ≡ size / 256 % 256 = omega arith in
    let low : suc length / 256 ^ 0 % 256 ≡ size % 256 = omega arith in
    rw (high, low)

-- the header, and the message behind it
pub frame-stored : (message buffer start with-header after : List ℕ) (n : ℕ) → length message ≤ message_limit → frame_length message ≤ length buffer
    → start ≡ big_endian 2 (suc (length message)) ++ (frame_type ∷ []) → with-header ≡ put buffer 0 start → after ≡ put with-header 3 message
    → n ≡ frame_length message → record { number = 0; length = n; buffer = after } ≡ write_frame message buffer
unfolding write_frame frame_of
frame-stored message buffer start with-header after n f l es ew ea en =
    let b = big_endian 2 (suc (length message)) in
    let three : length (b ++ (frame_type ∷ [])) ≡ 3 = length-append b (frame_type ∷ []) ∙ rw (length-big_endian 2 (suc (length message))) in
    let size = length-frame message in
    stored (frame_of message) buffer (fits message) (rw (le-leb (length message) message_limit f)) (omega arith) n after (en ∙ sym size)
    (ea ∙ rw (ew, es) (put-behind buffer 0 3 (b ++ (frame_type ∷ [])) message three ∙ ap (put buffer 0) (append_assoc b (frame_type ∷ []) message)))
