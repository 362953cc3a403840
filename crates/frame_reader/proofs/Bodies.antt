-- The two ways out of what reads a message, and that they are what a step does. Assumes nothing.
use Prim.Native.Nat.{ℕ, suc, ◌+◌, ◌-◌, ◌*◌, ◌/◌, ◌%◌, ◌^◌, ◌≤◌, ◌<◌}
use mathlib.Core.Path.{◌≡◌, ap, ◌∙◌}
use mathlib.Core.Logic.{◌≢◌, ⊎_elim}
use mathlib.Core.List.{List, ◌++◌}
use native.Mathlib.Omega.{arith}
use lib.ListN.{length, take, drop, length-append, length-take, length-drop, take-append-drop}
use lib.Seq.{length-take-le, take-append-add}
use borrow.Author.Tests.{lt-ltb, le-ltb}
use Rattle.octets.specs.Octets.{big_endian, part, put}
use Rattle.octets.proofs.Tests.{le-or-lt}
use Rattle.octets.proofs.Parts.{to_the_end}
use Rattle.octets.proofs.Stores.{put_splice, put-behind}
use Rattle.framing.specs.Frames.{message_limit, start_of}
use Rattle.framing.specs.Reading.{state, fresh, state_after, held, advance}
use Rattle.framing.proofs.Starts.{two_bytes, start_partly, start_entire}
use Rattle.frame_reader.specs.Bodies.{read_body}

module _ (taken size used : ℕ) (buffer chunk after : List ℕ) where
  pub body_partly : length chunk - used < size + 2 - taken → after ≡ put buffer (taken - 3) (take (length chunk - used) (drop used chunk))
      → record { number = 0; complete = 0; used = length chunk; length = 0; state = state (taken + (length chunk - used)) size; buffer = after }
      ≡ read_body taken size used buffer chunk
  unfolding read_body
  body_partly l e = rw (lt-ltb _ _ l, e, to_the_end chunk used)

  pub body_entire : size + 2 - taken ≤ length chunk - used
      → after ≡ put buffer (taken - 3) (take (used + (size + 2 - taken) - used) (drop used chunk))
      → record { number = 0; complete = 1; used = used + (size + 2 - taken); length = size - 1; state = fresh; buffer = after }
      ≡ read_body taken size used buffer chunk
  unfolding read_body part
  body_entire l e =
      let count : used + (size + 2 - taken) - used ≡ size + 2 - taken = omega arith in
      rw (le-ltb _ _ l, e, count)

-- what a buffer starts with, put there again with more behind it
put_more : (buffer bytes : List ℕ) (n : ℕ) → n ≤ length buffer → put buffer n bytes ≡ put buffer 0 (take n buffer ++ bytes)
put_more buffer bytes n l =
    let size : length (take n buffer) ≡ n = length-take-le n buffer l in
    let behind : 0 + length (take n buffer) ≡ n = omega arith in
    let start : 0 + n ≡ n = omega arith in
    let again : put buffer 0 (take n buffer) ≡ buffer =
    put_splice buffer 0 (take n buffer) (omega arith) ∙ ap (λ (k : ℕ). take n buffer ++ drop k buffer) behind ∙ take-append-drop n buffer in
    rw (again, start) at (put-behind buffer 0 n (take n buffer) bytes size)

-- the message's bytes that are there: n from before, and the chunk's from a place on
module _ (n size used taken : ℕ) (buffer chunk : List ℕ) (place : taken + used ≡ 3 + n) (frame : suc n ≤ size) (limit : size < 256 * 256)
    (there : used ≤ length chunk) (room : message_limit ≤ length buffer) where
  abbrev body : List ℕ
  body = take n buffer ++ drop used chunk

  abbrev bytes : List ℕ
  bytes = held (state (suc (suc (suc n))) size) buffer ++ drop used chunk

  abbrev high : ℕ
  high = size / 256 ^ 1 % 256

  abbrev low : ℕ
  low = size / 256 ^ 0 % 256

  before : length (take n buffer) ≡ n
  before = length-take-le n buffer (omega arith)

  body_length : length body ≡ n + (length chunk - used)
  body_length = omega (arith, length-append (take n buffer) (drop used chunk), length-drop used chunk, before)

  counted : high * 256 + low ≢ 0
  counted z = absurd (omega (arith, z, two_bytes size limit))

  more : suc (suc (suc n)) - 3 ≡ n
  more = omega arith

  partly_is : length chunk - used < size + 2 - suc (suc (suc n)) → read_body (suc (suc (suc n))) size used buffer chunk ≡ advance taken buffer bytes (start_of bytes)
  unfolding read_body held big_endian state_after
  partly_is l =
      let is = two_bytes size limit in
      let all : suc (suc (suc (length body))) - taken ≡ length chunk = omega (arith, body_length) in
      let count : suc (suc (suc (length body))) ≡ suc (suc (suc n)) + (length chunk - used) = omega (arith, body_length) in
      rw (
        start_partly high low counted body (omega (arith, body_length, is)),
        lt-ltb _ _ l,
        more,
        put_more buffer (drop used chunk) n (omega arith),
        all,
        count,
        is,
      )

  entire_is : size + 2 - suc (suc (suc n)) ≤ length chunk - used → read_body (suc (suc (suc n))) size used buffer chunk ≡ advance taken buffer bytes (start_of bytes)
  unfolding read_body held big_endian part
  entire_is l =
      let is = two_bytes size limit in
      let left = size + 2 - suc (suc (suc n)) in
      let size_is : high * 256 + low - 1 ≡ length (take n buffer) + left = omega (arith, before, is) in
      let taken_is : take (length (take n buffer) + left) body ≡ take n buffer ++ take left (drop used chunk) = take-append-add (take n buffer) (drop used chunk) left in
      let m = take n buffer ++ take left (drop used chunk) in
      let length-is : length m ≡ size - 1 =
      omega (arith, length-append (take n buffer) (take left (drop used chunk)), length-take left (drop used chunk), length-drop used chunk, before) in
      let all : 3 + (size - 1) - taken ≡ used + left = omega arith in
      rw (
        start_entire high low counted body (omega (arith, body_length, is)),
        le-ltb _ _ l,
        more,
        put_more buffer (take left (drop used chunk)) n (omega arith),
        size_is,
        taken_is,
        length-is,
        all,
      )

  pub body_is : read_body (suc (suc (suc n))) size used buffer chunk ≡ advance taken buffer bytes (start_of bytes)
  body_is = ⊎_elim entire_is partly_is (le-or-lt (size + 2 - suc (suc (suc n))) (length chunk - used))
