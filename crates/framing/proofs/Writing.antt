-- The writer: what it answers exactly, and that what it writes is read back. Assumes nothing.
use Prim.Native.Nat.{ℕ, ◌+◌, ◌≤◌, ◌<◌}
use mathlib.Core.Path.{◌≡◌, refl, ap, ap₂, ◌∙◌}
use mathlib.Core.Logic.{⊎_elim}
use mathlib.Core.Bool.{true}
use mathlib.Core.Option.{some}
use mathlib.Core.List.{List, [], ◌∷◌, ◌++◌, append-nil, map, flatten}
use native.Mathlib.Omega.{arith}
use lib.Dec.{eqb}
use lib.Pow.{are_bytes}
use lib.ListN.{length, drop}
use lib.Seq.{take_at}
use borrow.Author.Tests.{lt-ltb, le-ltb, le-leb, lt-leb, eqb-true}
use Rattle.octets.specs.Octets.{put}
use Rattle.octets.proofs.Tests.{le-or-lt, both_left, both_right}
use Rattle.octets.proofs.Stores.{put_splice}
use Rattle.svsc.specs.Messages.{Message, encode, well_formed, decode}
use Rattle.svsc.specs.Writing.{emit}
use Rattle.svsc.proofs.WrittenThenRead.{decode-encode}
use Rattle.svsc.proofs.ReadThenWritten.{message-length}
use Rattle.framing.specs.Frames.{message_limit, frame_of, frame_length, all_fit, frames_of, start_of}
use Rattle.framing.specs.Streams.{within, Parsed, parse}
use Rattle.framing.specs.Reading.{fresh, starting, read_chunks, result}
use Rattle.framing.specs.Writing.{write_frame}
use Rattle.framing.specs.WritingClaims.{WriteClaims, Writing, all_taken, stream_of, all_well_formed, WritingClaims}
use Rattle.framing.proofs.Streams.{length-frame, parsed_back}
use Rattle.framing.proofs.Reading.{chunks_read, fresh_exactly}

-- ---- the three ways out

module _ (message buffer : List ℕ) where
  pub write-long : message_limit < length message → write_frame message buffer ≡ record { number = 6; length = 0; buffer = buffer }
  unfolding write_frame emit
  write-long l = rw (lt-leb (length message) message_limit l)

  module _ (f : length message ≤ message_limit) where
    pub write-short : length buffer < frame_length message → write_frame message buffer ≡ record { number = 5; length = 0; buffer = buffer }
    unfolding write_frame emit
    write-short l = rw (le-leb (length message) message_limit f, length-frame message, lt-ltb (length buffer) (frame_length message) l)

    pub write_done : frame_length message ≤ length buffer
        → write_frame message buffer ≡ record { number = 0; length = frame_length message; buffer = frame_of message ++ drop (frame_length message) buffer }
    unfolding write_frame emit
    write_done l =
        let size = length-frame message in
        let behind : 0 + length (frame_of message) ≡ frame_length message = omega arith in
        let stored : put buffer 0 (frame_of message) ≡ frame_of message ++ drop (frame_length message) buffer =
        put_splice buffer 0 (frame_of message) (omega arith) ∙ ap (λ (n : ℕ). frame_of message ++ drop n buffer) behind in
        rw (le-leb (length message) message_limit f, stored, size, le-ltb (length buffer) (frame_length message) l)

  writes : WriteClaims message buffer (write_frame message buffer)
  writes =
      ⊎_elim
      (λ f. ⊎_elim
      (λ l. rw (write_done f l)
      (record {
        too_long = ((λ e. absurd (omega arith)), (λ h. absurd (omega arith)));
        short = ((λ e. absurd (omega arith)), (λ h. absurd (omega arith)));
        done = ((λ e. (f, l)), (λ h. refl));
        refused = λ n. absurd (n refl);
        written = λ e. (refl, refl);
      }))
      (λ l. rw (write-short f l)
      (record {
        too_long = ((λ e. absurd (omega arith)), (λ h. absurd (omega arith)));
        short = ((λ e. (f, l)), (λ h. refl));
        done = ((λ e. absurd (omega arith)), (λ h. absurd (omega arith)));
        refused = λ n. (refl, refl);
        written = λ e. absurd (omega arith);
      }))
      (le-or-lt (frame_length message) (length buffer)))
      (λ l. rw (write-long l)
      (record {
        too_long = ((λ e. l), (λ h. refl));
        short = ((λ e. absurd (omega arith)), (λ h. absurd (omega arith)));
        done = ((λ e. absurd (omega arith)), (λ h. absurd (omega arith)));
        refused = λ n. (refl, refl);
        written = λ e. absurd (omega arith);
      }))
      (le-or-lt (length message) message_limit)

-- ---- read back

-- frames of any messages, cut anywhere
module _ (ms : List (List ℕ)) (f : all_fit ms ≡ true) (buffer : List ℕ) (chunks : List (List ℕ)) (room : message_limit ≤ length buffer)
    (b : are_bytes (flatten chunks) ≡ true) (e : flatten chunks ≡ frames_of ms) where
  frames_parsed : parse (flatten chunks) ≡ record { messages = ms; end = within 0 }
  unfolding parse start_of
  frames_parsed = rw e (rw append-nil at (parsed_back 0 ms [] (within 0) f (refl, refl)))

  frames_read : result (read_chunks (starting buffer) chunks) ≡ record { messages = ms; end = within 0 }
  frames_read = chunks_read buffer chunks room b ∙ frames_parsed

  frames_end : (read_chunks (starting buffer) chunks).state ≡ fresh
  frames_end = (fresh_exactly buffer chunks room b).0 (ap (λ (p : Parsed). p.end) frames_parsed)

-- what the writer makes is these frames
abbrev messages_of : List Writing → List (List ℕ)
messages_of ws = map (λ (w : Writing). w.message) ws

taken_fit : (ws : List Writing) → all_taken ws ≡ true → all_fit (messages_of ws) ≡ true
unfolding all_taken all_fit
taken_fit [] t = refl
taken_fit (w ∷ ws) t =
    let done = (writes w.message w.buffer).done.0 (eqb-true _ _ (both_left _ (all_taken ws) t)) in
    rw (le-leb (length w.message) message_limit done.0) (taken_fit ws (both_right (eqb (write_frame w.message w.buffer).number 0) _ t))

taken_frames : (ws : List Writing) → all_taken ws ≡ true → stream_of ws ≡ frames_of (messages_of ws)
unfolding all_taken stream_of frames_of
taken_frames [] t = refl
taken_frames (w ∷ ws) t =
    let m = w.message in
    let made = (writes m w.buffer).written (eqb-true _ _ (both_left _ (all_taken ws) t)) in
    rw (made.0, made.1, take_at (frame_of m) (drop (frame_length m) w.buffer) (frame_length m) (length-frame m))
    (ap (λ (l : List ℕ). frame_of m ++ l) (taken_frames ws (both_right (eqb (write_frame m w.buffer).number 0) _ t)))

-- messages of the protocol
encoded_fit : (xs : List Message) → all_well_formed xs ≡ true → all_fit (map encode xs) ≡ true
unfolding all_well_formed all_fit
encoded_fit [] t = refl
encoded_fit (x ∷ xs) t =
    let read : decode (encode x) ≡ some x = decode-encode x (both_left _ (all_well_formed xs) t) in
    rw (le-leb (length (encode x)) message_limit (message-length (encode x) x read)) (encoded_fit xs (both_right (well_formed x) _ t))

decoded_all : (xs : List Message) → all_well_formed xs ≡ true → map decode (map encode xs) ≡ map some xs
unfolding all_well_formed
decoded_all [] t = refl
decoded_all (x ∷ xs) t =
    ap₂ ◌∷◌ (decode-encode x (both_left _ (all_well_formed xs) t)) (decoded_all xs (both_right (well_formed x) _ t))

pub writing_claims : WritingClaims
writing_claims =
    record {
      writes = writes;
      read_back = λ ws buffer chunks room t b e.
          let frames = e ∙ taken_frames ws t in
          (frames_read (messages_of ws) (taken_fit ws t) buffer chunks room b frames, frames_end (messages_of ws) (taken_fit ws t) buffer chunks room b frames);
      carried = λ xs buffer chunks room t b e.
          ap (λ (p : Parsed). map decode p.messages) (frames_read (map encode xs) (encoded_fit xs t) buffer chunks room b e) ∙ decoded_all xs t;
    }
