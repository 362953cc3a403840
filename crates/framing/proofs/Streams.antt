-- What a whole stream gives: what stands at each place decides, and all bytes are accounted for. Assumes nothing.
use Prim.Native.Nat.{ℕ, zero, suc, ◌+◌, ◌≤◌, ◌<◌}
use mathlib.Core.Path.{◌≡◌, refl, sym, ap, ◌∙◌}
use mathlib.Core.Logic.{◌↔◌}
use mathlib.Core.Bool.{true}
use mathlib.Core.List.{List, [], ◌∷◌, ◌++◌, append_assoc}
use native.Mathlib.Omega.{arith}
use native.Mathlib.Nat.{add-zero}
use lib.Pow.{are_bytes}
use lib.ListN.{length, drop, length-append, length-drop}
use lib.Seq.{drop_at}
use borrow.Author.Tests.{le-leb, leb-true}
use Rattle.octets.specs.Octets.{byte_at, big_endian}
use Rattle.octets.proofs.Tests.{both_left, both_right, bytes_drop, head_byte, tail_bytes}
use Rattle.octets.proofs.Numbers.{length-big_endian}
use Rattle.framing.specs.Frames.{message_limit, frame_of, frame_length, frame_type, fits, all_fit, frames_of, Start, begun, refused, whole, start_of}
use Rattle.framing.specs.Streams.{End, within, refused_after, Parsed, after, parse_start, parse_frames, parse_from}
use Rattle.framing.specs.StreamClaims.{Ends, Accounted}
use Rattle.framing.proofs.Starts.{whole_by, start-frame, frame-start}

-- ---- no count of frames limits a parse

same_rest : (at : ℕ) (bytes : List ℕ) (f g : List ℕ → Parsed) → ((m : List ℕ) → f m ≡ g m) → (s : Start) → parse_start at bytes f s ≡ parse_start at bytes g s
unfolding parse_start
same_rest at bytes f g e begun = refl
same_rest at bytes f g e (refused k) = refl
same_rest at bytes f g e (whole m) = ap (after m) (e m)

shorter : (m bytes : List ℕ) (n : ℕ) → length bytes ≤ suc n → length (drop (frame_length m) bytes) ≤ n
shorter m bytes n l = omega (arith, length-drop (frame_length m) bytes)

same_frames : (n k at : ℕ) (bytes : List ℕ) → length bytes ≤ n → length bytes ≤ k → parse_frames n at bytes ≡ parse_frames k at bytes
unfolding parse_frames parse_start start_of
same_frames zero zero at bytes h l = refl
same_frames zero (suc k) at [] h l = refl
same_frames zero (suc k) at (x ∷ xs) h l = absurd (omega arith)
same_frames (suc n) zero at [] h l = refl
same_frames (suc n) zero at (x ∷ xs) h l = absurd (omega arith)
same_frames (suc n) (suc k) at bytes h l =
    same_rest at bytes _ _ (λ m. same_frames n k _ (drop (frame_length m) bytes) (shorter m bytes n h) (shorter m bytes k l)) (start_of bytes)

-- what stands at a place decides what is parsed there
parse-is : (at : ℕ) (bytes : List ℕ)
    → parse_from at bytes ≡ parse_start at bytes (λ m. parse_from (at + frame_length m) (drop (frame_length m) bytes)) (start_of bytes)
unfolding parse_from parse_frames parse_start start_of
parse-is at [] = refl
parse-is at (x ∷ xs) =
    same_rest at (x ∷ xs) _ _
    (λ m. same_frames (length xs) (length (drop (frame_length m) (x ∷ xs))) _ (drop (frame_length m) (x ∷ xs)) (shorter m (x ∷ xs) (length xs) (omega arith)) (omega arith))
    (start_of (x ∷ xs))

module _ (at : ℕ) (bytes : List ℕ) where
  pub parse-begun : start_of bytes ≡ begun → parse_from at bytes ≡ record { messages = []; end = within (length bytes) }
  unfolding parse_start
  parse-begun e = parse-is at bytes ∙ rw e

  pub parse-refused : (k : ℕ) → start_of bytes ≡ refused k → parse_from at bytes ≡ record { messages = []; end = refused_after (at + k) }
  unfolding parse_start
  parse-refused k e = parse-is at bytes ∙ rw e

  pub parse-whole : (m : List ℕ) → start_of bytes ≡ whole m
      → parse_from at bytes ≡ after m (parse_from (at + frame_length m) (drop (frame_length m) bytes))
  unfolding parse_start
  parse-whole m e = parse-is at bytes ∙ rw e

-- ---- every byte is accounted for

pub length-frame : (m : List ℕ) → length (frame_of m) ≡ frame_length m
unfolding frame_of
length-frame m = length-append (big_endian 2 (suc (length m))) (frame_type ∷ m) ∙ rw (length-big_endian 2 (suc (length m))) (omega arith)

-- the length's bytes of a byte string
pub first_byte : (bytes : List ℕ) → are_bytes bytes ≡ true → byte_at bytes 0 < 256
first_byte [] b = omega arith
first_byte (x ∷ xs) b = head_byte x xs b

pub second_byte : (bytes : List ℕ) → are_bytes bytes ≡ true → byte_at bytes 1 < 256
second_byte [] b = omega arith
second_byte (x ∷ xs) b = first_byte xs (tail_bytes x xs b)

module _ (m : List ℕ) (f : fits m ≡ true) (rest : List ℕ) where
  pub frame_read : start_of (frame_of m ++ rest) ≡ whole m
  frame_read = start-frame m rest (leb-true _ _ f)

  frame_dropped : drop (frame_length m) (frame_of m ++ rest) ≡ rest
  frame_dropped = drop_at (frame_of m) rest (frame_length m) (length-frame m)

-- a rest that isn't a frame
ended : (at : ℕ) (rest : List ℕ) (e : End) → Ends at rest e → parse_from at rest ≡ record { messages = []; end = e }
ended at rest (within n) h = parse-begun at rest h.0 ∙ rw h.1
ended at rest (refused_after n) h = parse-refused at rest h.0 h.1 ∙ rw h.2

-- frames are parsed as their messages, whatever comes behind them
pub parsed_back : (at : ℕ) (ms : List (List ℕ)) (rest : List ℕ) (e : End) → all_fit ms ≡ true → Ends (at + length (frames_of ms)) rest e
    → parse_from at (frames_of ms ++ rest) ≡ record { messages = ms; end = e }
unfolding frames_of all_fit after
parsed_back at [] rest e f h = ended at rest e (rw (add-zero at) at h)
parsed_back at (m ∷ ms) rest e f h =
    let fm : fits m ≡ true = both_left _ _ f in
    let more = frames_of ms ++ rest in
    let place : at + length (frame_of m ++ frames_of ms) ≡ at + frame_length m + length (frames_of ms) = omega (arith, length-append (frame_of m) (frames_of ms), length-frame m) in
    rw (append_assoc (frame_of m) (frames_of ms) rest)
    (parse-whole at (frame_of m ++ more) m (frame_read m fm more)
    ∙ rw (frame_dropped m fm more) (ap (after m) (parsed_back (at + frame_length m) ms rest e (both_right (fits m) _ f) (rw place at h))))

-- one frame behind another
frames_place : (at : ℕ) (m : List ℕ) (ms : List (List ℕ)) → at + frame_length m + length (frames_of ms) ≡ at + length (frames_of (m ∷ ms))
unfolding frames_of
frames_place at m ms = omega (arith, length-append (frame_of m) (frames_of ms), length-frame m)

pub whole-fits : (bytes m : List ℕ) → are_bytes bytes ≡ true → start_of bytes ≡ whole m → fits m ≡ true
whole-fits bytes m b e =
    le-leb (length m) message_limit (omega (arith, (whole_by bytes m e).counted, first_byte bytes b, second_byte bytes b))

-- and every byte string is such frames with such a rest
by-start : (at : ℕ) (bytes : List ℕ) → are_bytes bytes ≡ true → (s : Start) → start_of bytes ≡ s
    → ((m : List ℕ) → Accounted (at + frame_length m) (drop (frame_length m) bytes) (parse_from (at + frame_length m) (drop (frame_length m) bytes)))
    → Accounted at bytes (parse_from at bytes)
unfolding frames_of all_fit after
by-start at bytes b begun e next = rw (parse-begun at bytes e) (record { rest = bytes; fitting = refl; stream = refl; ends = (e, refl) })
by-start at bytes b (refused k) e next =
    rw (parse-refused at bytes k e) (record { rest = bytes; fitting = refl; stream = refl; ends = (k, e, omega arith) })
by-start at bytes b (whole m) e next =
    let a = next m in
    rw (parse-whole at bytes m e)
    (record {
      rest = a.rest;
      fitting = rw (whole-fits bytes m b e) a.fitting;
      stream =
          frame-start bytes m (first_byte bytes b) (second_byte bytes b) e
          ∙ ap (λ (l : List ℕ). frame_of m ++ l) a.stream
          ∙ sym (append_assoc (frame_of m) (frames_of (parse_from (at + frame_length m) (drop (frame_length m) bytes)).messages) a.rest);
      ends = rw (frames_place at m _) at a.ends;
    })

accounted : (n at : ℕ) (bytes : List ℕ) → are_bytes bytes ≡ true → length bytes ≤ n → Accounted at bytes (parse_from at bytes)
unfolding frames_of all_fit start_of
accounted zero at [] b l = rw (parse-begun at [] refl) (record { rest = []; fitting = refl; stream = refl; ends = (refl, refl) })
accounted zero at (x ∷ xs) b l = absurd (omega arith)
accounted (suc n) at bytes b l =
    by-start at bytes b (start_of bytes) refl
    (λ m. accounted n (at + frame_length m) (drop (frame_length m) bytes) (bytes_drop (frame_length m) bytes b) (shorter m bytes n l))

pub parsed_exactly : (at : ℕ) (bytes : List ℕ) (p : Parsed) → are_bytes bytes ≡ true → (parse_from at bytes ≡ p) ↔ Accounted at bytes p
parsed_exactly at bytes p b = (
  λ e. rw e at (accounted (length bytes) at bytes b (omega arith)),
  λ a. rw a.stream (parsed_back at p.messages a.rest p.end a.fitting a.ends),
)
