-- A frame in numbers, and what stands at the start of a byte string, exactly. Assumes nothing.
use Prim.Native.Nat.{ℕ, suc, ◌+◌, ◌-◌, ◌*◌, ◌/◌, ◌%◌, ◌^◌, ◌≤◌, ◌<◌}
use mathlib.Core.Path.{◌≡◌, refl, sym, ap, ◌∙◌}
use mathlib.Core.Logic.{⊎_elim}
use mathlib.Core.Bool.{true}
use mathlib.Core.List.{List, [], ◌∷◌, ◌++◌, append-nil}
use native.Mathlib.Omega.{arith}
use lib.Pow.{are_bytes}
use lib.ListN.{length, drop, replicate, length-append, length-replicate}
use borrow.Author.Tests.{leb-true, le-leb}
use Rattle.octets.specs.Octets.{byte_at, big_endian}
use Rattle.framing.specs.Frames.{message_limit, frame_of, frame_length, frame_type, begun, refused, whole, start_of}
use Rattle.framing.specs.StreamClaims.{Layout, RefusedBy, Begins, Starts}
use Rattle.framing.proofs.Starts.{Form, none, one, empty, two, untyped, partly, entire, form, start_empty, start_untyped, start_entire, settled, refused-by, whole_by, frame-start, high_is, low_is, never}
use Rattle.framing.proofs.Streams.{length-frame, first_byte, second_byte, frame_read, whole-fits}

-- a frame in numbers
pub layout : (message : List ℕ) → Layout message
unfolding frame_of big_endian
layout message =
    record { fitting = (leb-true (length message) 65534, le-leb (length message) 65534); bytes = in_numbers }
  where
    in_numbers : length message ≤ 65534 → frame_of message ≡ ((length message + 1) / 256) ∷ ((length message + 1) % 256) ∷ 1 ∷ message
    in_numbers l =
        let high : suc (length message) / 256 ^ 1 % 256 ≡ (length message + 1) / 256 = omega arith in
        let low : suc (length message) / 256 ^ 0 % 256 ≡ (length message + 1) % 256 = omega arith in
        rw (high, low)

-- a length of 0, or another type, is refused
refuses : (bytes : List ℕ) (k : ℕ) → RefusedBy bytes k → start_of bytes ≡ refused k
refuses [] k r = absurd (⊎_elim (λ z. omega arith) (λ t. omega arith) r)
refuses (high ∷ []) k r = absurd (⊎_elim (λ z. omega arith) (λ t. omega arith) r)
refuses (high ∷ low ∷ []) k r = ⊎_elim (λ z. rw z.0 (start_empty high low [] z.2)) (λ t. absurd (omega arith)) r
refuses (high ∷ low ∷ type ∷ bytes) k r =
    ⊎_elim (λ z. rw z.0 (start_empty high low (type ∷ bytes) z.2)) (λ t. rw t.0 (start_untyped high low t.2 type bytes t.3)) r

-- what begins a frame goes on with zeros
goes_on : (bytes : List ℕ) → byte_at bytes 0 < 256 → byte_at bytes 1 < 256 → start_of bytes ≡ begun → Begins bytes
unfolding frame_of big_endian
goes_on bytes = go (form bytes)
  where
    zeros : ℕ → List ℕ
    zeros n = replicate n 0

    made : (high low : ℕ) (m : List ℕ) → high < 256 → low < 256 → suc (length m) ≡ high * 256 + low → frame_of m ≡ high ∷ low ∷ frame_type ∷ m
    made high low m h l e = rw (e, high_is high low h l, low_is high low h l)

    go : {bytes : List ℕ} → Form bytes → byte_at bytes 0 < 256 → byte_at bytes 1 < 256 → start_of bytes ≡ begun → Begins bytes
    go none h l e = record { message = []; rest = frame_of []; fitting = refl; further = omega arith; goes_on = refl }
    go (one high) h l e =
        let m = zeros (high * 256) in
        let count : length m ≡ high * 256 = length-replicate (high * 256) 0 in
        record {
          message = m;
          rest = 1 ∷ frame_type ∷ m;
          fitting = le-leb (length m) message_limit (omega arith);
          further = omega arith;
          goes_on = sym (made high 1 m h (omega arith) (omega arith));
        }
    go (empty high low bytes z) h l e = never (cc (start_empty high low bytes z))
    go (two high low ne) h l e =
        let m = zeros (high * 256 + low - 1) in
        let count : length m ≡ high * 256 + low - 1 = length-replicate (high * 256 + low - 1) 0 in
        record {
          message = m;
          rest = frame_type ∷ m;
          fitting = le-leb (length m) message_limit (omega arith);
          further = omega arith;
          goes_on = sym (made high low m h l (omega arith));
        }
    go (untyped high low type bytes ne n) h l e = never (cc (start_untyped high low ne type bytes n))
    go (partly high low bytes ne p) h l e =
        let more = zeros (high * 256 + low - 1 - length bytes) in
        let left : length more ≡ high * 256 + low - 1 - length bytes = length-replicate (high * 256 + low - 1 - length bytes) 0 in
        let count : length (bytes ++ more) ≡ high * 256 + low - 1 = omega (arith, length-append bytes more) in
        record {
          message = bytes ++ more;
          rest = more;
          fitting = le-leb (length (bytes ++ more)) message_limit (omega arith);
          further = omega arith;
          goes_on = sym (made high low (bytes ++ more) h l (omega arith));
        }
    go (entire high low bytes ne p) h l e = never (cc (start_entire high low ne bytes p))

-- and what a frame goes on from is no more than its beginning
begins : (bytes : List ℕ) → Begins bytes → start_of bytes ≡ begun
begins bytes b = ⊎_elim (λ e. e) (λ same. absurd (shorter (sym same ∙ read))) (settled bytes b.rest)
  where
    read : start_of (bytes ++ b.rest) ≡ whole b.message
    read = rw b.goes_on (rw append-nil at (frame_read b.message b.fitting []))

    shorter : start_of bytes ≡ whole b.message → ⊥
    shorter e =
        let all : length (bytes ++ b.rest) ≡ frame_length b.message = ap length b.goes_on ∙ length-frame b.message in
        omega (arith, all, length-append bytes b.rest, (whole_by bytes b.message e).there, b.further)

pub starts-exactly : (bytes : List ℕ) → are_bytes bytes ≡ true → Starts bytes
starts-exactly bytes b =
    record {
      whole_exactly = λ m. (
        λ e. (whole-fits bytes m b e, (drop (frame_length m) bytes, frame-start bytes m (first_byte bytes b) (second_byte bytes b) e)),
        λ f. rw f.1.1 (frame_read m f.0 f.1.0),
      );
      begun_exactly = (goes_on bytes (first_byte bytes b) (second_byte bytes b), begins bytes);
      refused_exactly = λ k. (refused-by bytes k, refuses bytes k);
    }
