-- The states of a reader: which are valid, and that state and buffer have what was taken of a frame. Assumes nothing.
use Prim.Native.Nat.{ℕ, zero, suc, ◌+◌, ◌*◌, ◌/◌, ◌%◌, ◌^◌, ◌≤◌, ◌<◌}
use mathlib.Core.Path.{◌≡◌, refl, sym, ap}
use mathlib.Core.Bool.{true, false, true≢false, ◌&&◌}
use mathlib.Core.List.{List, ◌∷◌}
use native.Mathlib.Omega.{arith}
use lib.Dec.{eqb, ltb, leb}
use lib.ListN.{length, take, drop}
use lib.Seq.{length-take-le}
use borrow.Author.Tests.{eqb-true, eq-eqb, ne_eqb, lt-ltb, ltb-true, leb-true, le-leb}
use Rattle.octets.specs.Octets.{byte_at, big_endian, part, put}
use Rattle.octets.proofs.Tests.{both_left, both_right, either}
use Rattle.octets.proofs.Stores.{part-put}
use Rattle.framing.specs.Frames.{message_limit, frame_type, begun, start_of}
use Rattle.framing.specs.Reading.{state, is_valid, state_after, held}
use Rattle.framing.proofs.Starts.{Form, none, one, empty, two, untyped, partly, entire, form, start_empty, start-two, start_untyped, start_partly, start_entire, two_bytes, high_is, low_is, never}

-- ---- the forms of a valid state

pub data Valid : (taken size : ℕ) → Type 0 where
  at_start : Valid 0 0
  after_one : (high : ℕ) → high < 256 → Valid 1 (high * 256)
  after_two : (more size : ℕ) → 1 ≤ size → size < 256 * 256 → more < size → Valid (suc (suc more)) size

-- a state that is taken as valid has one of them
pub valid_only : (taken size : ℕ) → is_valid (state taken size) ≡ true → Valid taken size
unfolding is_valid
valid_only zero zero e = at_start
valid_only zero (suc size) e = absurd (true≢false (sym (rw (ne_eqb (suc size) 0 (λ z. absurd (omega arith))) at e)))
valid_only (suc zero) size e =
    let both : ltb size (256 * 256) && eqb (size % 256) 0 ≡ true =
    either (ltb size (256 * 256) && eqb (size % 256) 0) false e _ (λ t. t) (λ f. absurd (true≢false (sym f))) in
    let below : size < 256 * 256 = ltb-true _ _ (both_left _ _ both) in
    let times : size % 256 ≡ 0 = eqb-true _ _ (both_right (ltb size (256 * 256)) _ both) in
    let is : size / 256 * 256 ≡ size = omega arith in
    rw is at (after_one (size / 256) (omega arith))
valid_only (suc (suc more)) size e =
    let last : leb 2 (suc (suc more)) && leb 1 size && ltb size (256 * 256) && ltb (suc (suc more)) (size + 2) ≡ true =
    rw (ne_eqb (suc (suc more)) 0 (λ z. absurd (omega arith)), ne_eqb (suc (suc more)) 1 (λ z. absurd (omega arith))) at e in
    let three : leb 2 (suc (suc more)) && leb 1 size && ltb size (256 * 256) ≡ true = both_left _ _ last in
    let counted : leb 2 (suc (suc more)) && leb 1 size ≡ true = both_left _ _ three in
    let below : suc (suc more) < size + 2 = ltb-true _ _ (both_right (leb 2 (suc (suc more)) && leb 1 size && ltb size (256 * 256)) _ last) in
    after_two more size
    (leb-true _ _ (both_right (leb 2 (suc (suc more))) _ counted))
    (ltb-true _ _ (both_right (leb 2 (suc (suc more)) && leb 1 size) _ three))
    (omega arith)

-- and each of them is
pub valid_taken : {taken size : ℕ} → Valid taken size → is_valid (state taken size) ≡ true
unfolding is_valid
valid_taken at_start = refl
valid_taken (after_one high h) = rw (lt-ltb (high * 256) (256 * 256) (omega arith), eq-eqb (high * 256 % 256) 0 (omega arith))
valid_taken (after_two more size p l m) =
    rw (
      ne_eqb (suc (suc more)) 0 (λ z. absurd (omega arith)),
      ne_eqb (suc (suc more)) 1 (λ z. absurd (omega arith)),
      le-leb 2 (suc (suc more)) (omega arith),
      le-leb 1 size p,
      lt-ltb size (256 * 256) l,
      lt-ltb (suc (suc more)) (size + 2) (omega arith),
    )

-- ---- what was taken of a frame, and the state and the buffer that keep it

-- a valid state has the beginning of a frame, of as many bytes as it says, and it is the state after them
pub record Begins (taken size : ℕ) (buffer : List ℕ) : Type 0 where
  pub begins : start_of (held (state taken size) buffer) ≡ begun
  pub count : length (held (state taken size) buffer) ≡ taken
  pub back : state_after (held (state taken size) buffer) ≡ state taken size
  pub high_byte : byte_at (held (state taken size) buffer) 0 < 256
  pub low_byte : byte_at (held (state taken size) buffer) 1 < 256

pub held-begins : {taken size : ℕ} → Valid taken size → (buffer : List ℕ) → message_limit ≤ length buffer → Begins taken size buffer
unfolding held big_endian start_of state_after
held-begins at_start buffer fits = record { begins = refl; count = refl; back = refl; high_byte = omega arith; low_byte = omega arith }
held-begins (after_one high h) buffer fits =
    let is : high * 256 / 256 ^ 1 % 256 ≡ high = omega arith in
    record { begins = refl; count = refl; back = rw is; high_byte = omega arith; low_byte = omega arith }
held-begins (after_two zero size p l m) buffer fits =
    let is = two_bytes size l in
    record { begins = start-two (size / 256 ^ 1 % 256) (size / 256 ^ 0 % 256) (λ z. absurd (omega (arith, z, is))); count = refl; back = rw is; high_byte = omega arith; low_byte = omega arith }
held-begins (after_two (suc more) size p l m) buffer fits =
    let is = two_bytes size l in
    let count : length (take more buffer) ≡ more = length-take-le more buffer (omega arith) in
    record {
      begins = start_partly (size / 256 ^ 1 % 256) (size / 256 ^ 0 % 256) (λ z. absurd (omega (arith, z, is))) (take more buffer) (omega arith);
      count = rw count;
      back = rw (count, is);
      high_byte = omega arith;
      low_byte = omega arith;
    }

-- The beginning of a frame, whose length's two bytes are bytes, leaves a valid state, and state and buffer have it all.
pub record Kept (b buffer : List ℕ) : Type 0 where
  pub valid : Valid (state_after b).taken (state_after b).size
  pub same : held (state_after b) (put buffer 0 (drop 3 b)) ≡ b

pub begun_kept : (b buffer : List ℕ) → message_limit ≤ length buffer → byte_at b 0 < 256 → byte_at b 1 < 256 → start_of b ≡ begun → Kept b buffer
unfolding held big_endian state_after start_of part
begun_kept b buffer fits = go (form b)
  where
    go : {b : List ℕ} → Form b → byte_at b 0 < 256 → byte_at b 1 < 256 → start_of b ≡ begun → Kept b buffer
    go none h l e = record { valid = at_start; same = refl }
    go (one high) h l e =
        let is : high * 256 / 256 ^ 1 % 256 ≡ high = omega arith in
        record { valid = after_one high h; same = rw is }
    go (empty high low bytes z) h l e = never (cc (start_empty high low bytes z))
    go (two high low ne) h l e = record { valid = after_two 0 (high * 256 + low) (omega arith) (omega arith) (omega arith); same = rw (high_is high low h l, low_is high low h l) }
    go (untyped high low type bytes ne n) h l e = never (cc (start_untyped high low ne type bytes n))
    go (partly high low bytes ne p) h l e =
        record {
          valid = after_two (suc (length bytes)) (high * 256 + low) (omega arith) (omega arith) (omega arith);
          same = rw (high_is high low h l, low_is high low h l) (ap (λ (l : List ℕ). high ∷ low ∷ frame_type ∷ l) (part-put buffer 0 bytes (omega arith)));
        }
    go (entire high low bytes ne p) h l e = never (cc (start_entire high low ne bytes p))
