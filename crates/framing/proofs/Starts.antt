-- The start of a stream: what the bytes there can be, and that more bytes don't change what is settled. Assumes nothing.
use Prim.Native.Nat.{ℕ, suc, ◌+◌, ◌-◌, ◌*◌, ◌/◌, ◌%◌, ◌^◌, ◌≤◌, ◌<◌}
use mathlib.Core.Path.{◌≡◌, refl, sym, ap, ◌∙◌}
use mathlib.Core.Logic.{◌≢◌, ◌⊎◌, inl, inr, ⊎_elim}
use mathlib.Core.List.{List, [], ◌∷◌, ◌++◌}
use native.Mathlib.Omega.{arith}
use lib.Dec.{eqb}
use lib.ListN.{length, take, drop, length-append, take-append-drop}
use lib.Seq.{take-append-le, take_at, length-take-le, drop-drop}
use borrow.Author.Tests.{eqb-true, eqb-false, eq-eqb, ne_eqb, lt-ltb, le-ltb}
use Rattle.octets.specs.Octets.{byte_at, number, number_from, big_endian}
use Rattle.octets.proofs.Tests.{by_test, le-or-lt}
use Rattle.octets.proofs.Numbers.{number-big_endian}
use Rattle.framing.specs.StreamClaims.{size_of, RefusedBy}
use Rattle.framing.specs.Frames.{message_limit, frame_of, frame_length, frame_type, begun, refused, whole, start_of_message, start_of_type, start_of}

-- ---- the forms that bytes at the start have

pub data Form : List ℕ → Type 0 where
  none : Form []
  one : (high : ℕ) → Form (high ∷ [])
  empty : (high low : ℕ) (bytes : List ℕ) → high * 256 + low ≡ 0 → Form (high ∷ low ∷ bytes)
  two : (high low : ℕ) → high * 256 + low ≢ 0 → Form (high ∷ low ∷ [])
  untyped : (high low type : ℕ) (bytes : List ℕ) → high * 256 + low ≢ 0 → type ≢ frame_type → Form (high ∷ low ∷ type ∷ bytes)
  partly : (high low : ℕ) (bytes : List ℕ) → high * 256 + low ≢ 0 → length bytes < high * 256 + low - 1 → Form (high ∷ low ∷ frame_type ∷ bytes)
  entire : (high low : ℕ) (bytes : List ℕ) → high * 256 + low ≢ 0 → high * 256 + low - 1 ≤ length bytes → Form (high ∷ low ∷ frame_type ∷ bytes)

pub form : (bytes : List ℕ) → Form bytes
form [] = none
form (high ∷ []) = one high
form (high ∷ low ∷ bytes) = ⊎_elim (λ e. empty high low bytes (eqb-true _ _ e)) (λ e. counted (eqb-false _ _ e) bytes) (by_test (eqb (high * 256 + low) 0))
  where
    typed : (ne : high * 256 + low ≢ 0) (bytes : List ℕ) → Form (high ∷ low ∷ frame_type ∷ bytes)
    typed ne bytes = ⊎_elim (λ l. entire high low bytes ne l) (λ l. partly high low bytes ne l) (le-or-lt (high * 256 + low - 1) (length bytes))

    counted : high * 256 + low ≢ 0 → (bytes : List ℕ) → Form (high ∷ low ∷ bytes)
    counted ne [] = two high low ne
    counted ne (type ∷ bytes) =
        ⊎_elim
        (λ e. rw (eqb-true type frame_type e) (typed ne bytes))
        (λ e. untyped high low type bytes ne (eqb-false _ _ e))
        (by_test (eqb type frame_type))

-- ---- what each is

module _ (high low : ℕ) where
  pub start_empty : (bytes : List ℕ) → high * 256 + low ≡ 0 → start_of (high ∷ low ∷ bytes) ≡ refused 2
  unfolding start_of
  start_empty bytes e = rw (eq-eqb _ _ e)

  module _ (ne : high * 256 + low ≢ 0) where
    pub start-two : start_of (high ∷ low ∷ []) ≡ begun
    unfolding start_of start_of_type
    start-two = rw (ne_eqb _ _ ne)

    pub start_untyped : (type : ℕ) (bytes : List ℕ) → type ≢ frame_type → start_of (high ∷ low ∷ type ∷ bytes) ≡ refused 3
    unfolding start_of start_of_type
    start_untyped type bytes n = rw (ne_eqb _ _ ne, ne_eqb _ _ n)

    pub start_partly : (bytes : List ℕ) → length bytes < high * 256 + low - 1 → start_of (high ∷ low ∷ frame_type ∷ bytes) ≡ begun
    unfolding start_of start_of_type start_of_message
    start_partly bytes l = rw (ne_eqb _ _ ne, lt-ltb _ _ l)

    pub start_entire : (bytes : List ℕ) → high * 256 + low - 1 ≤ length bytes
        → start_of (high ∷ low ∷ frame_type ∷ bytes) ≡ whole (take (high * 256 + low - 1) bytes)
    unfolding start_of start_of_type start_of_message
    start_entire bytes l = rw (ne_eqb _ _ ne, le-ltb _ _ l)

-- ---- what is settled stays, whatever comes behind

pub settled : (a b : List ℕ) → (start_of a ≡ begun) ⊎ (start_of (a ++ b) ≡ start_of a)
unfolding start_of
settled a b = go (form a)
  where
    go : {a : List ℕ} → Form a → (start_of a ≡ begun) ⊎ (start_of (a ++ b) ≡ start_of a)
    go none = inl refl
    go (one high) = inl refl
    go (empty high low bytes e) = inr (start_empty high low (bytes ++ b) e ∙ sym (start_empty high low bytes e))
    go (two high low ne) = inl (start-two high low ne)
    go (untyped high low type bytes ne n) = inr (start_untyped high low ne type (bytes ++ b) n ∙ sym (start_untyped high low ne type bytes n))
    go (partly high low bytes ne l) = inl (start_partly high low ne bytes l)
    go (entire high low bytes ne l) =
        let longer : high * 256 + low - 1 ≤ length (bytes ++ b) = simp length-append (omega arith) in
        inr (start_entire high low ne (bytes ++ b) longer ∙ ap whole (take-append-le _ bytes b l) ∙ sym (start_entire high low ne bytes l))

-- ---- and what it says of the bytes

pub never : {A : Type 0} → ◌≡◌ {A = ℕ} 0 1 → A
never z = absurd (omega arith)

pub refused-by : (b : List ℕ) (k : ℕ) → start_of b ≡ refused k → RefusedBy b k
unfolding start_of
refused-by b k = go (form b)
  where
    go : {b : List ℕ} → Form b → start_of b ≡ refused k → RefusedBy b k
    go none e = never (cc)
    go (one high) e = never (cc)
    go (empty high low bytes z) e = let s = start_empty high low bytes z in inl (cc, omega arith, z)
    go (two high low ne) e = never (cc (start-two high low ne))
    go (untyped high low type bytes ne n) e = let s = start_untyped high low ne type bytes n in inr (cc, omega arith, ne, n)
    go (partly high low bytes ne l) e = never (cc (start_partly high low ne bytes l))
    go (entire high low bytes ne l) e = never (cc (start_entire high low ne bytes l))

-- a frame is whole if the length is not 0, the type is 1, and the bytes that it counts are there
pub record Whole (b message : List ℕ) : Type 0 where
  pub counted : size_of b ≡ suc (length message)
  pub typed : byte_at b 2 ≡ frame_type
  pub there : frame_length message ≤ length b
  pub message_is : message ≡ take (length message) (drop 3 b)

pub whole_by : (b message : List ℕ) → start_of b ≡ whole message → Whole b message
unfolding start_of
whole_by b message = go (form b)
  where
    go : {b : List ℕ} → Form b → start_of b ≡ whole message → Whole b message
    go none e = never (cc)
    go (one high) e = never (cc)
    go (empty high low bytes z) e = never (cc (start_empty high low bytes z))
    go (two high low ne) e = never (cc (start-two high low ne))
    go (untyped high low type bytes ne n) e = never (cc (start_untyped high low ne type bytes n))
    go (partly high low bytes ne l) e = never (cc (start_partly high low ne bytes l))
    go (entire high low bytes ne l) e =
        let s = start_entire high low ne bytes l in
        let is : message ≡ take (high * 256 + low - 1) bytes = cc in
        let size : length message ≡ high * 256 + low - 1 = ap length is ∙ length-take-le _ bytes l in
        record { counted = omega arith; typed = refl; there = omega arith; message_is = is ∙ rw (← size) }

-- the beginning of a frame has fewer bytes than what settles it
module _ (b : List ℕ) where
  pub more_refused : (a : List ℕ) (k : ℕ) → start_of a ≡ begun → start_of (a ++ b) ≡ refused k → length a < k
  more_refused a k = go (form a)
    where
      go : {a : List ℕ} → Form a → start_of a ≡ begun → start_of (a ++ b) ≡ refused k → length a < k
      go none p e = ⊎_elim (λ r. omega arith) (λ r. omega arith) (refused-by b k e)
      go (one high) p e = ⊎_elim (λ r. omega arith) (λ r. omega arith) (refused-by (high ∷ b) k e)
      go (empty high low bytes z) p e = never (cc (start_empty high low bytes z))
      go (two high low ne) p e = ⊎_elim (λ r. absurd (ne r.2)) (λ r. omega arith) (refused-by (high ∷ low ∷ b) k e)
      go (untyped high low type bytes ne n) p e = never (cc (start_untyped high low ne type bytes n))
      go (partly high low bytes ne l) p e =
          ⊎_elim (λ r. absurd (ne r.2)) (λ r. absurd (r.3 refl)) (refused-by (high ∷ low ∷ frame_type ∷ (bytes ++ b)) k e)
      go (entire high low bytes ne l) p e = never (cc (start_entire high low ne bytes l))

  pub more_whole : (a message : List ℕ) → start_of a ≡ begun → start_of (a ++ b) ≡ whole message → length a < frame_length message
  more_whole a message = go (form a)
    where
      go : {a : List ℕ} → Form a → start_of a ≡ begun → start_of (a ++ b) ≡ whole message → length a < frame_length message
      go none p e = omega arith
      go (one high) p e = omega arith
      go (empty high low bytes z) p e = never (cc (start_empty high low bytes z))
      go (two high low ne) p e = omega arith
      go (untyped high low type bytes ne n) p e = never (cc (start_untyped high low ne type bytes n))
      go (partly high low bytes ne l) p e = omega (arith, (whole_by (high ∷ low ∷ frame_type ∷ (bytes ++ b)) message e).counted)
      go (entire high low bytes ne l) p e = never (cc (start_entire high low ne bytes l))

-- ---- frames

-- two bytes for a number of two
pub two_bytes : (n : ℕ) → n < 256 * 256 → n / 256 ^ 1 % 256 * 256 + n / 256 ^ 0 % 256 ≡ n
unfolding number number_from big_endian
two_bytes n l = omega (arith, number-big_endian 2 n l)

-- a frame is read as its message, whatever comes behind it
pub start-frame : (message rest : List ℕ) → length message ≤ message_limit → start_of (frame_of message ++ rest) ≡ whole message
unfolding frame_of big_endian
start-frame message rest l =
    let n = suc (length message) in
    let is : n / 256 ^ 1 % 256 * 256 + n / 256 ^ 0 % 256 ≡ n = two_bytes n (omega arith) in
    let longer : n / 256 ^ 1 % 256 * 256 + n / 256 ^ 0 % 256 - 1 ≤ length (message ++ rest) = omega (arith, length-append message rest) in
    let size : n / 256 ^ 1 % 256 * 256 + n / 256 ^ 0 % 256 - 1 ≡ length message = omega arith in
    start_entire _ _ (λ z. absurd (omega arith)) (message ++ rest) longer ∙ rw size (ap whole (take_at message rest (length message) refl))

-- and back
module _ (high low : ℕ) (h : high < 256) (l : low < 256) where
  pub high_is : (high * 256 + low) / 256 ^ 1 % 256 ≡ high
  high_is = omega arith

  pub low_is : (high * 256 + low) / 256 ^ 0 % 256 ≡ low
  low_is = omega arith

  bytes-two : big_endian 2 (high * 256 + low) ≡ high ∷ low ∷ []
  unfolding big_endian
  bytes-two = rw (high_is, low_is)

-- and what is read as a message is its frame, where the length's two bytes are bytes
pub frame-start : (b message : List ℕ) → byte_at b 0 < 256 → byte_at b 1 < 256 → start_of b ≡ whole message
    → b ≡ frame_of message ++ drop (frame_length message) b
unfolding frame_of
frame-start b message h l e = go (form b) h l (whole_by b message e)
  where
    go : {b : List ℕ} → Form b → byte_at b 0 < 256 → byte_at b 1 < 256 → Whole b message → b ≡ frame_of message ++ drop (frame_length message) b
    go none h l w = absurd (omega (arith, w.there))
    go (one high) h l w = absurd (omega (arith, w.there))
    go (empty high low bytes z) h l w = absurd (omega (arith, w.counted))
    go (two high low ne) h l w = absurd (omega (arith, w.there))
    go (untyped high low type bytes ne n) h l w = absurd (n w.typed)
    go (partly high low bytes ne p) h l w = absurd (omega (arith, w.there, w.counted))
    go (entire high low bytes ne p) h l w =
        let b = high ∷ low ∷ frame_type ∷ bytes in
        rw (← w.counted, bytes-two high low h l, ← drop-drop (length message) 3 b)
        (ap (λ (l : List ℕ). high ∷ low ∷ frame_type ∷ l)
        (sym (take-append-drop (length message) bytes) ∙ ap (λ (l : List ℕ). l ++ drop (length message) bytes) (sym w.message_is)))
