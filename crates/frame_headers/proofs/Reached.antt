-- What a header's bytes make of the stream: the state that they reach has them, or they are refused. Assumes nothing.
use Prim.Native.Nat.{ℕ, zero, suc, ◌+◌, ◌*◌, ◌/◌, ◌%◌, ◌^◌, ◌≤◌, ◌<◌}
use mathlib.Core.Path.{◌≡◌, refl, ◌∙◌}
use mathlib.Core.Logic.{◌⊎◌, inl, inr, ⊎_elim}
use mathlib.Core.Bool.{true}
use mathlib.Core.List.{List, [], ◌∷◌, ◌++◌}
use native.Mathlib.Omega.{arith}
use lib.Dec.{eqb}
use lib.Pow.{are_bytes}
use lib.ListN.{length, drop}
use borrow.Author.Tests.{eqb-true, eqb-false}
use Rattle.std.specs.Prelude.{Ok, Err}
use Rattle.octets.specs.Octets.{big_endian}
use Rattle.octets.proofs.Tests.{by_test, head_byte, tail_bytes}
use Rattle.framing.specs.Frames.{frame_type, refused, start_of}
use Rattle.framing.specs.Reading.{state, held}
use Rattle.framing.proofs.Starts.{start_empty, start_untyped, two_bytes, high_is, low_is}
use Rattle.framing.proofs.States.{Valid, at_start, after_one, after_two}
use Rattle.frame_headers.specs.declared.Header.{Header}
use Rattle.frame_headers.specs.Headers.{Read, behind, read_type, read_low, read_high, read_header}
use Rattle.frame_headers.proofs.Headers.{from-header}

module _ (buffer : List ℕ) where
  -- from a state, with a chunk, a header was read
  pub record Reached (taken size : ℕ) (chunk : List ℕ) (h : Header) : Type 0 where
    pub place : h.used ≤ length chunk
    pub count : h.state.taken ≡ taken + h.used
    pub same : held (state h.state.taken h.state.size) buffer ++ drop h.used chunk ≡ held (state taken size) buffer ++ chunk
    -- all of the chunk, or all of the header
    pub so_far : ((h.state.taken < 3) × (h.used ≡ length chunk) × Valid h.state.taken h.state.size)
        ⊎ ((3 ≤ h.state.taken) × (h.state.taken ≤ h.state.size + 2) × (h.state.size < 256 * 256))

  abbrev pub ReadOrRefused : (taken size : ℕ) (chunk : List ℕ) → Read → Type 0
  ReadOrRefused taken size chunk (Ok h) = Reached taken size chunk h
  ReadOrRefused taken size chunk (Err bad) = start_of (held (state taken size) buffer ++ chunk) ≡ refused (taken + bad.used)

  -- one byte before it
  one-before : (taken size size' x : ℕ) (rest : List ℕ) (r : Read)
      → held (state (suc taken) size') buffer ++ rest ≡ held (state taken size) buffer ++ (x ∷ rest)
      → ReadOrRefused (suc taken) size' rest r → ReadOrRefused taken size (x ∷ rest) (behind r)
  one-before taken size size' x rest (Err bad) e r = let k : taken + (1 + bad.used) ≡ suc taken + bad.used = omega arith in rw (← e, k) r
  one-before taken size size' x rest (Ok h) e reads =
      let next : 1 + h.used ≡ suc h.used = omega arith in
      record {
        place = omega (arith, reads.place);
        count = omega (arith, reads.count);
        same = rw next (reads.same ∙ e);
        so_far = ⊎_elim (λ s. inl (s.0, omega (arith, s.1), s.2)) (λ s. inr s) reads.so_far;
      }

  type_read : (size : ℕ) (chunk : List ℕ) → 1 ≤ size → size < 256 * 256 → ReadOrRefused 2 size chunk (read_type size chunk)
  unfolding read_type held big_endian
  type_read size [] p l = (record { place = omega arith; count = refl; same = refl; so_far = inl (omega arith, refl, after_two 0 size p l p) })
  type_read size (type ∷ bytes) p l =
      ⊎_elim
      (λ e. rw e (record {
        place = omega arith;
        count = refl;
        same = rw (eqb-true type frame_type e);
        so_far = inr (omega arith, omega arith, l);
      }))
      (λ e. rw e (start_untyped (size / 256 ^ 1 % 256) (size / 256 ^ 0 % 256) (λ z. absurd (omega (arith, z, two_bytes size l))) type bytes (eqb-false _ _ e)))
      (by_test (eqb type frame_type))

  low_read : (high : ℕ) (chunk : List ℕ) → high < 256 → are_bytes chunk ≡ true → ReadOrRefused 1 (high * 256) chunk (read_low (high * 256) chunk)
  unfolding read_low held big_endian
  low_read high [] h b = (record { place = omega arith; count = refl; same = refl; so_far = inl (omega arith, refl, after_one high h) })
  low_read high (low ∷ bytes) h b =
      let l = head_byte low bytes b in
      let first : high * 256 / 256 ^ 1 % 256 ≡ high = omega arith in
      ⊎_elim
      (λ e. rw e (rw first (start_empty high low bytes (eqb-true _ _ e))))
      (λ e.
      let n = eqb-false (high * 256 + low) 0 e in
      rw e
      (one-before 1 (high * 256) (high * 256 + low) low bytes _ (rw (first, high_is high low h l, low_is high low h l))
      (type_read (high * 256 + low) bytes (omega arith) (omega arith))))
      (by_test (eqb (high * 256 + low) 0))

  high_read : (chunk : List ℕ) → are_bytes chunk ≡ true → ReadOrRefused 0 0 chunk (read_high chunk)
  unfolding read_high held big_endian
  high_read [] b = (record { place = omega arith; count = refl; same = refl; so_far = inl (omega arith, refl, at_start) })
  high_read (high ∷ bytes) b =
      let h = head_byte high bytes b in
      let first : high * 256 / 256 ^ 1 % 256 ≡ high = omega arith in
      one-before 0 0 (high * 256) high bytes _ (rw first) (low_read high bytes h (tail_bytes high bytes b))

  pub header_read : {taken size : ℕ} → Valid taken size → (chunk : List ℕ) → are_bytes chunk ≡ true → ReadOrRefused taken size chunk (read_header taken size chunk)
  unfolding read_header
  header_read at_start chunk b = high_read chunk b
  header_read (after_one high h) chunk b = low_read high chunk h b
  header_read (after_two zero size p l m) chunk b = type_read size chunk p l
  header_read (after_two (suc more) size p l m) chunk b =
      rw (← from-header (suc (suc (suc more))) size chunk (omega arith))
      ((record { place = omega arith; count = omega arith; same = refl; so_far = inr (omega arith, omega arith, l) }))
