-- Fields of bytes in their ranges; what a writer leaves of a message whose fields are in their ranges, in a buffer that has room for it.
-- Assumes nothing.
use Prim.Native.Nat.{ℕ, ◌+◌, ◌≤◌, ◌<◌}
use mathlib.Core.Path.{◌≡◌, refl, sym, ap, ◌∙◌}
use mathlib.Core.Bool.{Bool, true, false}
use mathlib.Core.List.{List}
use native.Mathlib.Omega.{arith}
use lib.Dec.{ltb}
use lib.ListN.{length, get_or}
use borrow.Author.Tests.{le-ltb, eqb-true, eq-eqb}
use Rattle.std.specs.Prelude.{Result, Ok, Err, IsOk}
use Rattle.octets.specs.Octets.{part, put, is_bytes}
use Rattle.octets.proofs.Tests.{both_left, bytes-known, bytes-part}
use Rattle.octets.proofs.Parts.{length_part}
use Rattle.svsc.specs.Messages.{Message, encode, well_formed, longest_message}
use Rattle.svsc.specs.Writing.{WriteOutcome, emit, write, written, as_written}
use Rattle.svsc.specs.declared.Refused.{Refused}
use Rattle.svsc.specs.declared.Refused.TheVariants as case
use Rattle.svsc.proofs.WrittenThenRead.{decode-encode}
use Rattle.svsc.proofs.ReadThenWritten.{message-length}

-- a part of bytes that are known
pub part_bytes : (xs : List ℕ) (at n : ℕ) → ((i : ℕ) → get_or xs i 0 < 256) → at + n ≤ length xs → is_bytes n (part xs at n) ≡ true
unfolding is_bytes
part_bytes xs at n h l = rw (length_part xs at n l, bytes-part xs at n (bytes-known xs (λ i k. h i)), eq-eqb n n refl)

pub sized-length : (xs : List ℕ) (n : ℕ) → is_bytes n xs ≡ true → length xs ≡ n
unfolding is_bytes
sized-length xs n h = eqb-true (length xs) n (both_left _ _ h)

module _ (m : Message) (buffer : List ℕ) (r : Result ℕ Refused) (after : List ℕ) (e : written (as_written r) after ≡ write m buffer) where
  -- of a message whose fields are in their ranges, with room for it
  module _ (w : well_formed m ≡ true) (l : length (encode m) ≤ length buffer) where
    sent : written (as_written r) after ≡ record { number = 0; length = length (encode m); buffer = put buffer 0 (encode m) }
    unfolding write emit
    sent = e ∙ rw (w, le-ltb (length buffer) (length (encode m)) l)

    pub sent_ok : IsOk r
    sent_ok = by r (ap (λ (x : WriteOutcome). x.number) sent)
      where
        by : (r : Result ℕ Refused) → (as_written r).number ≡ 0 → IsOk r
        by (Ok n) h = refl
        by (Err case.Malformed) h = absurd (omega arith)
        by (Err case.NoRoom) h = absurd (omega arith)

    pub sent-length : (n : ℕ) → r ≡ Ok n → n ≡ length (encode m)
    sent-length n h = ap (λ (x : Result ℕ Refused). (as_written x).length) (sym h) ∙ ap (λ (x : WriteOutcome). x.length) sent

    pub sent-buffer : after ≡ put buffer 0 (encode m)
    sent-buffer = ap (λ (x : WriteOutcome). x.buffer) sent

  -- what any writer says that it has written is no longer than the longest message
  pub written-short : (n : ℕ) → r ≡ Ok n → n ≤ longest_message
  unfolding write emit
  written-short n h = by (well_formed m) refl (ltb (length buffer) (length (encode m))) refl
    where
      told : written (as_written (Ok n)) after ≡ write m buffer
      told = rw h at e

      by : (w : Bool) → well_formed m ≡ w → (s : Bool) → ltb (length buffer) (length (encode m)) ≡ s → n ≤ longest_message
      by false h s k = let none : n ≡ 0 = ap (λ (x : WriteOutcome). x.length) told ∙ rw h in omega arith
      by true h true k = let none : n ≡ 0 = ap (λ (x : WriteOutcome). x.length) told ∙ rw (h, k) in omega arith
      by true h false k =
          let whole : n ≡ length (encode m) = ap (λ (x : WriteOutcome). x.length) told ∙ rw (h, k) in omega (arith, message-length (encode m) m (decode-encode m h))
