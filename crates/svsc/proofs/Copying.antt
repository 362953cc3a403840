-- The copying of data: what it leaves with room and without, and that writing type 12 is its range, then the copying. Assumes nothing.
use Prim.Native.Nat.{ℕ, suc, ◌+◌, ◌≤◌, ◌<◌}
use mathlib.Core.Path.{◌≡◌, refl, sym, ap, ◌∙◌}
use mathlib.Core.Logic.{⊎_elim}
use mathlib.Core.Bool.{Bool, true}
use mathlib.Core.List.{List, [], ◌∷◌, ◌++◌}
use native.Mathlib.Omega.{arith}
use lib.ListN.{length, take, drop}
use borrow.Author.Tests.{lt-ltb, le-ltb}
use Rattle.octets.specs.Octets.{put}
use Rattle.octets.proofs.Tests.{le-or-lt}
use Rattle.octets.proofs.Stores.{length-put, put_splice, put-behind}
use Rattle.svsc.specs.Messages.{data_receive, encode}
use Rattle.std.specs.Prelude.{Option, Some, None}
use Rattle.std.specs.Option.{ok_or}
use Rattle.svsc.specs.declared.Refused.TheVariants as refused
use Rattle.svsc.specs.Writing.{emit, written, as_written}
use Rattle.svsc.specs.Copying.{Copied, copied, copy_data}
use Rattle.svsc.proofs.Writing.{too_short_lem, stored}

module _ (bytes buffer : List ℕ) where
  -- Too short, the buffer holds all it held.
  pub copy-short : length buffer < suc (length bytes) → copied None buffer ≡ copy_data bytes buffer
  unfolding copy_data
  copy-short l = rw (lt-ltb (length buffer) (suc (length bytes)) l)

  -- With room it starts with 12 and the data and keeps the rest: the message is put at its start.
  pub copy_done : suc (length bytes) ≤ length buffer
      → copied (Some (length (encode (data_receive bytes)))) (put buffer 0 (encode (data_receive bytes))) ≡ copy_data bytes buffer
  unfolding copy_data encode
  copy_done l =
      let at_start : 0 + suc (length bytes) ≡ suc (length bytes) = omega arith in
      let none_before : take 0 buffer ++ ((12 ∷ bytes) ++ drop (0 + suc (length bytes)) buffer) ≡ 12 ∷ (bytes ++ drop (suc (length bytes)) buffer) =
      ap (λ (k : ℕ). 12 ∷ (bytes ++ drop k buffer)) at_start in
      rw (le-ltb (length buffer) (suc (length bytes)) l)
      (ap (copied (Some (suc (length bytes)))) (put_splice buffer 0 (12 ∷ bytes) (omega (arith, l)) ∙ none_before))

  -- Its length stays, whatever the data.
  pub length-copied : length (copy_data bytes buffer).buffer ≡ length buffer
  length-copied =
      ⊎_elim (λ l. rw (← copy_done l) (length-put buffer 0 _)) (λ l. rw (← copy-short l)) (le-or-lt (suc (length bytes)) (length buffer))

  -- the type, and the data behind it
  pub copy_stored : suc (length bytes) ≤ length buffer → (n : ℕ) (with-type after : List ℕ) → n ≡ 1 + length bytes
      → with-type ≡ put buffer 0 (12 ∷ []) → after ≡ put with-type 1 bytes → copied (Some n) after ≡ copy_data bytes buffer
  unfolding encode
  copy_stored l n with-type after hn ht ha =
      let size : n ≡ suc (length bytes) = omega (arith, hn) in
      rw (size, ha, ht, put-behind buffer 0 1 (12 ∷ []) bytes refl) (copy_done l)

  -- what was copied
  module _ (r : Option ℕ) (after : List ℕ) (e : copied r after ≡ copy_data bytes buffer) where
    -- with room, all of it
    pub copied_all : suc (length bytes) ≤ length buffer
        → (r ≡ Some (length (encode (data_receive bytes)))) × (after ≡ put buffer 0 (encode (data_receive bytes)))
    copied_all l =
        let same = e ∙ sym (copy_done l) in
        (ap (λ (c : Copied). c.length) same, ap (λ (c : Copied). c.buffer) same)

    -- none, exactly if it is too short
    copied_none : length buffer < suc (length bytes) → (r ≡ None) × (after ≡ buffer)
    copied_none l =
        let same = e ∙ sym (copy-short l) in
        (ap (λ (c : Copied). c.length) same, ap (λ (c : Copied). c.buffer) same)

    -- so the writer of type 12, whose range fits, has no room for none
    pub copied_written : (fits : Bool) → fits ≡ true → written (as_written (ok_or r refused.NoRoom)) after ≡ emit fits (encode (data_receive bytes)) buffer
    unfolding encode
    copied_written fits f =
        ⊎_elim
        (λ l. rw (copied_all l).0 (stored (12 ∷ bytes) buffer fits f l _ after refl (copied_all l).1))
        (λ l. rw ((copied_none l).0, (copied_none l).1) (too_short_lem (12 ∷ bytes) buffer fits f l))
        (le-or-lt (suc (length bytes)) (length buffer))
