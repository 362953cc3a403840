-- The ways out of the reader, over plain values: a law for a type of one form, and one for a type of two. Assumes nothing.
use Prim.Native.Nat.{ℕ, ◌+◌, ◌≤◌, ◌<◌}
use mathlib.Core.Path.{◌≡◌, refl, sym, ap, ◌∙◌}
use mathlib.Core.Bool.{Bool, true, false, ◌&&◌}
use mathlib.Core.Option.{none, some}
use mathlib.Core.Option as math
use mathlib.Core.List.{List, [], ◌∷◌}
use native.Mathlib.Omega.{arith}
use lib.Dec.{eqb, leb}
use lib.ListN.{length, get_or, get_or-eq_default}
use borrow.Author.Tests.{eqb-true}
use Rattle.octets.specs.Octets.{byte_at, part, number_at}
use Rattle.octets.proofs.Tests.{both_left}
use Rattle.octets.proofs.Parts.{part-three}
use Rattle.svsc.specs.Messages.{Message, lease_request, lease_request_with_cookie, lease_refused, lease_granted, extension_refused, extension_granted, establish_refused, established, type_of, when, ◌or_else◌, readings, decode, is_digit, are_digits}
use Rattle.std.specs.Prelude.{Option, Some, None}
use Rattle.std.specs.Bool.{then_some}
use Rattle.std.specs.Option.{option_copied}
use Rattle.std.specs.List.{slice_get}
use denote.Bor.{Bor}
use Rattle.svsc_decoded.specs.Reading.{answer, meaning, message_of}
use Rattle.svsc_decoded.specs.declared.Decoded.{Decoded}

-- bytes of the type t: their row of the table
module _ (m : List ℕ) (t : ℕ) (ht : type_of m ≡ t) where
  row : (x : math.Option Message) → get_or (readings m) t none ≡ x → answer x ≡ answer (decode m)
  unfolding decode
  row x e = ap answer (sym (rw ht e))

  -- one form
  pub taken : (x : Message) (fits : Bool) → get_or (readings m) t none ≡ when fits x → fits ≡ true → answer (some x) ≡ answer (decode m)
  taken x fits e f = row (some x) (e ∙ rw f)

  pub refused : (x : Message) (fits : Bool) → get_or (readings m) t none ≡ when fits x → fits ≡ false → answer none ≡ answer (decode m)
  refused x fits e f = row none (e ∙ rw f)

-- two forms, told apart by the tests a and b, where it is not the first
pub record TwoForms (m : List ℕ) (a b : Bool) (x y : Message) : Type 0 where
  pub second : a ≡ false → b ≡ true → answer (some y) ≡ answer (decode m)
  pub neither : a ≡ false → b ≡ false → answer none ≡ answer (decode m)

two_forms : (m : List ℕ) (t : ℕ) → type_of m ≡ t → (a b : Bool) (x y : Message) → get_or (readings m) t none ≡ (when a x or_else when b y) → TwoForms m a b x y
two_forms m t ht a b x y e = record {
  second = λ h k. row m t ht (some y) (e ∙ rw (h, k));
  neither = λ h k. row m t ht none (e ∙ rw (h, k));
}

-- the four types of two forms; the byte that tells them apart is the reader's flag
module _ (m : List ℕ) (flag : ℕ) where
  pub lease_request_lem : type_of m ≡ 2 → flag ≡ byte_at m 1
      → TwoForms m (eqb (length m) 2 && eqb flag 0) (eqb (length m) 26 && eqb flag 1) lease_request (lease_request_with_cookie (part m 2 24))
  unfolding readings
  lease_request_lem ht hf = rw hf (two_forms m 2 ht _ _ _ _ refl)

  pub lease_response : type_of m ≡ 3 → flag ≡ byte_at m 1
      → TwoForms m (eqb (length m) 2 && eqb flag 0) (eqb (length m) 38 && eqb flag 1) lease_refused (lease_granted (number_at m 2 4) (part m 6 24) (number_at m 30 8))
  unfolding readings
  lease_response ht hf = rw hf (two_forms m 3 ht _ _ _ _ refl)

  pub extension_response : type_of m ≡ 5 → flag ≡ byte_at m 1
      → TwoForms m (eqb (length m) 2 && eqb flag 0) (eqb (length m) 10 && eqb flag 1) extension_refused (extension_granted (number_at m 2 8))
  unfolding readings
  extension_response ht hf = rw hf (two_forms m 5 ht _ _ _ _ refl)

  pub establish_response : type_of m ≡ 7 → flag ≡ byte_at m 5
      → TwoForms m (eqb (length m) 6 && leb 1 flag && leb flag 5) (eqb (length m) 54 && eqb flag 0) (establish_refused (number_at m 1 4) flag)
      (established (number_at m 1 4) (part m 6 16) (part m 22 16) (part m 38 16))
  unfolding readings
  establish_response ht hf = rw hf (two_forms m 7 ht _ _ _ _ refl)

-- the first byte of some bytes is their type
pub type_first : (m : List ℕ) (first : Option (Bor ℕ)) (kind : Bor ℕ) (k : ℕ) → option_copied first ≡ slice_get m 0 → first ≡ Some kind → kind.now ≡ k → type_of m ≡ k
type_first [] first kind k e f h = let none : Some kind.now ≡ None = rw f at e in cc
type_first (x ∷ xs) first kind k e f h = let same-byte : Some kind.now ≡ Some x = rw f at e in cc

pub no_type : (m : List ℕ) (first : Option (Bor ℕ)) → option_copied first ≡ slice_get m 0 → first ≡ None → answer none ≡ answer (decode m)
unfolding decode readings
no_type [] first e f = refl
no_type (x ∷ xs) first e f = let none : None ≡ Some x = rw f at e in cc

pub three-digits : (m : List ℕ) (at : ℕ) → at + 3 ≤ length m
    → are_digits (part m at 3) ≡ is_digit (get_or m at 0) && is_digit (get_or m (at + 1) 0) && is_digit (get_or m (at + 2) 0)
unfolding are_digits
three-digits m at h = rw (part-three m at h) (and-three (is_digit (get_or m at 0)) (is_digit (get_or m (at + 1) 0)) (is_digit (get_or m (at + 2) 0)))
  where
    and-three : (a b c : Bool) → a && (b && (c && true)) ≡ a && b && c
    and-three true true true = refl
    and-three true true false = refl
    and-three true false c = refl
    and-three false b c = refl

-- none of the types from 0 to 7: one at a time, since `omega` takes at most six cases
next : (k n : ℕ) → n ≤ k → (k ≡ n → ⊥) → n + 1 ≤ k
next k n h d = omega arith

pub above_7 : (k : ℕ) → (k ≡ 0 → ⊥) → (k ≡ 1 → ⊥) → (k ≡ 2 → ⊥) → (k ≡ 3 → ⊥) → (k ≡ 4 → ⊥) → (k ≡ 5 → ⊥) → (k ≡ 6 → ⊥) → (k ≡ 7 → ⊥) → 7 < k
above_7 k n0 n1 n2 n3 n4 n5 n6 n7 =
    let h4 : 4 ≤ k = next k 3 (next k 2 (next k 1 (next k 0 (omega arith) n0) n1) n2) n3 in
    next k 7 (next k 6 (next k 5 (next k 4 h4 n4) n5) n6) n7
