-- Tests of two parts, taken apart, and lists whose elements are bytes. Assumes nothing.
use Prim.Native.Nat.{ℕ, zero, suc, ◌≤◌, ◌<◌}
use mathlib.Core.Path.{◌≡◌, refl, sym}
use mathlib.Core.Bool.{Bool, true, false, ◌&&◌, ◌||◌, false≢true}
use mathlib.Core.Logic.{◌⊎◌, inl, inr, ⊎_elim}
use mathlib.Core.List.{List, [], ◌∷◌}
use native.Mathlib.Omega.{arith}
use lib.Dec.{leb, ltb, eqb}
use lib.Pow.{are_bytes}
use lib.ListN.{length, get_or, take, drop}
use borrow.Author.Tests.{leb-true, leb-false, ltb-true, lt-ltb}
use Rattle.octets.specs.Octets.{part, is_bytes, is_short}

pub both_left : (a b : Bool) → a && b ≡ true → a ≡ true
both_left true b h = refl
both_left false b h = h

pub both_right : (a b : Bool) → a && b ≡ true → b ≡ true
both_right true b h = h
both_right false b h = let z : ◌≡◌ {A = Bool} false true = h in absurd (false≢true z)

pub either : (a b : Bool) → a || b ≡ true → (P : Type 0) → (a ≡ true → P) → (b ≡ true → P) → P
either true b h P f g = f refl
either false b h P f g = g h

pub either_false : (a b : Bool) → a || b ≡ false → (a ≡ false) × (b ≡ false)
either_false true b h = absurd (false≢true (sym h))
either_false false b h = (refl, h)

pub and-true : (a : Bool) → a && true ≡ a
and-true true = refl
and-true false = refl

pub and-false : (a : Bool) → a && false ≡ false
and-false true = refl
and-false false = refl

-- a comparison goes one way or the other
pub by_test : (t : Bool) → (t ≡ true) ⊎ (t ≡ false)
by_test true = inl refl
by_test false = inr refl

pub le-or-lt : (a b : ℕ) → (a ≤ b) ⊎ (b < a)
le-or-lt a b = ⊎_elim (λ e. inl (leb-true a b e)) (λ e. inr (leb-false a b e)) (by_test (leb a b))

-- ---- bytes

pub bytes-known : (xs : List ℕ) → ((i : ℕ) → i < length xs → get_or xs i 0 < 256) → are_bytes xs ≡ true
bytes-known [] h = refl
bytes-known (x ∷ xs) h = rw (lt-ltb x 256 (h 0 (omega arith)), bytes-known xs (λ i l. h (suc i) (omega arith)))

pub head_byte : (x : ℕ) (xs : List ℕ) → are_bytes (x ∷ xs) ≡ true → x < 256
head_byte x xs h = ltb-true x 256 (both_left (ltb x 256) (are_bytes xs) h)

pub tail_bytes : (x : ℕ) (xs : List ℕ) → are_bytes (x ∷ xs) ≡ true → are_bytes xs ≡ true
tail_bytes x xs h = both_right (ltb x 256) (are_bytes xs) h

bytes_take : (n : ℕ) (xs : List ℕ) → are_bytes xs ≡ true → are_bytes (take n xs) ≡ true
bytes_take zero xs h = refl
bytes_take (suc n) [] h = refl
bytes_take (suc n) (x ∷ xs) h = rw (both_left (ltb x 256) (are_bytes xs) h, bytes_take n xs (tail_bytes x xs h))

pub bytes_drop : (n : ℕ) (xs : List ℕ) → are_bytes xs ≡ true → are_bytes (drop n xs) ≡ true
bytes_drop zero xs h = h
bytes_drop (suc n) [] h = refl
bytes_drop (suc n) (x ∷ xs) h = bytes_drop n xs (tail_bytes x xs h)

pub bytes-part : (xs : List ℕ) (at n : ℕ) → are_bytes xs ≡ true → are_bytes (part xs at n) ≡ true
unfolding part
bytes-part xs at n h = bytes_take n (drop at xs) (bytes_drop at xs h)

-- of bytes, the length is the only question
pub sized-is : (n : ℕ) (xs : List ℕ) → ((i : ℕ) → get_or xs i 0 < 256) → is_bytes n xs ≡ eqb (length xs) n
unfolding is_bytes
sized-is n xs h = rw (bytes-known xs (λ i l. h i)) (and-true (eqb (length xs) n))

pub short-is : (n : ℕ) (xs : List ℕ) → ((i : ℕ) → get_or xs i 0 < 256) → is_short n xs ≡ ltb (length xs) n
unfolding is_short
short-is n xs h = rw (bytes-known xs (λ i l. h i)) (and-true (ltb (length xs) n))
