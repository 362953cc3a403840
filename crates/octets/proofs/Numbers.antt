-- Numbers as bytes, most significant first: reading, writing, and that each undoes the other, at every width. Assumes nothing.
use Prim.Native.Nat.{ℕ, zero, suc, ◌+◌, ◌-◌, ◌*◌, ◌/◌, ◌%◌, ◌^◌, ◌≤◌, ◌<◌}
use mathlib.Core.Path.{◌≡◌, refl, sym, ap, ◌∙◌}
use mathlib.Core.Bool.{true}
use mathlib.Core.List.{List, [], ◌∷◌, ◌++◌, append_assoc}
use native.Mathlib.Numerals.{add-one}
use native.Mathlib.Decide.{dec_lt}
use native.Mathlib.Nat.{add_assoc, add-mul, mul_assoc, zero-add, pow-suc, pow-succ', pow-le-pow_right, mod-eq_of_lt, one-le-pow, mul-add-div_right, mul-add-mod_self_right}
use native.Mathlib.Omega.{arith}
use lib.Arith.{mod-mul, digits_div, digits_lt}
use lib.Dec.{lit<}
use lib.Pow.{are_bytes}
use lib.ListN.{length, get_or, set, replicate, length-replicate}
use lib.Seq.{set-append_seam}
use Rattle.std.specs.Prelude.{min}
use Rattle.std.proofs.lemmas.Nat.{pow-add}
use Rattle.std.proofs.lemmas.Grind.{replicate_next}
use Rattle.octets.specs.Octets.{number_from, number, big_endian, part, number_at}
use Rattle.octets.proofs.Tests.{head_byte, tail_bytes, bytes-part}
use Rattle.octets.proofs.Parts.{length_part, part_join, part-one}

-- ---- reading

number_from_shift : (a : ℕ) (xs : List ℕ) → number_from a xs ≡ a * 256 ^ length xs + number_from 0 xs
unfolding number_from
number_from_shift a [] = omega arith
number_from_shift a (x ∷ xs) =
    number_from_shift (a * 256 + x) xs
    ∙ simp (pow-succ' 256 (length xs), number_from_shift x xs, add-mul, mul_assoc, add_assoc, zero-add)

number_from-append : (a : ℕ) (xs ys : List ℕ) → number_from a (xs ++ ys) ≡ number_from (number_from a xs) ys
unfolding number_from
number_from-append a [] ys = refl
number_from-append a (x ∷ xs) ys = number_from-append (a * 256 + x) xs ys

-- two numbers, one behind the other
number_append : (xs ys : List ℕ) → number (xs ++ ys) ≡ number xs * 256 ^ length ys + number ys
unfolding number
number_append xs ys = number_from-append 0 xs ys ∙ number_from_shift (number_from 0 xs) ys

-- one byte more
pub number_at-next : (xs : List ℕ) (at n : ℕ) → at + n < length xs → number_at xs at n * 256 + get_or xs (at + n) 0 ≡ number_at xs at (n + 1)
unfolding number_at number number_from
number_at-next xs at n h =
    sym (number_from-append 0 (part xs at n) (get_or xs (at + n) 0 ∷ []))
    ∙ ap number (ap (λ (l : List ℕ). part xs at n ++ l) (sym (part-one xs (at + n) h)) ∙ part_join xs at n 1)

pub next_lt : (v x n : ℕ) → v < 256 ^ n → x < 256 → v * 256 + x < 256 ^ (n + 1)
next_lt v x n h l = rw (add-one, pow-suc 256 n) (omega (arith, h, l))

pub within_four : (v x n : ℕ) → v < 256 ^ n → x < 256 → n < 4 → v * 256 + x < 256 ^ 4
within_four v x n h l e =
    let fits : n + 1 ≤ 4 = omega (arith, e) in
    let up : 256 ^ (n + 1) ≤ 256 ^ 4 = pow-le-pow_right (lit< tt) fits in
    omega (arith, next_lt v x n h l, up)

number_at-none : (xs : List ℕ) (at : ℕ) → number_at xs at 0 ≡ 0
unfolding number_at number number_from part
number_at-none xs at = refl

-- a number of n bytes: that of the first a, and behind it that of the other b
pub number_at-split : (xs : List ℕ) (at a b : ℕ) → at + (a + b) ≤ length xs
    → number_at xs at (a + b) ≡ number_at xs at a * 256 ^ b + number_at xs (at + a) b
unfolding number_at
number_at-split xs at a b h =
    ap number (sym (part_join xs at a b))
    ∙ number_append (part xs at a) (part xs (at + a) b)
    ∙ ap (λ (k : ℕ). number (part xs at a) * 256 ^ k + number (part xs (at + a) b)) (length_part xs (at + a) b (omega (arith, h)))

-- a number of up to eight bytes as two words: a of those before the last four, none where there are no more, and b of the others
module _ (xs : List ℕ) (at n : ℕ) {low a b : ℕ} (is : low ≡ min n 4) where
  pub in_words : at + n ≤ length xs → a ≡ number_at xs at (n - low) → b ≡ number_at xs (at + (n - low)) low → a * 4294967296 + b ≡ number_at xs at n
  in_words h upper lower = go (dec_lt 4 n)
    where
      go : Dec (4 < n) → a * 4294967296 + b ≡ number_at xs at n
      go (yes more) =
          let four : low ≡ 4 = omega (arith, is) in
          let all : n - 4 + 4 ≡ n = omega (arith, more) in
          rw (upper, lower, four) (sym (number_at-split xs at (n - 4) 4 (omega (arith, h))) ∙ ap (number_at xs at) all)
      go (no less) =
          let whole : low ≡ n = omega (arith, is, less) in
          let none : n - n ≡ 0 = omega arith in
          let same : at + 0 ≡ at = omega arith in
          rw (upper, lower, whole, none, same, number_at-none xs at) (omega arith)

  pub words_lt : a < 256 ^ (n - low) → b < 256 ^ low → a * 4294967296 + b < 256 ^ n
  words_lt upper lower = go (dec_lt 4 n)
    where
      go : Dec (4 < n) → a * 4294967296 + b < 256 ^ n
      go (yes more) =
          let four : low ≡ 4 = omega (arith, is) in
          let all : n - 4 + 4 ≡ n = omega (arith, more) in
          rw (ap (λ (k : ℕ). 256 ^ k) (sym all) ∙ pow-add 256 (n - 4) 4) (digits_lt (rw four at upper) (rw four at lower))
      go (no less) =
          let whole : low ≡ n = omega (arith, is, less) in
          let none : n - n ≡ 0 = omega arith in
          let zero-high : a < 1 = rw (whole, none) at upper in
          let rest : b < 256 ^ n = rw whole at lower in
          omega (arith, zero-high, rest)

-- n bytes spell a number below 256 ^ n
pub number_lt : (xs : List ℕ) → are_bytes xs ≡ true → number xs < 256 ^ length xs
unfolding number number_from
number_lt [] h = lit< tt
number_lt (x ∷ xs) h =
    rw (zero-add, number_from_shift x xs, pow-succ' 256 (length xs))
    (digits_lt (head_byte x xs h) (number_lt xs (tail_bytes x xs h)))

pub number_at-lt : (xs : List ℕ) (at n : ℕ) → are_bytes xs ≡ true → at + n ≤ length xs → number_at xs at n < 256 ^ n
unfolding number_at
number_at-lt xs at n b h = rw (length_part xs at n h) at (number_lt (part xs at n) (bytes-part xs at n b))

-- ---- writing

pub length-big_endian : (n v : ℕ) → length (big_endian n v) ≡ n
unfolding big_endian
length-big_endian zero v = refl
length-big_endian (suc n) v = ap suc (length-big_endian n _)

pow256-pos : (n : ℕ) → zero < 256 ^ n
pow256-pos n = one-le-pow n 256 (lit< tt)

-- one byte more, before those that are there
pub big_endian-next : (n i v : ℕ) → i < n
    → set (replicate (n - i) 0 ++ big_endian i v) (n - 1 - i) (v / 256 ^ i % 256) ≡ replicate (n - (i + 1)) 0 ++ big_endian (i + 1) v
unfolding big_endian
big_endian-next n i v h =
    let m = n - (i + 1) in
    let more : n - i ≡ m + 1 = omega (arith, h) in
    let at : n - 1 - i ≡ m = omega (arith, h) in
    let split : replicate (n - i) 0 ++ big_endian i v ≡ replicate m 0 ++ 0 ∷ big_endian i v =
    rw (more, replicate_next {X = ℕ} m 0) (append_assoc (replicate m 0) (0 ∷ []) (big_endian i v)) in
    let size : length (replicate {A = ℕ} m 0) ≡ m = length-replicate m 0 in
    rw (split, at)
    (ap (λ (k : ℕ). set (replicate m 0 ++ 0 ∷ big_endian i v) k (v / 256 ^ i % 256)) (sym size)
    ∙ set-append_seam (replicate m 0) 0 (big_endian i v) (v / 256 ^ i % 256)
    ∙ ap (λ (l : List ℕ). replicate m 0 ++ l) (ap (λ (k : ℕ). big_endian k v) (sym (add-one i))))

-- ---- both ways

number_from-big_endian : (n a v : ℕ) → number_from a (big_endian n v) ≡ a * 256 ^ n + v % 256 ^ n
unfolding number_from big_endian
number_from-big_endian zero a v = omega arith
number_from-big_endian (suc n) a v =
    number_from-big_endian n (a * 256 + v / 256 ^ n % 256) v
    ∙ simp (pow-succ' 256 n, mod-mul v {m = 256} {c = 256 ^ n} (lit< tt) (pow256-pos n), add-mul, mul_assoc, add_assoc)

pub number-big_endian : (n v : ℕ) → v < 256 ^ n → number (big_endian n v) ≡ v
unfolding number
number-big_endian n v h = number_from-big_endian n 0 v ∙ rw (mod-eq_of_lt h) (omega arith)

-- the bytes of a number do not see what lies above them
big_endian_low : (n a v : ℕ) → big_endian n (a * 256 ^ n + v) ≡ big_endian n v
unfolding big_endian
big_endian_low zero a v = refl
big_endian_low (suc n) a v =
    rw (pow-succ' 256 n, ← mul_assoc a 256 (256 ^ n), mul-add-div_right (pow256-pos n) (a * 256) v, mul-add-mod_self_right a 256 (v / 256 ^ n), big_endian_low n (a * 256) v)

pub big_endian-number : (xs : List ℕ) → are_bytes xs ≡ true → big_endian (length xs) (number xs) ≡ xs
unfolding number big_endian number_from
big_endian-number [] h = refl
big_endian-number (x ∷ xs) h =
    rw (zero-add, number_from_shift x xs, digits_div x (number_lt xs (tail_bytes x xs h)), mod-eq_of_lt (head_byte x xs h), big_endian_low (length xs) x (number xs), big_endian-number xs (tail_bytes x xs h))

-- a number read at a place, written again
pub big_endian-number_at : (xs : List ℕ) (at n : ℕ) → are_bytes xs ≡ true → at + n ≤ length xs → big_endian n (number_at xs at n) ≡ part xs at n
unfolding number_at
big_endian-number_at xs at n b h =
    ap (λ (k : ℕ). big_endian k (number (part xs at n))) (sym (length_part xs at n h)) ∙ big_endian-number (part xs at n) (bytes-part xs at n b)
