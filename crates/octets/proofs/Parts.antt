-- Parts of a list of bytes: lengths, joins, single bytes, and parts that the end cuts off. Assumes nothing.
use Prim.Native.Nat.{ℕ, zero, suc, ◌+◌, ◌-◌, ◌≤◌, ◌<◌}
use mathlib.Core.Path.{◌≡◌, refl, sym, ap, ap₂, ◌∙◌}
use mathlib.Core.List.{List, [], ◌∷◌, ◌++◌}
use native.Mathlib.Omega.{arith}
use lib.ListN.{length, get_or, take, drop, length-take, length-drop, drop_of_length-le}
use lib.Seq.{drop-cons, drop-drop, take-add, take_all}
use Rattle.octets.specs.Octets.{part}

pub length_part : (xs : List ℕ) (at n : ℕ) → at + n ≤ length xs → length (part xs at n) ≡ n
unfolding part
length_part xs at n h = simp (length-take, length-drop) (omega arith)

-- two and three parts, one behind the other
pub part_join : (xs : List ℕ) (at n k : ℕ) → part xs at n ++ part xs (at + n) k ≡ part xs at (n + k)
unfolding part
part_join xs at n k = sym (take-add n k (drop at xs) ∙ ap (λ (l : List ℕ). take n (drop at xs) ++ take k l) (drop-drop n at xs))

pub part-join₃ : (xs : List ℕ) (at a b c : ℕ) → part xs at a ++ (part xs (at + a) b ++ part xs (at + a + b) c) ≡ part xs at (a + (b + c))
part-join₃ xs at a b c = rw (part_join xs (at + a) b c, part_join xs at a (b + c))

-- the first bytes of a part, one by one
pub part-one : (xs : List ℕ) (at : ℕ) → at < length xs → part xs at 1 ≡ get_or xs at 0 ∷ []
unfolding part
part-one xs at h = rw (drop-cons xs at 0)

part-two : (xs : List ℕ) (at : ℕ) → at + 2 ≤ length xs → part xs at 2 ≡ get_or xs at 0 ∷ get_or xs (at + 1) 0 ∷ []
part-two xs at h = sym (part_join xs at 1 1) ∙ ap₂ ◌++◌ (part-one xs at (omega arith)) (part-one xs (at + 1) (omega arith))

pub part-three : (xs : List ℕ) (at : ℕ) → at + 3 ≤ length xs → part xs at 3 ≡ get_or xs at 0 ∷ get_or xs (at + 1) 0 ∷ get_or xs (at + 2) 0 ∷ []
part-three xs at h = sym (part_join xs at 2 1) ∙ ap₂ ◌++◌ (part-two xs at (omega arith)) (part-one xs (at + 2) (omega arith))

-- a part that reaches the end
pub part_end : (xs : List ℕ) (at n : ℕ) → length xs ≤ at + n → part xs at n ≡ drop at xs
unfolding part
part_end xs at n h = take_all n (drop at xs) (simp length-drop (omega arith))

pub to_the_end : (xs : List ℕ) (at : ℕ) → take (length xs - at) (drop at xs) ≡ drop at xs
to_the_end xs at = take_all (length xs - at) (drop at xs) (simp length-drop (omega arith))

pub none_past : (xs : List ℕ) (at : ℕ) → length xs ≤ at → take 0 xs ≡ drop at xs
none_past xs at h = sym (drop_of_length-le xs h)

pub byte_past : (xs : List ℕ) (at : ℕ) → length xs ≤ at → get_or xs at 0 ≡ 0
byte_past [] at h = refl
byte_past (x ∷ xs) zero h = absurd (omega arith)
byte_past (x ∷ xs) (suc at) h = byte_past xs at (omega arith)
