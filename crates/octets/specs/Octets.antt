-- Lists of bytes: the numbers in them, their parts, stores and tests.
-- 01 'Which paper speaks': "most significant byte first, in messages and tables".
use Rattle.std.specs.Prelude.{ℕ, zero, suc, ◌+◌, ◌*◌, ◌/◌, ◌%◌, ◌^◌, Bool, true, false, ◌&&◌, List, [], ◌∷◌, length, take, drop, get_or, eqb, ltb}
use Rattle.std.proofs.lemmas.List.Edits.{sets}
use Rattle.std.proofs.Math.Pow.{are_bytes}

-- the byte at a place; 0 past the end
abbrev pub byte_at : List ℕ → ℕ → ℕ
byte_at xs at = get_or xs at 0

-- the number that bytes spell behind the number a
unfoldable pub number_from : ℕ → List ℕ → ℕ
number_from a [] = a
number_from a (x ∷ xs) = number_from (a * 256 + x) xs

-- the number that bytes spell, most significant first
unfoldable pub number : List ℕ → ℕ
number xs = number_from 0 xs

-- the n bytes of a number, most significant first
unfoldable pub big_endian : ℕ → ℕ → List ℕ
big_endian zero v = []
big_endian (suc n) v = (v / 256 ^ n % 256) ∷ big_endian n v

-- the n bytes from a place on; fewer where the end comes first
unfoldable pub part : List ℕ → ℕ → ℕ → List ℕ
part xs at n = take n (drop at xs)

-- the number that the n bytes from a place on spell
unfoldable pub number_at : List ℕ → ℕ → ℕ → ℕ
number_at xs at n = number (part xs at n)

-- vs stored from a place on, all else as it was; what would fall past the end is dropped, so the length stays
unfoldable pub put : List ℕ → ℕ → List ℕ → List ℕ
put xs at vs = sets xs at vs

-- whether two lists are equal
unfoldable pub same : List ℕ → List ℕ → Bool
same [] [] = true
same [] (y ∷ ys) = false
same (x ∷ xs) [] = false
same (x ∷ xs) (y ∷ ys) = eqb x y && same xs ys

-- whether the list is n bytes
unfoldable pub is_bytes : ℕ → List ℕ → Bool
is_bytes n xs = eqb (length xs) n && are_bytes xs

-- whether the list is bytes, fewer than n
unfoldable pub is_short : ℕ → List ℕ → Bool
is_short n xs = ltb (length xs) n && are_bytes xs
