-- Bits of a number, counted from the lowest, which is bit 0.
use Rattle.std.specs.Prelude.{ℕ, zero, suc, ◌+◌, ◌-◌, ◌/◌, ◌%◌, ◌^◌, Bool, eqb, if◌then◌else◌}

-- bit c is 1
unfoldable pub is_set : ℕ → ℕ → Bool
is_set map c = eqb (map / 2 ^ c % 2) 1

-- the same number, but bit c is 1
unfoldable pub with_bit : ℕ → ℕ → ℕ
with_bit map c = if is_set map c then map else map + 2 ^ c

-- the same number, but bit c is 0
unfoldable pub without_bit : ℕ → ℕ → ℕ
without_bit map c = if is_set map c then map - 2 ^ c else map

-- how many of the n numbers from i on pass a test
unfoldable pub count_from : (ℕ → Bool) → ℕ → ℕ → ℕ
count_from f i zero = 0
count_from f i (suc n) = (if f i then 1 else 0) + count_from f (suc i) n
