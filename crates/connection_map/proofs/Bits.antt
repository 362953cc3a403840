-- Bits of a number: what setting and clearing one does to each, numbers of the same bits, and counts over a window. Over the width. Assumes nothing.
use Rattle.std.specs.Prelude.{if◌then◌else◌}
use Prim.Native.Nat.{ℕ, zero, suc, ◌+◌, ◌-◌, ◌*◌, ◌/◌, ◌%◌, ◌^◌, ◌≤◌, ◌<◌}
use mathlib.Core.Path.{◌≡◌, refl, sym, ap, ap₂, ◌∙◌}
use mathlib.Core.Bool.{Bool, true, false, not}
use native.Mathlib.Nat.{pow-suc, mod-lt, mod-eq_of_lt, div-eq_of_lt, mod-one, suc-add, sub-zero, lt_of_lt_of_le, div-one, one-mul}
use native.Mathlib.Numerals.{add-one, one-add}
use native.Mathlib.Omega.{arith}
use lib.Pow.{pow_pos, pow-lt, pow_mono, shr-shr, shl_exact, field, mod-mod-pow}
use lib.Bits.{bit_and, bit_or, and_step, or_step, or_zero_r, or_lt, and_mask}
use lib.Count.{ones, ones_step, count_trailing_zeros, under}
use lib.Dec.{eqb, eqb-zero-suc, eqb-suc-zero, eqb-suc-suc}
use borrow.Author.Tests.{eqb-true, eqb-false}
use Rattle.rules.specs.Searches.{first_from}
use Rattle.rules.proofs.Searches.{first_turn}
use Rattle.connection_map.specs.Bits.{is_set, with_bit, without_bit, count_from}

-- ---- one bit

set_low : (m : ℕ) → is_set m 0 ≡ eqb (m % 2) 1
unfolding is_set
set_low m = ap (λ (n : ℕ). eqb (n % 2) 1) (div-one m)

set_half : (m k : ℕ) → is_set m (suc k) ≡ is_set (m / 2) k
unfolding is_set
set_half m k =
    sym (ap (λ (n : ℕ). eqb (n % 2) 1) (shr-shr m 1 k) ∙ ap (λ (n : ℕ). eqb (m / 2 ^ n % 2) 1) (one-add k))

-- the digit itself
digit : (m c : ℕ) → m / 2 ^ c % 2 ≡ (if is_set m c then 1 else 0)
unfolding is_set
digit m c = go (eqb (m / 2 ^ c % 2) 1) refl
  where
    go : (b : Bool) → eqb (m / 2 ^ c % 2) 1 ≡ b → m / 2 ^ c % 2 ≡ (if b then 1 else 0)
    go true e = eqb-true (m / 2 ^ c % 2) 1 e
    go false e =
        let low : m / 2 ^ c % 2 < 2 = mod-lt (m / 2 ^ c) (omega arith) in
        omega (arith, eqb-false (m / 2 ^ c % 2) 1 e)

-- What is done to bit c, and to no other: it is said of the lowest, and of the others by halves.
module _
    (f : ℕ → ℕ → ℕ) (b : Bool) (low : (m : ℕ) → is_set (f m 0) 0 ≡ b) (rest : (m : ℕ) → f m 0 / 2 ≡ m / 2)
    (step : (m c : ℕ) → f m (suc c) ≡ f (m / 2) c * 2 + m % 2)
  where
    bit_exactly : (c m k : ℕ) → is_set (f m c) k ≡ (if eqb k c then b else is_set m k)
    bit_exactly zero m zero = low m
    bit_exactly zero m (suc k) =
        set_half (f m 0) k ∙ ap (λ (n : ℕ). is_set n k) (rest m) ∙ sym (set_half m k)
        ∙ sym (ap (λ (x : Bool). if x then b else is_set m (suc k)) (eqb-suc-zero k))
    bit_exactly (suc c) m zero =
        let e : f m (suc c) % 2 ≡ m % 2 = omega (arith, step m c) in
        set_low (f m (suc c)) ∙ ap (λ (n : ℕ). eqb n 1) e ∙ sym (set_low m)
        ∙ sym (ap (λ (x : Bool). if x then b else is_set m 0) (eqb-zero-suc c))
    bit_exactly (suc c) m (suc k) =
        let e : f m (suc c) / 2 ≡ f (m / 2) c = omega (arith, step m c) in
        set_half (f m (suc c)) k ∙ ap (λ (n : ℕ). is_set n k) e ∙ bit_exactly c (m / 2) k
        ∙ ap₂ (λ (x y : Bool). if x then b else y) (sym (eqb-suc-suc k c)) (sym (set_half m k))

by_bit : (m : ℕ) (P : Bool → Type 0) → (m % 2 ≡ 1 → P true) → (m % 2 ≡ 0 → P false) → P (is_set m 0)
by_bit m P f g = rw (set_low m) (go (eqb (m % 2) 1) refl)
  where
    go : (x : Bool) → eqb (m % 2) 1 ≡ x → P x
    go true e = f (eqb-true (m % 2) 1 e)
    go false e = g (omega (arith, eqb-false (m % 2) 1 e))

with_low : (m : ℕ) → with_bit m 0 ≡ m / 2 * 2 + 1
unfolding with_bit
with_low m = by_bit m (λ x. (if x then m else m + 1) ≡ m / 2 * 2 + 1) (λ e. omega arith) (λ e. omega arith)

without_low : (m : ℕ) → without_bit m 0 ≡ m / 2 * 2
unfolding without_bit
without_low m = by_bit m (λ x. (if x then m - 1 else m) ≡ m / 2 * 2) (λ e. omega arith) (λ e. omega arith)

with-step : (m c : ℕ) → with_bit m (suc c) ≡ with_bit (m / 2) c * 2 + m % 2
unfolding with_bit
with-step m c = rw (set_half m c) (go (is_set (m / 2) c))
  where
    go : (x : Bool) → (if x then m else m + 2 ^ suc c) ≡ (if x then m / 2 else m / 2 + 2 ^ c) * 2 + m % 2
    go true = omega arith
    go false = omega (arith, pow-suc 2 c)

-- where a bit is 1, the number is not below its place
set-le : (c m : ℕ) → is_set m c ≡ true → 2 ^ c ≤ m
set-le zero m h = omega (arith, eqb-true (m % 2) 1 (sym (set_low m) ∙ h))
set-le (suc c) m h = omega (arith, pow-suc 2 c, set-le c (m / 2) (sym (set_half m c) ∙ h))

without_step : (m c : ℕ) → without_bit m (suc c) ≡ without_bit (m / 2) c * 2 + m % 2
unfolding without_bit
without_step m c = rw (set_half m c) (go (is_set (m / 2) c) refl)
  where
    go : (x : Bool) → is_set (m / 2) c ≡ x → (if x then m - 2 ^ suc c else m) ≡ (if x then m / 2 - 2 ^ c else m / 2) * 2 + m % 2
    go true e = omega (arith, pow-suc 2 c, set-le c (m / 2) e)
    go false e = omega arith

-- Bit c is 1, and the others are as before;
pub with-exactly : (c m k : ℕ) → is_set (with_bit m c) k ≡ (if eqb k c then true else is_set m k)
with-exactly =
    bit_exactly with_bit true
    (λ m. set_low (with_bit m 0) ∙ ap (λ (n : ℕ). eqb n 1) (odd m))
    (λ m. omega (arith, with_low m))
    with-step
  where
    odd : (m : ℕ) → with_bit m 0 % 2 ≡ 1
    odd m = omega (arith, with_low m)

-- or 0, and the others are as before.
pub without_exactly : (c m k : ℕ) → is_set (without_bit m c) k ≡ (if eqb k c then false else is_set m k)
without_exactly =
    bit_exactly without_bit false
    (λ m. set_low (without_bit m 0) ∙ ap (λ (n : ℕ). eqb n 1) (even m))
    (λ m. omega (arith, without_low m))
    without_step
  where
    even : (m : ℕ) → without_bit m 0 % 2 ≡ 0
    even m = omega (arith, without_low m)

-- ---- the same in the machine's operations

-- 1, shifted in 64 digits
pub one_at : (c : ℕ) → c < 64 → 1 * 2 ^ c % 2 ^ 64 ≡ 2 ^ c
one_at c h = shl_exact 1 c 64 (omega arith) (omega arith) ∙ one-mul (2 ^ c)

pub or-with : (c m : ℕ) → bit_or m (2 ^ c) ≡ with_bit m c
or-with zero m = or_step m 1 ∙ rw (or_zero_r (m / 2)) (omega (arith, with_low m))
or-with (suc c) m =
    let h : 2 ^ suc c / 2 ≡ 2 ^ c = omega (arith, pow-suc 2 c) in
    let l : 2 ^ suc c % 2 ≡ 0 = omega (arith, pow-suc 2 c) in
    or_step m (2 ^ suc c) ∙ rw (h, l, or-with c (m / 2)) (omega (arith, with-step m c))

-- with a mask of w + 1 digits
pub and_without : (c w m : ℕ) → c ≤ w → m < 2 ^ suc w → bit_and m (2 ^ suc w - 1 - 2 ^ c) ≡ without_bit m c
and_without zero w m l h =
    let p : zero < 2 ^ w = pow_pos w in
    let a : (2 ^ suc w - 1 - 1) / 2 ≡ 2 ^ w - 1 = omega (arith, pow-suc 2 w) in
    let b : (2 ^ suc w - 1 - 1) % 2 ≡ 0 = omega (arith, pow-suc 2 w) in
    let whole : m / 2 % 2 ^ w ≡ m / 2 = mod-eq_of_lt (omega (arith, pow-suc 2 w)) in
    and_step m (2 ^ suc w - 1 - 1) ∙ rw (a, b, and_mask (m / 2) w, whole) (omega (arith, without_low m))
and_without (suc c) zero m l h = absurd (omega arith)
and_without (suc c) (suc w) m l h =
    let p : 2 ^ c ≤ 2 ^ w = pow_mono (omega arith) in
    let q : zero < 2 ^ w = pow_pos w in
    let a : (2 ^ suc (suc w) - 1 - 2 ^ suc c) / 2 ≡ 2 ^ suc w - 1 - 2 ^ c = omega (arith, pow-suc 2 c, pow-suc 2 (suc w), pow-suc 2 w) in
    let b : (2 ^ suc (suc w) - 1 - 2 ^ suc c) % 2 ≡ 1 = omega (arith, pow-suc 2 c, pow-suc 2 (suc w), pow-suc 2 w) in
    and_step m (2 ^ suc (suc w) - 1 - 2 ^ suc c)
    ∙ rw (a, b, and_without c w (m / 2) (omega arith) (omega (arith, pow-suc 2 (suc w)))) (omega (arith, without_step m c))

-- ---- numbers of n bits

pub past_clear : (n m : ℕ) → m < 2 ^ n → is_set m n ≡ false
unfolding is_set
past_clear n m h = let z : m / 2 ^ n ≡ 0 = div-eq_of_lt h in rw z

pub with-fits : (n c m : ℕ) → c < n → m < 2 ^ n → with_bit m c < 2 ^ n
with-fits n c m c< m< = rw (← or-with c m) (or_lt n m (2 ^ c) m< (pow-lt c<))

pub without_fits : (n c m : ℕ) → m < 2 ^ n → without_bit m c < 2 ^ n
unfolding without_bit
without_fits n c m m< = go (is_set m c)
  where
    go : (x : Bool) → (if x then m - 2 ^ c else m) < 2 ^ n
    go true = omega arith
    go false = m<

-- Where all bits are the same, the numbers are.
pub same_bits : (n a b : ℕ) → a < 2 ^ n → b < 2 ^ n → ((k : ℕ) → k < n → is_set a k ≡ is_set b k) → a ≡ b
same_bits zero a b a< b< same = omega arith
same_bits (suc n) a b a< b< same =
    let rest : a / 2 ≡ b / 2 =
    same_bits n (a / 2) (b / 2) (omega (arith, pow-suc 2 n)) (omega (arith, pow-suc 2 n))
    (λ k l. sym (set_half a k) ∙ same (suc k) (omega arith) ∙ set_half b k) in
    let low : a % 2 ≡ b % 2 = lowest in
    omega arith
  where
    zeroth : (m : ℕ) → m % 2 ≡ (if is_set m 0 then 1 else 0)
    zeroth m = ap (λ (x : ℕ). x % 2) (sym (div-one m)) ∙ digit m 0

    lowest : a % 2 ≡ b % 2
    lowest = zeroth a ∙ ap (λ (x : Bool). if x then 1 else 0) (same 0 (omega arith)) ∙ sym (zeroth b)

-- ---- the n bits from c on

-- the lowest digit of the lowest ones, and the others
low_digit : (x k : ℕ) → x % 2 ^ suc k % 2 ≡ x % 2
low_digit x k = ap (λ (n : ℕ). x % 2 ^ n % 2) (sym (add-one k)) ∙ mod-mod-pow x k 1

other-digits : (m c k : ℕ) → (m / 2 ^ c) % 2 ^ suc k / 2 ≡ m / 2 ^ suc c % 2 ^ k
other-digits m c k =
    ap (λ (n : ℕ). (m / 2 ^ c) % 2 ^ n / 2) (sym (add-one k)) ∙ field (m / 2 ^ c) k 1
    ∙ ap (λ (n : ℕ). n % 2 ^ k) (shr-shr m c 1) ∙ ap (λ (n : ℕ). m / 2 ^ n % 2 ^ k) (add-one c)

-- So many of them are 1,
pub ones_window : (n m c : ℕ) → ones (m / 2 ^ c % 2 ^ n) ≡ count_from (is_set m) c n
unfolding count_from
ones_window zero m c = ap ones (mod-one (m / 2 ^ c)) ∙ (unfold ones in refl)
ones_window (suc n) m c =
    ones_step (m / 2 ^ c % 2 ^ suc n)
    ∙ ap₂ (λ (a b : ℕ). a + ones b) (low_digit (m / 2 ^ c) n ∙ digit m c) (other-digits m c n)
    ∙ ap (λ (a : ℕ). (if is_set m c then 1 else 0) + a) (ones_window n m (suc c))

-- the complement of y, of w + 1 digits: its lowest digit, and the others
not_low : (w y : ℕ) → y < 2 ^ suc w → (2 ^ suc w - 1 - y) % 2 ≡ 1 - y % 2
not_low w y h = omega (arith, pow-suc 2 w)

not-rest : (w y : ℕ) → y < 2 ^ suc w → (2 ^ suc w - 1 - y) / 2 ≡ 2 ^ w - 1 - y / 2
not-rest w y h = omega (arith, pow-suc 2 w)

-- and so far from c on is the first that is 0: by the complement of them, in a number that has more digits.
pub clear_window : (n j m c : ℕ) → c + count_trailing_zeros (n + suc j) (2 ^ (n + suc j) - 1 - m / 2 ^ c % 2 ^ n) ≡ first_from (λ k. not (is_set m k)) c n
unfolding count_trailing_zeros
clear_window zero j m c =
    let e : zero + suc j ≡ suc j = omega arith in
    let odd : (2 ^ suc j - 1) % 2 ≡ 1 = omega (arith, pow-suc 2 j, pow_pos j) in
    rw (e, mod-one (m / 2 ^ c)) (rw (sub-zero (2 ^ suc j - 1)) (rw odd (unfold first_from in omega arith)))
clear_window (suc n) j m c =
    let w : ℕ = n + suc j in
    let y : ℕ = m / 2 ^ c % 2 ^ suc n in
    let e : suc n + suc j ≡ suc w = suc-add n (suc j) in
    let fits : y < 2 ^ suc w = lt_of_lt_of_le (mod-lt (m / 2 ^ c) (pow_pos (suc n))) (pow_mono (omega arith)) in
    let low : y % 2 ≡ (if is_set m c then 1 else 0) = low_digit (m / 2 ^ c) n ∙ digit m c in
    rw (e, first_turn (λ k. not (is_set m k)) c n, not_low w y fits, low, not-rest w y fits, other-digits m c n)
    (go (is_set m c) _ (clear_window n j m (suc c)))
  where
    go : (x : Bool) (t : ℕ) → suc c + t ≡ first_from (λ k. not (is_set m k)) (suc c) n
        → c + under (1 - (if x then 1 else 0)) t ≡ (if not x then c else first_from (λ k. not (is_set m k)) (suc c) n)
    go true t h = omega (arith, h)
    go false t h = omega arith
