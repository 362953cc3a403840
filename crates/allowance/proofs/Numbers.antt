-- The arithmetic of demand 3: what one charge does to a level, and what a verdict says.
use Prim.Native.Nat.{ℕ, zero, suc, ◌+◌, ◌*◌, ◌-◌, ◌≤◌, ◌<◌, min}
use native.Mathlib.Omega.{arith}
use mathlib.Core.Path.{◌≡◌, refl}
use mathlib.Core.Bool.{Bool, true, false, cond, false≢true}
use lib.Dec.{ltb}
use borrow.Author.Tests.{ltb-true, ltb-false, lt-ltb, le-ltb}
use Rattle.allowance.specs.Bucket.{capacity, refill_rate, Bucket, level_now}
use Rattle.allowance.specs.Meter.{verdict}

pub level≤capacity : (b : Bucket) (t : ℕ) → level_now b t ≤ capacity
unfolding level_now
level≤capacity b t = omega arith

-- A full bucket stays full.
pub full-level : (t₀ t : ℕ) → level_now (record { level = capacity; updated = t₀ }) t ≡ capacity
unfolding level_now
full-level t₀ t = omega arith

-- The cap on the stored level says no more than the cap on the level now.
pub level-plain : (b : Bucket) (t : ℕ) → level_now b t ≡ min capacity (b.level + refill_rate * (t - b.updated))
unfolding level_now
level-plain b t = omega arith

-- A higher level stays the higher after a charge and a refill.
pub charge_monotone : (x y cost refill : ℕ) → x ≤ y → min capacity (x - cost + refill) ≤ min capacity (y - cost + refill)
charge_monotone x y cost refill h = omega arith

min_minus : (x f c : ℕ) → min x f - c ≡ min (x - c) (f - c)
min_minus x f c = omega arith

min_plus : (a b y : ℕ) → min (a + y) (min capacity (b + y)) ≡ min capacity (min a b + y)
min_plus a b y = omega arith

-- A charge c at time r, on the smaller of f and the figure of an earlier call at r₁, refilled up to t.
pub charge-level : (spent f c r r₁ t : ℕ) → r₁ ≤ r → r ≤ t → spent + c ≤ capacity + refill_rate * (r - r₁)
    → min (capacity + refill_rate * (t - r₁) - (spent + c)) (min capacity (f - c + refill_rate * (t - r)))
    ≡ min capacity (min (capacity + refill_rate * (r - r₁) - spent) f - c + refill_rate * (t - r))
charge-level spent f c r r₁ t h h' k =
    rw (whole, min_minus (capacity + refill_rate * (r - r₁) - spent) f c) (min_plus _ (f - c) (refill_rate * (t - r)))
  where
    whole : capacity + refill_rate * (t - r₁) - (spent + c) ≡ capacity + refill_rate * (r - r₁) - spent - c + refill_rate * (t - r)
    whole = omega arith

-- The verdict is 9 exactly where no earlier check applies, the call is charged, and the level is below the price.
pub verdict-nine : (n : ℕ) (k : Bool) (level price : ℕ) → n ≤ 8 → verdict n k level price ≡ 9 → (n ≡ 0) × (k ≡ true) × (level < price)
unfolding verdict
verdict-nine zero true level price h e = (refl, refl, go (ltb level price) refl e)
  where
    go : (b : Bool) → ltb level price ≡ b → ◌≡◌ {A = ℕ} (cond b 9 0) 9 → level < price
    go true q e = ltb-true level price q
    go false q e = omega arith
verdict-nine zero false level price h e = absurd (omega arith)
verdict-nine (suc n) k level price h e = absurd (omega arith)

pub nine-verdict : (n : ℕ) (k : Bool) (level price : ℕ) → n ≡ 0 → k ≡ true → level < price → verdict n k level price ≡ 9
unfolding verdict
nine-verdict n k level price e e' h = rw (e, e', lt-ltb level price h)

-- It is 0 exactly where no earlier check applies and, if the call is charged, the price is not above the level.
pub verdict-zero : (n : ℕ) (k : Bool) (level price : ℕ) → verdict n k level price ≡ 0 → (n ≡ 0) × (k ≡ true → price ≤ level)
unfolding verdict
verdict-zero zero true level price e = (refl, λ _. go (ltb level price) refl e)
  where
    go : (b : Bool) → ltb level price ≡ b → ◌≡◌ {A = ℕ} (cond b 9 0) 0 → price ≤ level
    go true q e = omega arith
    go false q e = ltb-false level price q
verdict-zero zero false level price e = (refl, λ q. absurd (false≢true q))
verdict-zero (suc n) k level price e = absurd (omega arith)

pub zero-verdict : (n : ℕ) (k : Bool) (level price : ℕ) → n ≡ 0 → (k ≡ true → price ≤ level) → verdict n k level price ≡ 0
unfolding verdict
zero-verdict n true level price e h = rw (e, le-ltb level price (h refl))
zero-verdict n false level price e h = rw e
