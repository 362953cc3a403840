-- Searches by number: what the first that passes is, and what it is when none does. Assumes nothing.
use Rattle.std.specs.Prelude.{if◌then◌else◌}
use Prim.Native.Nat.{ℕ, zero, suc, ◌+◌, ◌≤◌, ◌<◌}
use mathlib.Core.Path.{◌≡◌, refl, sym, ap, ◌∙◌}
use mathlib.Core.Bool.{Bool, true, false, true≢false, false≢true}
use native.Mathlib.Omega.{arith}
use native.Mathlib.Decide.{ℕ_discrete, dec_lt}
use Rattle.rules.specs.Searches.{first_from, any_from}

-- One turn of each.
module _ (f : ℕ → Bool) (i n : ℕ) where
  pub first_turn : first_from f i (suc n) ≡ (if f i then i else first_from f (suc i) n)
  unfolding first_from
  first_turn = go (f i)
    where
      go : (x : Bool) → (elim x as (λ z. ℕ) [ true ↦ i | false ↦ first_from f (suc i) n ]) ≡ (if x then i else first_from f (suc i) n)
      go true = refl
      go false = refl

  pub any_turn : any_from f i (suc n) ≡ (if f i then true else any_from f (suc i) n)
  unfolding any_from
  any_turn = go (f i)
    where
      go : (x : Bool) → (elim x as (λ z. Bool) [ true ↦ true | false ↦ any_from f (suc i) n ]) ≡ (if x then true else any_from f (suc i) n)
      go true = refl
      go false = refl

-- The first that passes is not below the start, and passes where it is not past the end.
pub first_low : (f : ℕ → Bool) (i n : ℕ) → i ≤ first_from f i n
first_low f i zero = unfold first_from in omega arith
first_low f i (suc n) = rw (first_turn f i n) (go (f i) (first_low f (suc i) n))
  where
    go : (x : Bool) → suc i ≤ first_from f (suc i) n → i ≤ (if x then i else first_from f (suc i) n)
    go true l = omega arith
    go false l = omega arith

pub first_passes : (f : ℕ → Bool) (i n : ℕ) → first_from f i n < i + n → f (first_from f i n) ≡ true
first_passes f i zero l = absurd (unfold first_from in omega arith)
first_passes f i (suc n) l = rw (first_turn f i n) (go (f i) refl (rw (first_turn f i n) at l) (first_passes f (suc i) n))
  where
    go : (x : Bool) → f i ≡ x → (if x then i else first_from f (suc i) n) < i + suc n
        → (first_from f (suc i) n < suc i + n → f (first_from f (suc i) n) ≡ true) → f (if x then i else first_from f (suc i) n) ≡ true
    go true e l ih = e
    go false e l ih = ih (omega arith)

-- Each before it fails.
pub first_below : (f : ℕ → Bool) (i n k : ℕ) → i ≤ k → k < first_from f i n → f k ≡ false
first_below f i zero k l u = absurd (unfold first_from in omega arith)
first_below f i (suc n) k l u = go (f i) refl (rw (first_turn f i n) at u) (ℕ_discrete k i) (first_below f (suc i) n k)
  where
    go : (x : Bool) → f i ≡ x → k < (if x then i else first_from f (suc i) n) → Dec (k ≡ i)
        → (suc i ≤ k → k < first_from f (suc i) n → f k ≡ false) → f k ≡ false
    go true e u d ih = absurd (omega arith)
    go false e u (yes s) ih = rw s e
    go false e u (no s) ih = ih (omega arith) u

-- Where none passes, each fails.
pub none_passes : (f : ℕ → Bool) (i n : ℕ) → any_from f i n ≡ false → (k : ℕ) → i ≤ k → k < i + n → f k ≡ false
none_passes f i zero h k l u = absurd (omega arith)
none_passes f i (suc n) h k l u = go (f i) refl (sym (any_turn f i n) ∙ h) (ℕ_discrete k i) (λ h. none_passes f (suc i) n h k)
  where
    go : (x : Bool) → f i ≡ x → (if x then true else any_from f (suc i) n) ≡ false → Dec (k ≡ i)
        → (any_from f (suc i) n ≡ false → suc i ≤ k → k < suc i + n → f k ≡ false) → f k ≡ false
    go true e h d ih = absurd (true≢false h)
    go false e h (yes s) ih = rw s e
    go false e h (no s) ih = ih h (omega arith) (omega arith)

-- The other way: where each fails none passes, and where one passes the first is not past it.
pub all_fail : (f : ℕ → Bool) (i n : ℕ) → ((k : ℕ) → i ≤ k → k < i + n → f k ≡ false) → any_from f i n ≡ false
all_fail f i zero h = unfold any_from in refl
all_fail f i (suc n) h =
    any_turn f i n ∙ rw (h i (omega arith) (omega arith)) (all_fail f (suc i) n (λ k l u. h k (omega arith) (omega arith)))

pub first_found : (f : ℕ → Bool) (i n k : ℕ) → i ≤ k → k < i + n → f k ≡ true → first_from f i n ≤ k
first_found f i zero k l u h = absurd (omega arith)
first_found f i (suc n) k l u h = rw (first_turn f i n) (go (f i) refl (ℕ_discrete k i) (first_found f (suc i) n k))
  where
    go : (x : Bool) → f i ≡ x → Dec (k ≡ i) → (suc i ≤ k → k < suc i + n → f k ≡ true → first_from f (suc i) n ≤ k)
        → (if x then i else first_from f (suc i) n) ≤ k
    go true e d ih = l
    go false e (yes s) ih = absurd (true≢false (sym h ∙ ap f s ∙ e))
    go false e (no s) ih = ih (omega arith) (omega arith) h

pub first-none : (f : ℕ → Bool) (i n : ℕ) → ((k : ℕ) → i ≤ k → k < i + n → f k ≡ false) → first_from f i n ≡ i + n
first-none f i zero h = unfold first_from in omega arith
first-none f i (suc n) h =
    let e : suc i + n ≡ i + suc n = omega arith in
    first_turn f i n ∙ rw (h i (omega arith) (omega arith)) (first-none f (suc i) n (λ k l u. h k (omega arith) (omega arith)) ∙ e)

-- The first is known by itself passing and the lower ones failing.
pub first-is : (f : ℕ → Bool) (i n k : ℕ) → i ≤ k → k < i + n → f k ≡ true → ((j : ℕ) → i ≤ j → j < k → f j ≡ false)
    → first_from f i n ≡ k
first-is f i n k l u h below = go (dec_lt (first_from f i n) k)
  where
    found : first_from f i n ≤ k
    found = first_found f i n k l u h

    go : Dec (first_from f i n < k) → first_from f i n ≡ k
    go (yes less) =
        absurd (true≢false (sym (first_passes f i n (omega arith)) ∙ below (first_from f i n) (first_low f i n) less))
    go (no more) = omega (arith, found)

-- Whether one passes: where one is known, and which one does.
pub any_passes : (f : ℕ → Bool) (i n k : ℕ) → i ≤ k → k < i + n → f k ≡ true → any_from f i n ≡ true
any_passes f i n k l u h = go (any_from f i n) refl
  where
    go : (x : Bool) → any_from f i n ≡ x → x ≡ true
    go true e = refl
    go false e = absurd (true≢false (sym h ∙ none_passes f i n e k l u))

pub any_found : (f : ℕ → Bool) (i n : ℕ) → any_from f i n ≡ true → (k : ℕ) × (i ≤ k) × (k < i + n) × (f k ≡ true)
any_found f i zero h = absurd (false≢true (unfold any_from in h))
any_found f i (suc n) h = go (f i) refl (sym (any_turn f i n) ∙ h) (any_found f (suc i) n)
  where
    go : (x : Bool) → f i ≡ x → (if x then true else any_from f (suc i) n) ≡ true
        → (any_from f (suc i) n ≡ true → (k : ℕ) × (suc i ≤ k) × (k < suc i + n) × (f k ≡ true))
        → (k : ℕ) × (i ≤ k) × (k < i + suc n) × (f k ≡ true)
    go true e h ih = (i, omega arith, omega arith, e)
    go false e h ih = let q = ih h in (q.0, omega (arith, q.1), omega (arith, q.2), q.3)

-- Two tests of which each has a number that passes where the other has one.
pub any_alike : (f g : ℕ → Bool) (i n : ℕ) → ((k : ℕ) → i ≤ k → k < i + n → f k ≡ true → any_from g i n ≡ true)
    → ((k : ℕ) → i ≤ k → k < i + n → g k ≡ true → any_from f i n ≡ true) → any_from f i n ≡ any_from g i n
any_alike f g i n to from = go (any_from f i n) (any_from g i n) refl refl
  where
    go : (x y : Bool) → any_from f i n ≡ x → any_from g i n ≡ y → x ≡ y
    go true true a b = refl
    go false false a b = refl
    go true false a b = let q = any_found f i n a in absurd (true≢false (sym (to q.0 q.1 q.2 q.3) ∙ b))
    go false true a b = let q = any_found g i n b in absurd (true≢false (sym (from q.0 q.1 q.2 q.3) ∙ a))
