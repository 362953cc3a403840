-- Searches by number over any test: one turn, the end, and that one passes exactly if the first that does comes before the end. Assumes nothing.
use Prim.Native.Nat.{ℕ, zero, suc, ◌+◌, ◌-◌, ◌≤◌, ◌<◌}
use mathlib.Core.Path.{◌≡◌, refl, sym, ap, ◌∙◌}
use mathlib.Core.Bool.{Bool, true, false, ◌||◌}
use native.Mathlib.Numerals.{add-one}
use native.Mathlib.Omega.{arith}
use lib.Dec.{ltb}
use borrow.Author.Tests.{lt-ltb, le-ltb}
use Rattle.std.specs.List.{list_any, range_with_len}
use Rattle.rules.specs.Searches.{first_from, any_from}

-- the numbers from i up to the end, where t is what the test of i answers
module _ (f : ℕ → Bool) {i : ℕ} (end : ℕ) where
  pub first_hit : {t : Bool} → i < end → t ≡ f i → t ≡ true → first_from f i (end - i) ≡ i
  unfolding first_from
  first_hit h test e = let more : end - i ≡ suc (end - (i + 1)) = omega arith in rw (more, first_from, ← test, e)

  pub first-miss : {t : Bool} → i < end → t ≡ f i → t ≡ false → first_from f i (end - i) ≡ first_from f (i + 1) (end - (i + 1))
  unfolding first_from
  first-miss h test e = let more : end - i ≡ suc (end - (i + 1)) = omega arith in rw (more, first_from, ← test, e, add-one i)

  pub first-none : i ≤ end → end ≤ i → first_from f i (end - i) ≡ end
  unfolding first_from
  first-none l h = let e : end - i ≡ 0 = omega arith in rw e (omega arith)

-- one turn of both searches, by the test of i
any_turn : (f : ℕ → Bool) (i n : ℕ) (t : Bool) → any_from f (suc i) n ≡ ltb (first_from f (suc i) n) (suc i + n)
    → elim t [ true ↦ true | false ↦ any_from f (suc i) n ] ≡ ltb (elim t [ true ↦ i | false ↦ first_from f (suc i) n ]) (i + suc n)
any_turn f i n true h = sym (lt-ltb i (i + suc n) (omega arith))
any_turn f i n false h = let e : suc i + n ≡ i + suc n = omega arith in h ∙ ap (ltb (first_from f (suc i) n)) e

pub any_first : (f : ℕ → Bool) (i n : ℕ) → any_from f i n ≡ ltb (first_from f i n) (i + n)
unfolding first_from any_from
any_first f i zero = sym (le-ltb i (i + 0) (omega arith))
any_first f i (suc n) = any_turn f i n (f i) (any_first f (suc i) n)

-- a search of the library over the n numbers from i on
pub any_range : (f : ℕ → Bool) (i n : ℕ) → list_any f (range_with_len i n) ≡ any_from f i n
unfolding any_from
any_range f i zero = refl
any_range f i (suc n) = go (f i) (rw (add-one i) (any_range f (suc i) n))
  where
    go : (t : Bool) → list_any f (range_with_len (i + 1) n) ≡ any_from f (suc i) n
        → t || list_any f (range_with_len (i + 1) n) ≡ elim t as (λ z. Bool) [ true ↦ true | false ↦ any_from f (suc i) n ]
    go true h = refl
    go false h = h

-- a search comes to the end at most
pub first-most : (f : ℕ → Bool) (i n : ℕ) → first_from f i n ≤ i + n
unfolding first_from
first-most f i zero = omega arith
first-most f i (suc n) = go (f i) (first-most f (suc i) n)
  where
    go : (t : Bool) → first_from f (suc i) n ≤ suc i + n → elim t as (λ z. ℕ) [ true ↦ i | false ↦ first_from f (suc i) n ] ≤ i + suc n
    go true l = omega arith
    go false l = omega arith
