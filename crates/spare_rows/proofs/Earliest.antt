-- The search row by row finds the row of a new lease: what the row found so far is, turn by turn, and at the end. Assumes nothing.
use Rattle.std.specs.Prelude.{if◌then◌else◌}
use Prim.Native.Nat.{ℕ, zero, suc, ◌+◌, ◌-◌, ◌≤◌, ◌<◌}
use mathlib.Core.Path.{◌≡◌, refl, sym, ap, ◌∙◌}
use mathlib.Core.Logic.{◌⊎◌, inl, inr, ⊎_elim}
use mathlib.Core.Bool.{Bool, true, false, true≢false}
use mathlib.Core.List.{List}
use native.Mathlib.Numerals.{add-one}
use native.Mathlib.Omega.{arith}
use native.Mathlib.Decide.{ℕ_discrete}
use lib.Dec.{eqb, ltb}
use borrow.Author.Tests.{eqb-true, eqb-false, ltb-true, ltb-false}
use Rattle.rules.specs.Sizes.{rows_per_partner}
use Rattle.rules.specs.Searches.{first_row, end_row}
use Rattle.rules.specs.Tables.{expiry, live}
use Rattle.rules.specs.Leases.{spare_row}
use Rattle.rules.proofs.Leases.{spare-is, spare-none}
use Rattle.lease_table.proofs.Rows.{own-count}
use Rattle.spare_rows.specs.Earliest.{earlier_of, earliest_from}

module _ (ls : List ℕ) (now p : ℕ) where
  -- The rows of the partner below r have been looked at: all are live, and what was found is the end;
  record NoneYet (r best : ℕ) : Type 0 where
    at_end : best ≡ end_row p
    all_live : (k : ℕ) → first_row p ≤ k → k < r → live ls now k ≡ true

  -- or it is the earliest of them, and the lowest of these.
  record Found (r best : ℕ) : Type 0 where
    low : first_row p ≤ best
    high : best < r
    spare : live ls now best ≡ false
    least : (k : ℕ) → first_row p ≤ k → k < r → live ls now k ≡ false → expiry ls best ≤ expiry ls k
    lower : (k : ℕ) → first_row p ≤ k → live ls now k ≡ false → k < best → expiry ls best < expiry ls k

  abbrev Best : ℕ → ℕ → Type 0
  Best r best = NoneYet r best ⊎ Found r best

  -- what holds below a row, and of it
  one_more : (P : ℕ → Type 0) (r : ℕ) → ((k : ℕ) → first_row p ≤ k → k < r → P k) → P r → (k : ℕ) → first_row p ≤ k → k < suc r → P k
  one_more P r below here k l u = go (ℕ_discrete k r)
    where
      go : Dec (k ≡ r) → P k
      go (yes e) = rw e here
      go (no n) = below k l (omega arith)

  -- ---- one turn, by what the tests of row r say

  module _ (r best : ℕ) (low : first_row p ≤ r) (high : r < end_row p) where
    -- it is live
    stays : live ls now r ≡ true → Best r best → Best (suc r) best
    stays l =
        ⊎_elim
        (λ b. inl (record { at_end = b.at_end; all_live = one_more (λ k. live ls now k ≡ true) r b.all_live l }))
        (λ b.
        inr
        (record {
          low = b.low;
          high = omega (arith, b.high);
          spare = b.spare;
          least = one_more (λ k. live ls now k ≡ false → expiry ls best ≤ expiry ls k) r b.least (λ s. absurd (true≢false (sym l ∙ s)));
          lower = b.lower;
        }))

    -- it is the first that is not
    begins : live ls now r ≡ false → best ≡ end_row p → Best r best → Best (suc r) r
    begins s e =
        ⊎_elim
        (λ b.
        inr
        (record {
          low = low;
          high = omega arith;
          spare = s;
          least = one_more (λ k. live ls now k ≡ false → expiry ls r ≤ expiry ls k) r
              (λ k l u t. absurd (true≢false (sym (b.all_live k l u) ∙ t))) (λ t. omega arith);
          lower = λ k l t u. absurd (true≢false (sym (b.all_live k l u) ∙ t));
        }))
        (λ b. absurd (omega (arith, b.high)))

    -- it is earlier
    changes : live ls now r ≡ false → expiry ls r < expiry ls best → (best ≡ end_row p → ⊥) → Best r best → Best (suc r) r
    changes s less n =
        ⊎_elim
        (λ b. absurd (n b.at_end))
        (λ b.
        inr
        (record {
          low = low;
          high = omega arith;
          spare = s;
          least = one_more (λ k. live ls now k ≡ false → expiry ls r ≤ expiry ls k) r
              (λ k l u t. omega (arith, b.least k l u t)) (λ t. omega arith);
          lower = λ k l t u. omega (arith, b.least k l u t);
        }))

    -- it is not
    keeps : live ls now r ≡ false → expiry ls best ≤ expiry ls r → (best ≡ end_row p → ⊥) → Best r best → Best (suc r) best
    keeps s more n =
        ⊎_elim
        (λ b. absurd (n b.at_end))
        (λ b.
        inr
        (record {
          low = b.low;
          high = omega (arith, b.high);
          spare = b.spare;
          least = one_more (λ k. live ls now k ≡ false → expiry ls best ≤ expiry ls k) r b.least (λ t. more);
          lower = b.lower;
        }))

    turn : Best r best → Best (suc r) (earlier_of ls now (end_row p) best r)
    unfolding earlier_of
    turn b = go (live ls now r) (eqb best (end_row p)) (ltb (expiry ls r) (expiry ls best)) refl refl refl
      where
        go : (t u v : Bool) → live ls now r ≡ t → eqb best (end_row p) ≡ u → ltb (expiry ls r) (expiry ls best) ≡ v
            → Best (suc r) (if t then best else if u then r else if v then r else best)
        go true u v l e f = stays l b
        go false true v l e f = begins l (eqb-true best (end_row p) e) b
        go false false true l e f = changes l (ltb-true (expiry ls r) (expiry ls best) f) (eqb-false best (end_row p) e) b
        go false false false l e f = keeps l (ltb-false (expiry ls r) (expiry ls best) f) (eqb-false best (end_row p) e) b

  -- ---- all rows

  all-rows : (n r best : ℕ) → first_row p ≤ r → r + n ≡ end_row p → Best r best → Best (end_row p) (earliest_from ls now (end_row p) best r n)
  unfolding earliest_from
  all-rows zero r best low e b = let s : r ≡ end_row p = omega arith in rw (← s) b
  all-rows (suc n) r best low e b = all-rows n (suc r) _ (omega arith) (omega arith) (turn r best low (omega arith) b)

  is-spare : (best : ℕ) → Best (end_row p) best → spare_row ls now p ≡ best
  is-spare best =
      ⊎_elim
      (λ b. spare-none ls now p (λ k o. b.all_live k (omega arith) (omega arith)) ∙ sym b.at_end)
      (λ b.
      spare-is ls now p best (omega (arith, b.low, b.high), b.spare)
      (λ k s. b.least k (omega (arith, s.0)) (omega (arith, s.0)) s.1)
      (λ k s u. b.lower k (omega (arith, s.0)) s.1 u))

  earliest-is : spare_row ls now p ≡ earliest_from ls now (end_row p) (end_row p) (first_row p) rows_per_partner
  earliest-is =
      is-spare _
      (all-rows rows_per_partner (first_row p) (end_row p) (omega arith) refl
      (inl (record { at_end = refl; all_live = λ k l u. absurd (omega arith) })))

  -- ---- the loop: all rows at its start, and then those from one up to the end

  pub search_start : {end : ℕ} → end ≡ end_row p → spare_row ls now p ≡ earliest_from ls now end end (first_row p) (end - first_row p)
  search_start e = rw (own-count p e, e) earliest-is

module _ (ls : List ℕ) (now end best row : ℕ) where
  pub search_turn : {next : ℕ} → row < end → next ≡ earlier_of ls now end best row
      → earliest_from ls now end best row (end - row) ≡ earliest_from ls now end next (row + 1) (end - (row + 1))
  unfolding earliest_from
  search_turn h e =
      let more : end - row ≡ suc (end - (row + 1)) = omega arith in
      ap (earliest_from ls now end best row) more ∙ rw (e, add-one row)

  pub search_end : end ≤ row → earliest_from ls now end best row (end - row) ≡ best
  unfolding earliest_from
  search_end h = let e : end - row ≡ 0 = omega arith in rw e

  -- what is found is not past the end
  pub earlier-most : best ≤ end → row < end → earlier_of ls now end best row ≤ end
  unfolding earlier_of
  earlier-most l h = go (live ls now row) (eqb best end) (ltb (expiry ls row) (expiry ls best))
    where
      go : (t u v : Bool) → (if t then best else if u then row else if v then row else best) ≤ end
      go true u v = l
      go false true v = omega arith
      go false false true = omega arith
      go false false false = l
