-- What is read of the map: how many connections a partner has, and its lowest closed number. Assumes nothing.
use Rattle.std.specs.Prelude.{if◌then◌else◌}
use Prim.Native.Nat.{ℕ, zero, suc, ◌+◌, ◌≤◌, ◌<◌}
use mathlib.Core.Path.{◌≡◌, refl, sym, ap, ap₂, ◌∙◌}
use mathlib.Core.Logic.{◌≢◌, ◌↔◌}
use mathlib.Core.Bool.{Bool, true, false, not, true≢false, not-not}
use mathlib.Core.List.{List}
use native.Mathlib.Omega.{arith}
use native.Mathlib.Decide.{dec_lt}
use lib.Dec.{ltb, lit≤}
use borrow.Author.Tests.{lt-ltb, le-ltb, not-false}
use Rattle.rules.specs.Sizes.{partners, connections_per_partner}
use Rattle.rules.specs.Searches.{first_from}
use Rattle.rules.specs.Tables.{partner_of, is_closed}
use Rattle.rules.proofs.Searches.{first_low, first_passes, first_below, first_found}
use Rattle.connection_map.specs.Bits.{is_set, count_from}
use Rattle.connection_map.specs.Maps.{Agrees, first_connection, end_connection, connections_of, first_clear, lowest_closed, partner_connections}
use Rattle.connection_map.specs.Claims.{Lowest, taken_of}

-- ---- counts

count_most : (f : ℕ → Bool) (i n : ℕ) → count_from f i n ≤ n
unfolding count_from
count_most f i zero = lit≤ tt
count_most f i (suc n) = go (f i) (count_most f (suc i) n)
  where
    go : (x : Bool) → count_from f (suc i) n ≤ n → (if x then 1 else 0) + count_from f (suc i) n ≤ suc n
    go true l = omega arith
    go false l = omega arith

count_same : (f g : ℕ → Bool) (i n : ℕ) → ((k : ℕ) → i ≤ k → k < i + n → f k ≡ g k) → count_from f i n ≡ count_from g i n
unfolding count_from
count_same f g i zero h = refl
count_same f g i (suc n) h =
    ap₂ (λ (b : Bool) (m : ℕ). (if b then 1 else 0) + m) (h i (omega arith) (omega arith))
    (count_same f g (suc i) n (λ k l u. h k (omega arith) (omega arith)))

-- All pass exactly if so many do.
count-all : (f : ℕ → Bool) (i n : ℕ) → (count_from f i n ≡ n) ↔ ((k : ℕ) → i ≤ k → k < i + n → f k ≡ true)
unfolding count_from
count-all f i zero = ((λ e k l u. absurd (omega arith)), (λ h. refl))
count-all f i (suc n) = (there (f i) refl (count-all f (suc i) n).0, λ h. back h (count-all f (suc i) n).1)
  where
    there : (x : Bool) → f i ≡ x → (count_from f (suc i) n ≡ n → (k : ℕ) → suc i ≤ k → k < suc i + n → f k ≡ true)
        → (if x then 1 else 0) + count_from f (suc i) n ≡ suc n → (k : ℕ) → i ≤ k → k < i + suc n → f k ≡ true
    there false e ih s k l u = absurd (omega (arith, count_most f (suc i) n))
    there true e ih s k l u = at (dec_lt i k)
      where
        at : Dec (i < k) → f k ≡ true
        at (yes a) = ih (omega arith) k (omega arith) (omega arith)
        at (no b) = let same : k ≡ i = omega arith in rw same e

    back : ((k : ℕ) → i ≤ k → k < i + suc n → f k ≡ true) → (((k : ℕ) → suc i ≤ k → k < suc i + n → f k ≡ true) → count_from f (suc i) n ≡ n)
        → (if f i then 1 else 0) + count_from f (suc i) n ≡ suc n
    back h ih = rw (h i (omega arith) (omega arith), ih (λ k l u. h k (omega arith) (omega arith))) (omega arith)

-- ---- the lowest

-- whichever test tells who is closed
module _ (closed : ℕ → Bool) (p : ℕ) (p< : p < partners) where
  abbrev first : ℕ
  first = first_from closed (first_connection p) connections_per_partner

  lowest-of : Lowest closed p (if ltb first (end_connection p) then first else 255)
  lowest-of = go (dec_lt first (end_connection p))
    where
      go : Dec (first < end_connection p) → Lowest closed p (if ltb first (end_connection p) then first else 255)
      go (yes l) =
          rw (lt-ltb first (end_connection p) l)
          (record {
            none = (
              (λ e. absurd (omega (arith, l, p<))),
              (λ h.
                  absurd
                  (true≢false
                  (sym (first_passes closed (first_connection p) connections_per_partner l)
                  ∙ h first (omega (arith, l, first_low closed (first_connection p) connections_per_partner))))),
            );
            own = λ n. omega (arith, l, first_low closed (first_connection p) connections_per_partner);
            is_closed_lem = λ n. first_passes closed (first_connection p) connections_per_partner l;
            least = λ n c mine h. first_found closed (first_connection p) connections_per_partner c (omega arith) (omega arith) h;
          })
      go (no g) =
          rw (le-ltb first (end_connection p) (omega (arith, g)))
          (record {
            none = (
              (λ e c mine. first_below closed (first_connection p) connections_per_partner c (omega arith) (omega (arith, g))),
              (λ h. refl),
            );
            own = λ n. absurd (n refl);
            is_closed_lem = λ n. absurd (n refl);
            least = λ n. absurd (n refl);
          })

module _ (map p : ℕ) where
  -- "or 255 exactly if all eight are taken", and else the lowest of the partner's numbers whose bit is 0
  pub lowest-exactly : p < partners → Lowest (λ c. not (is_set map c)) p (lowest_closed map p)
  unfolding lowest_closed first_clear
  lowest-exactly p< = lowest-of (λ c. not (is_set map c)) p p<

  -- It is so with as many connections as a partner can have.
  pub taken-exactly : p < partners → (connections_of map p ≡ connections_per_partner) ↔ (lowest_closed map p ≡ 255)
  unfolding connections_of
  taken-exactly p< =
      let all = count-all (is_set map) (first_connection p) connections_per_partner in
      let none = (lowest-exactly p<).none in (
        (λ e. none.1 (λ c mine. ap not (all.0 e c (omega arith) (omega arith)))),
        (λ e. all.1 (λ k l u. set_if k (none.0 e k (omega arith)))),
      )
    where
      set_if : (k : ℕ) → not (is_set map k) ≡ false → is_set map k ≡ true
      set_if k h = not-false (is_set map k) h

  -- "A partner number of 8 or more is answered with 3, 0 and 255."
  pub no_such_partner : partners ≤ p → partner_connections map p ≡ record { number = 3; connections = 0; lowest = 255 }
  unfolding partner_connections
  no_such_partner h = rw (le-ltb p partners h)

  pub of_partner : p < partners → partner_connections map p ≡ record { number = 0; connections = connections_of map p; lowest = lowest_closed map p }
  unfolding partner_connections
  of_partner h = rw (lt-ltb p partners h)

-- ---- of a map that agrees it is what the tables say

module _ (map : ℕ) (cs : List ℕ) (agrees : Agrees map cs) (p : ℕ) (p< : p < partners) where
  own_bit : (c : ℕ) → first_connection p ≤ c → c < end_connection p → is_set map c ≡ not (is_closed cs c)
  own_bit c l u = agrees.bits c (omega (arith, p<))

  -- "how many connections a partner has"
  pub counts_taken : connections_of map p ≡ taken_of (is_closed cs) p
  unfolding connections_of
  counts_taken = count_same (is_set map) (λ c. not (is_closed cs c)) (first_connection p) connections_per_partner own_bit

  own-clear : (c : ℕ) → partner_of c ≡ p → not (is_set map c) ≡ is_closed cs c
  own-clear c mine = ap not (own_bit c (omega arith) (omega arith)) ∙ not-not (is_closed cs c)

  -- "the lowest closed number of that partner"
  pub lowest-is-closed : Lowest (is_closed cs) p (lowest_closed map p)
  lowest-is-closed =
      let low = lowest-exactly map p p< in
      record {
        none = ((λ e c mine. sym (own-clear c mine) ∙ low.none.0 e c mine), (λ h. low.none.1 (λ c mine. own-clear c mine ∙ h c mine)));
        own = low.own;
        is_closed_lem = λ n. sym (own-clear _ (low.own n)) ∙ low.is_closed_lem n;
        least = λ n c mine h. low.least n c mine (own-clear c mine ∙ h);
      }
