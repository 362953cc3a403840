-- "one that doesn't agree can be rebuilt": the map of a table agrees with it, and no other does. Assumes nothing.
use Rattle.std.specs.Prelude.{if◌then◌else◌}
use Prim.Native.Nat.{ℕ, zero, suc, ◌+◌, ◌^◌, ◌<◌}
use mathlib.Core.Path.{◌≡◌, refl, sym, ◌∙◌}
use mathlib.Core.Logic.{◌≢◌, ◌↔◌}
use mathlib.Core.Bool.{Bool, true, false, not}
use mathlib.Core.List.{List}
use native.Mathlib.Nat.{pow-suc}
use native.Mathlib.Omega.{arith}
use native.Mathlib.Decide.{ℕ_discrete}
use lib.ListN.{length}
use borrow.Author.Tests.{eq-eqb, ne_eqb}
use Rattle.rules.specs.Sizes.{connection_count, connections_size}
use Rattle.rules.specs.Tables.{is_closed}
use Rattle.connection_map.specs.Bits.{is_set, with_bit}
use Rattle.connection_map.specs.Maps.{Agrees, map_of_first, map_of, rebuild}
use Rattle.connection_map.proofs.Bits.{past_clear, with-exactly, same_bits}

-- of the first n connections each has its bit, and there are no others
module _ (cs : List ℕ) where
  first_fits : (n : ℕ) → map_of_first cs n < 2 ^ n
  unfolding map_of_first
  first_fits zero = omega arith
  first_fits (suc n) = go (is_closed cs n) (first_fits n)
    where
      go : (x : Bool) → map_of_first cs n < 2 ^ n → map_of_first cs n + (if x then 0 else 2 ^ n) < 2 ^ suc n
      go true l = omega (arith, pow-suc 2 n)
      go false l = omega (arith, pow-suc 2 n)

  -- one connection more: its bit was 0
  pub first_step : (n : ℕ) → map_of_first cs (suc n) ≡ (if is_closed cs n then map_of_first cs n else with_bit (map_of_first cs n) n)
  unfolding map_of_first with_bit
  first_step n = rw (past_clear n (map_of_first cs n) (first_fits n)) (go (is_closed cs n))
    where
      go : (x : Bool) → map_of_first cs n + (if x then 0 else 2 ^ n) ≡ (if x then map_of_first cs n else map_of_first cs n + 2 ^ n)
      go true = omega arith
      go false = refl

  first-bits : (n k : ℕ) → k < n → is_set (map_of_first cs n) k ≡ not (is_closed cs k)
  first-bits zero k l = absurd (omega arith)
  first-bits (suc n) k l = rw (first_step n) (go (is_closed cs n) refl (ℕ_discrete k n) (first-bits n k))
    where
      go : (x : Bool) → is_closed cs n ≡ x → Dec (k ≡ n) → (k < n → is_set (map_of_first cs n) k ≡ not (is_closed cs k))
          → is_set (if x then map_of_first cs n else with_bit (map_of_first cs n) n) k ≡ not (is_closed cs k)
      go true e (yes s) ih = rw (s, e) (past_clear n (map_of_first cs n) (first_fits n))
      go true e (no s) ih = ih (omega arith)
      go false e (yes s) ih = with-exactly n (map_of_first cs n) k ∙ rw (s, e, eq-eqb n n refl)
      go false e (no s) ih = with-exactly n (map_of_first cs n) k ∙ rw (ne_eqb k n s) (ih (omega arith))

  -- The map of a table agrees with it,
  pub map-agrees : Agrees (map_of cs) cs
  unfolding map_of
  map-agrees = record { bits = first-bits connection_count; no_others = first_fits connection_count }

  -- and no other map does.
  pub agrees-exactly : (map : ℕ) → Agrees map cs ↔ (map ≡ map_of cs)
  agrees-exactly map = (
    (λ a.
        same_bits connection_count map (map_of cs) a.no_others map-agrees.no_others (λ k l. a.bits k l ∙ sym (map-agrees.bits k l))),
    (λ e. rw e map-agrees),
  )

  -- "a table of another size being answered with 1 and 0"
  pub rebuilt : length cs ≡ connections_size → rebuild cs ≡ record { number = 0; map = map_of cs }
  unfolding rebuild
  rebuilt h = rw (eq-eqb (length cs) connections_size h)

  pub not_rebuilt : length cs ≢ connections_size → rebuild cs ≡ record { number = 1; map = 0 }
  unfolding rebuild
  not_rebuilt h = rw (ne_eqb (length cs) connections_size h)
