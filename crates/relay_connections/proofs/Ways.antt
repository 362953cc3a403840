-- The ones and the zeros of a partner's bits, as the definitions count them; over plain values. Assumes nothing.
use Prim.Native.Nat.{ℕ, ◌+◌, ◌-◌, ◌/◌, ◌%◌, ◌^◌, ◌≤◌, ◌<◌}
use mathlib.Core.Path.{◌≡◌, ap, ◌∙◌}
use native.Mathlib.Omega.{arith}
use lib.Count.{ones, count_trailing_zeros}
use borrow.Author.Tests.{lt-ltb, le-ltb}
use Rattle.rules.specs.Sizes.{connections_per_partner, nobody}
use Rattle.connection_map.specs.Maps.{first_connection, end_connection, connections_of, first_clear, lowest_closed}
use Rattle.connection_map.proofs.Bits.{ones_window, clear_window}

module _ (map p bits : ℕ) (e : bits ≡ map / 2 ^ first_connection p % 2 ^ connections_per_partner) where
  pub counted : ones bits ≡ connections_of map p
  unfolding connections_of
  counted = ap ones e ∙ ones_window connections_per_partner map (first_connection p)

  -- the complement has the 64 digits of the machine's numbers
  abbrev taken : ℕ
  taken = count_trailing_zeros 64 (2 ^ 64 - 1 - bits)

  first-is : first_connection p + taken ≡ first_clear map p
  unfolding first_clear
  first-is =
      ap (λ (n : ℕ). first_connection p + count_trailing_zeros 64 (2 ^ 64 - 1 - n)) e
      ∙ clear_window connections_per_partner (63 - connections_per_partner) map (first_connection p)

  pub lowest-found : taken < connections_per_partner → first_connection p + taken ≡ lowest_closed map p
  unfolding lowest_closed
  lowest-found h = rw (lt-ltb (first_clear map p) (end_connection p) (omega (arith, first-is))) first-is

  pub none_found : connections_per_partner ≤ taken → nobody ≡ lowest_closed map p
  unfolding lowest_closed
  none_found h = rw (le-ltb (first_clear map p) (end_connection p) (omega (arith, first-is)))
