-- One more connection, over plain values. Assumes nothing.
use Rattle.std.specs.Prelude.{if◌then◌else◌}
use Prim.Native.Nat.{ℕ, suc, ◌+◌, ◌≤◌}
use mathlib.Core.Path.{◌≡◌, sym, ap, ◌∙◌}
use mathlib.Core.List.{List}
use native.Mathlib.Omega.{arith}
use Rattle.rules.specs.Sizes.{connection_count}
use Rattle.rules.specs.Tables.{is_closed}
use Rattle.connection_map.specs.Bits.{with_bit}
use Rattle.connection_map.specs.Maps.{map_of_first, map_of}
use Rattle.connection_map.proofs.Rebuilding.{first_step}

pub one_more : (cs : List ℕ) (map next c : ℕ) → map ≡ map_of_first cs c → next ≡ (if is_closed cs c then map else with_bit map c)
    → next ≡ map_of_first cs (c + 1)
one_more cs map next c m n =
    let e : c + 1 ≡ suc c = omega arith in
    rw (n, m, e) (sym (first_step cs c))

pub whole : (cs : List ℕ) (map c : ℕ) → c ≤ connection_count → connection_count ≤ c → map ≡ map_of_first cs c → map ≡ map_of cs
unfolding map_of
whole cs map c u l m = let e : c ≡ connection_count = omega arith in m ∙ ap (map_of_first cs) e
