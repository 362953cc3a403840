-- The library's search over a partner's rows answers what the rules' search does. Assumes nothing.
use Rattle.std.specs.Prelude.{Option, Some, None, is_some, if◌then◌else◌}
use Rattle.std.specs.Option.{MatchOption}
use Prim.Native.Nat.{ℕ, ◌≤◌, ◌<◌}
use mathlib.Core.Path.{◌≡◌, refl}
use mathlib.Core.Bool.{Bool, true, false}
use mathlib.Core.List.{List}
use native.Mathlib.Omega.{arith}
use lib.Dec.{ltb}
use borrow.Author.Tests.{lt-ltb, le-ltb}
use Rattle.rules.specs.Sizes.{partners, rows_per_partner, row_count}
use Rattle.rules.specs.Searches.{first_row, end_row, first_own, any_own}
use Rattle.rules.specs.Tables.{partner_of}
use Rattle.rules.specs.Leases.{row_to_extend}
use Rattle.rules.proofs.Searches.{first-none, first-is}
use Rattle.lease_search.proofs.RowSearch.{any_first, first-most}
use Rattle.lease_table.specs.Rows.{row_if_own}

pub own_found : (test : ℕ → Bool) (p : ℕ) (found : Option ℕ) {end : ℕ} → p < partners → end ≡ end_row p
    → MatchOption found ((k : ℕ) → first_row p ≤ k → k < end → k < row_count → test k ≡ false)
    (λ row. (first_row p ≤ row) × (row < end) × (row < row_count → test row ≡ true) × ((k : ℕ) → first_row p ≤ k → k < row → k < row_count → test k ≡ false))
    → found ≡ row_if_own p (first_own p test)
own_found test p None range last none =
    rw (first-none test (first_row p) rows_per_partner (λ k l u. none k l (omega arith) (omega arith)), le-ltb (end_row p) (end_row p) (omega arith))
own_found test p (Some row) range last hit =
    let own : row < end_row p = omega (arith, hit.1) in
    rw (first-is test (first_row p) rows_per_partner row hit.0 own (hit.2 (omega arith)) (λ k l u. hit.3 k l u (omega arith)), lt-ltb row (end_row p) own)

pub any-found : (test : ℕ → Bool) (p : ℕ) {found : Option ℕ} → found ≡ row_if_own p (first_own p test) → is_some found ≡ any_own p test
any-found test p e = rw (e, any_first test (first_row p) rows_per_partner) (go (ltb (first_own p test) (end_row p)))
  where
    go : (t : Bool) → is_some (if t then Some (first_own p test) else None) ≡ t
    go true = refl
    go false = refl

-- an extension's row is the end of the rows at most
pub extend-most : (ls : List ℕ) (now c : ℕ) (cookie : List ℕ) → row_to_extend ls now c cookie ≤ end_row (partner_of c)
unfolding row_to_extend
extend-most ls now c cookie = first-most _ _ _
