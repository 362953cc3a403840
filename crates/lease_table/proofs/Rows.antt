-- The number of a partner's rows, and what a search over them answered. Assumes nothing.
use Rattle.std.specs.Prelude.{Option, Some, None, unwrap_or, if◌then◌else◌}
use Prim.Native.Nat.{ℕ, ◌-◌, ◌≤◌, ◌<◌}
use mathlib.Core.Path.{◌≡◌, refl, sym, ◌∙◌}
use mathlib.Core.Bool.{Bool, true, false}
use native.Mathlib.Omega.{arith}
use lib.Dec.{ltb}
use borrow.Author.Tests.{ltb-true, ltb-false}
use Rattle.rules.specs.Sizes.{rows_per_partner}
use Rattle.rules.specs.Searches.{first_row, end_row}
use Rattle.lease_table.specs.Rows.{row_if_own}

-- a partner's rows, from the first to the end
pub own-count : (p : ℕ) {end : ℕ} → end ≡ end_row p → end - first_row p ≡ rows_per_partner
own-count p e = omega arith

-- the row that a search of the rules comes to is the one that was answered, or is behind them where there was none
module _ (p r : ℕ) {found : Option ℕ} (search : found ≡ row_if_own p r) where
  pub found_own : {row : ℕ} → found ≡ Some row → (row ≡ r) × (row < end_row p)
  found_own {row} is = go (ltb r (end_row p)) refl (sym is ∙ search)
    where
      go : (t : Bool) → ltb r (end_row p) ≡ t → Some row ≡ (if t then Some r else None) → (row ≡ r) × (row < end_row p)
      go true low e =
          let own : row ≡ r = cc in
          (own, rw own (ltb-true r (end_row p) low))
      go false low e = let z : ◌≡◌ {A = ℕ} 0 1 = cc in absurd (omega arith)

  pub none-own : found ≡ None → end_row p ≤ r
  none-own is = go (ltb r (end_row p)) refl (sym is ∙ search)
    where
      go : (t : Bool) → ltb r (end_row p) ≡ t → None ≡ (if t then Some r else None) → end_row p ≤ r
      go true low e = let z : ◌≡◌ {A = ℕ} 0 1 = cc in absurd (omega arith)
      go false low e = ltb-false r (end_row p) low

  -- whoever names the end of the rows where there was none has what the search comes to
  pub or_end : r ≤ end_row p → unwrap_or found (end_row p) ≡ r
  or_end most = go found refl
    where
      go : (o : Option ℕ) → found ≡ o → unwrap_or o (end_row p) ≡ r
      go None is = let past : end_row p ≤ r = none-own is in omega arith
      go (Some row) is = (found_own is).0
