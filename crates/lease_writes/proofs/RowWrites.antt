-- What is written to rows: the stores of a new lease and of a renewal; and the release of a partner's rows, its start, one turn and its end.
-- Assumes nothing.
use Prim.Native.Nat.{ℕ, suc, ◌+◌, ◌-◌, ◌≤◌, ◌<◌}
use mathlib.Core.Path.{◌≡◌, ap, ◌∙◌}
use mathlib.Core.List.{List}
use native.Mathlib.Numerals.{add-one}
use native.Mathlib.Omega.{arith}
use Rattle.rules.specs.Searches.{first_row, end_row}
use Rattle.rules.specs.Tables.{partner_of, set_expiry, set_id, set_holder, set_cookie}
use Rattle.rules.specs.Leases.{grant, renew, release, release_from}
use Rattle.lease_table.proofs.Rows.{own-count}
use Rattle.lease_writes.specs.Rows.{release_row}

pub row_written : (ls : List ℕ) {b₁ b₂ b₃ b₄ : List ℕ} (row until id : ℕ) (cookie : List ℕ) (c : ℕ) → b₁ ≡ set_expiry ls row until → b₂ ≡ set_id b₁ row id → b₃ ≡ set_holder b₂ row c
    → b₄ ≡ set_cookie b₃ row cookie → b₄ ≡ grant ls row until id cookie c
unfolding grant
row_written ls row until id cookie c e₁ e₂ e₃ e₄ = rw (e₄, e₃, e₂, e₁)

pub row-renewed : (ls : List ℕ) {b₁ b₂ : List ℕ} (row until c : ℕ) → b₁ ≡ set_expiry ls row until → b₂ ≡ set_holder b₁ row c
    → b₂ ≡ renew ls row until c
unfolding renew
row-renewed ls row until c e₁ e₂ = rw (e₂, e₁)

pub release-start : (ls : List ℕ) (c : ℕ) {p end : ℕ} → p ≡ partner_of c → end ≡ end_row p
    → release ls c ≡ release_from ls c (first_row p) (end - first_row p)
unfolding release
release-start ls c {p} own e = rw (← own, own-count p e)

-- the rows from one up to the end
module _ (ls : List ℕ) (c : ℕ) {row : ℕ} (end : ℕ) where
  pub release_turn : {next : List ℕ} → row < end → next ≡ release_row ls row c
      → release_from ls c row (end - row) ≡ release_from next c (row + 1) (end - (row + 1))
  unfolding release_from release_row
  release_turn h released =
      let e : end - row ≡ suc (end - (row + 1)) = omega arith in
      ap (release_from ls c row) e ∙ rw (released, add-one row)

  pub release-none : end ≤ row → release_from ls c row (end - row) ≡ ls
  unfolding release_from
  release-none h = let e : end - row ≡ 0 = omega arith in rw e
