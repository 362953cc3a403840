-- A difference of two numbers as a signed one. Assumes nothing.
use mathlib.Core.Path.{◌≡◌, ap₂, ◌∙◌}
use mathlib.Core.Bool.{Bool, true, false, cond}
use Prim.Native.Nat.{ℕ, zero, suc, ◌+◌, ◌-◌, ◌^◌, ◌<◌}
use native.Mathlib.Omega.{arith}
use lib.Dec.{ltb}
use lib.IntN.{ℤ, pos, negsuc, ◌-ℤ◌}
use lib.Signed.{mag}
use mir.Syntax.{w64}
use mir.Val.{SFits, to_z, of_z}
use mir.ValLaws.{to_z_pos, to_z-of_z}

either : (t : Bool) (x y H : ℕ) → x < H → y < H → mag (cond t (negsuc x) (pos y)) < H
either true x y H p q = p
either false x y H p q = q

small : (a b H : ℕ) → a + b < H → mag (pos a -ℤ pos b) < H
small a zero H h = omega arith
small a (suc b) H h = either (ltb a (suc b)) (suc b - suc a) (a - suc b) H (omega arith) (omega arith)

module _ (a b : ℕ) (h : a + b < 2 ^ 63) where
  difference-fits : SFits w64 (pos a -ℤ pos b)
  difference-fits = record { sfits = small a b (2 ^ 63) h }

  -- the two casts
  casts : to_z w64 a -ℤ to_z w64 b ≡ pos a -ℤ pos b
  casts = ap₂ (λ (x y : ℤ). x -ℤ y) (to_z_pos w64 a (omega arith)) (to_z_pos w64 b (omega arith))

  pub fits : SFits w64 (to_z w64 a -ℤ to_z w64 b)
  fits = rw casts difference-fits

  pub back : to_z w64 (of_z w64 (to_z w64 a -ℤ to_z w64 b)) ≡ pos a -ℤ pos b
  back = to_z-of_z w64 (to_z w64 a -ℤ to_z w64 b) fits ∙ casts

  -- a field that holds it
  pub held : (z : ℤ) → z ≡ pos a -ℤ pos b → to_z w64 (of_z w64 z) ≡ pos a -ℤ pos b
  held z e = to_z-of_z w64 z (rw e difference-fits) ∙ e
