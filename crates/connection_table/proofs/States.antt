-- The number of a state is 0 for closed alone, from what `==` answers. Assumes nothing.
use Prim.Native.Nat.{ℕ}
use mathlib.Core.Path.{◌≡◌, refl, sym, ◌∙◌}
use mathlib.Core.Bool.{Bool, true, false, false≢true}
use native.Mathlib.Omega.{arith}
use denote.Enum.Bare.{sameb}
use Rattle.connection_table.specs.contracts.ConnectionState.{the_type}
use Rattle.connection_table.specs.declared.ConnectionState.{ConnectionState}
use Rattle.connection_table.specs.declared.ConnectionState.TheVariants as case
use Rattle.connection_table.specs.States.{state_number}

module _ (s : ConnectionState) (b : Bool) (e : b ≡ sameb the_type s case.Closed) where
  pub closed-number : b ≡ true → state_number s ≡ 0
  closed-number h = by s (sym e ∙ h)
    where
      by : (s : ConnectionState) → sameb the_type s case.Closed ≡ true → state_number s ≡ 0
      by case.Closed k = refl
      by case.Awaiting k = absurd (false≢true k)
      by case.Open k = absurd (false≢true k)

  pub other-number : b ≡ false → state_number s ≡ 0 → ⊥
  other-number h = by s (sym e ∙ h)
    where
      by : (s : ConnectionState) → sameb the_type s case.Closed ≡ false → state_number s ≡ 0 → ⊥
      by case.Closed k z = false≢true (sym k)
      by case.Awaiting k z = omega arith
      by case.Open k z = omega arith
