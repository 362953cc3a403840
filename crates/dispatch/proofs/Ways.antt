-- A decision by its case, over plain values: what its arm has done is its plan. Assumes nothing.
use Prim.Native.Nat.{ℕ}
use mathlib.Core.Path.{◌≡◌, ◌∙◌}
use mathlib.Core.List.{List}
use Rattle.rules.specs.Tables.{Tables}
use Rattle.rules.specs.Plans.{plan_decided}
use Rattle.answers.specs.Applied.{Handled, applied}
use Rattle.decisions.specs.declared.Decision.{Decision}
use Rattle.decisions.specs.Decided.{meaning}

-- x is the decision with the values that the match names
module _ (random m : List ℕ) (d : Decision) {x : Decision} (e : d ≡ x) where
  pub as_decided : (tables : Tables) (time c : ℕ) (reply relay : List ℕ) {o : Handled}
      → o ≡ applied (plan_decided tables time c random (meaning x m random)) reply relay
      → o ≡ applied (plan_decided tables time c random (meaning d m random)) reply relay
  as_decided tables time c reply relay h = h ∙ rw (← e)
