-- The answer's number is the check's; a refused call leaves all as it was; what a call that is done leaves. Assumes nothing.
use Prim.Native.Nat.{ℕ, zero, suc}
use mathlib.Core.Path.{◌≡◌, refl, sym, ap, ◌∙◌}
use mathlib.Core.Logic.{◌≢◌}
use Rattle.rules.specs.Tables.{Tables}
use Rattle.rules.specs.Calls.{Call}
use Rattle.rules.specs.Plans.{plan}
use Rattle.rules.specs.Checks.{check, precheck}
use Rattle.rules.specs.Step.{step, outcome, done, refused}
use Rattle.allowance.proofs.Numbers.{verdict-zero}
use Rattle.rules.proofs.Checks.{check-verdict}

numbered : (n : ℕ) (tables : Tables) (call : Call) → (outcome n tables call).answer.number ≡ n
unfolding done
numbered zero tables call = refl
numbered (suc n) tables call = refl

module _ (tables : Tables) (call : Call) where
  pub answer-is-check : (step tables call).answer.number ≡ check tables call
  unfolding step
  answer-is-check = numbered (check tables call) tables call

  -- "Refusals 1 to 9 report 0, 0, 255, no, and alter no byte, the clock included."
  pub refused-leaves-all : (step tables call).answer.number ≢ 0 → step tables call ≡ refused (step tables call).answer.number tables call
  unfolding step
  refused-leaves-all n = go (check tables call) n
    where
      go : (k : ℕ) → (outcome k tables call).answer.number ≢ 0
          → outcome k tables call ≡ refused (outcome k tables call).answer.number tables call
      go zero n = absurd (n (numbered zero tables call))
      go (suc k) n = refl

  pub is-done : (step tables call).answer.number ≡ 0 → step tables call ≡ done tables call (plan tables call)
  unfolding step
  is-done e = ap (λ (n : ℕ). outcome n tables call) (sym answer-is-check ∙ e)

  -- a call that is done has passed the first eight checks
  pub done_passed : (step tables call).answer.number ≡ 0 → precheck tables call ≡ 0
  done_passed e = (verdict-zero _ _ _ _ (sym (check-verdict tables call) ∙ sym answer-is-check ∙ e)).0
