-- What every call that is done keeps, every list of calls keeps. Assumes nothing.
use mathlib.Core.Path.{◌≡◌}
use mathlib.Core.List.{List, [], ◌∷◌}
use native.Mathlib.Decide.{ℕ_discrete}
use Rattle.allowance.specs.Meter as meter
use Rattle.rules.specs.Tables.{Tables}
use Rattle.rules.specs.Calls.{Call}
use Rattle.rules.specs.Step.{step}
use Rattle.rules.specs.Runs.{after}
use Rattle.rules.proofs.Answers.{refused-leaves-all}

module _
    (P : Tables → Type 0)
    (done-keeps : (tables : Tables) (call : Call) → (step tables call).answer.number ≡ 0 → P tables → P (step tables call).tables)
  where
    call_keeps : (tables : Tables) (call : Call) → P tables → P (step tables call).tables
    call_keeps tables call p = go (ℕ_discrete (step tables call).answer.number 0)
      where
        go : Dec ((step tables call).answer.number ≡ 0) → P (step tables call).tables
        go (yes e) = done-keeps tables call e p
        go (no n) = rw (refused-leaves-all tables call n) p

    pub run_keeps : (calls : List Call) (tables : Tables) → P tables → P (after tables calls)
    unfolding meter.after
    run_keeps [] tables p = p
    run_keeps (call ∷ calls) tables p = run_keeps calls (step tables call).tables (call_keeps tables call p)
