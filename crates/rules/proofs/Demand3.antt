-- Demand 3 of the relay: it is metered as 01 says, and a start answered with 0 leaves it fresh. Assumes nothing.
use Prim.Native.Nat.{ℕ, zero, suc, ◌<◌}
use mathlib.Core.Path.{◌≡◌, refl, sym, ap, ◌∙◌}
use borrow.Author.Tests.{leb-false}
use Rattle.allowance.specs.Meter.{Fresh, Demand3}
use Rattle.allowance.proofs.Demand3.{demand3}
use Rattle.rules.specs.Sizes.{time_limit}
use Rattle.rules.specs.Tables.{Tables, fresh}
use Rattle.rules.specs.Checks.{check_start}
use Rattle.rules.specs.Step.{start, started}
use Rattle.rules.specs.Runs.{relay_meter}
use Rattle.rules.specs.Demand3.{RelayDemand3}
use Rattle.rules.proofs.Checks.{none_applies}
use Rattle.rules.proofs.Allowances.{fresh-bucket, fresh-clock}
use Rattle.rules.proofs.Metered.{price_if_done, charged_as_told, relay_metered}

module _ (lent : Tables) (now term : ℕ) where
  pub start-number : (start lent now term).answer.number ≡ check_start lent now term
  unfolding start
  start-number = go (check_start lent now term)
    where
      go : (n : ℕ) → (started n lent now term).answer.number ≡ n
      go zero = refl
      go (suc n) = refl

  module _ (e : (start lent now term).answer.number ≡ 0) where
    pub started-fresh : (start lent now term).tables ≡ fresh now term
    unfolding start
    started-fresh = ap (λ (n : ℕ). (started n lent now term).tables) (sym start-number ∙ e)

    pub started_in_limit : now < time_limit
    unfolding check_start
    started_in_limit = leb-false time_limit now (none_applies 0 _ (sym start-number ∙ e) 1)

    pub start-is-fresh : Fresh relay_meter (start lent now term).tables now
    start-is-fresh =
        rw started-fresh
        (record { filled = λ p p<. fresh-bucket now term started_in_limit p p<; clocked = fresh-clock now term started_in_limit })

all : Demand3 relay_meter
all = demand3 relay_meter relay_metered

pub relay_demand3 : RelayDemand3
relay_demand3 = record {
  price_if_done = price_if_done;
  price_is_cost = λ tables call e. sym (charged_as_told tables call e);
  every_run = λ lent now term e calls. all.fresh_runs (start lent now term).tables now (start-is-fresh lent now term e) calls;
  any_tables = λ tables calls. all.all_runs tables calls;
}
