-- Demand 3, of the relay.
use Rattle.std.specs.Prelude.{ℕ, ◌≡◌, List}
use Rattle.allowance.specs.History.{Bounded}
use Rattle.allowance.specs.Meter.{Claim}
use Rattle.rules.specs.Tables.{Tables}
use Rattle.rules.specs.Calls.{Call}
use Rattle.rules.specs.Charges.{cost, price}
use Rattle.rules.specs.Plans.{plan}
use Rattle.rules.specs.Step.{done, step, start}
use Rattle.rules.specs.Runs.{relay_meter, history}

-- `Claim` (allowance, specs/Meter) has a field for each sentence of the demand and of 01, "Charges"; `relay_meter` says what its words
-- mean: the level is `level_now` of the partner's allowance record, an answer is that of `step`, "every earlier check" is `precheck`,
-- checks 1 to 8, what a call costs is its `price` before it is done and its `cost` in history, and any call can be paid after three seconds.
pub record RelayDemand3 : Type 0 where
  -- 02, Item 5: "the bytes that it puts into both trays if done": of every call, also of one that check 9 then refuses, the price is what would be
  -- its cost.
  pub price_if_done : (tables : Tables) (call : Call) → price tables call ≡ cost call (done tables call (plan tables call)).answer
  -- What is compared with the level, and what is charged, is the cost that stands in history, of every call that is done.
  pub price_is_cost : (tables : Tables) (call : Call) → (step tables call).answer.number ≡ 0 → price tables call ≡ cost call (step tables call).answer
  -- "A run is a fresh start answered with 0 and then any list of opens, messages and closes, refused ones included.", and of keepalives
  pub every_run : (lent : Tables) (now term : ℕ) → (start lent now term).answer.number ≡ 0 → (calls : List Call)
      → Claim relay_meter (start lent now term).tables now calls
  -- The bound holds of any calls, whatever the tables held before them.
  pub any_tables : (tables : Tables) (calls : List Call) → Bounded (history tables calls)
