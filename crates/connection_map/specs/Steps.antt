-- Calls, fresh starts and runs with the map beside the tables. What a call answers and does to the tables is as without it. The contracts of the
-- entry points are equations with these.
use Rattle.std.specs.Prelude.{ℕ, List, eqb, if◌then◌else◌}
use Rattle.allowance.specs.Meter.{Meter}
use Rattle.allowance.specs.Meter as meter
use Rattle.rules.specs.Tables.{Tables}
use Rattle.rules.specs.Calls.{Call, Answer, Outcome}
use Rattle.rules.specs.Step.{step, start}
use Rattle.rules.specs.Runs.{relay_meter}
use Rattle.connection_map.specs.Maps.{map_after}

pub record MappedOutcome : Type 0 where
  pub outcome : Outcome
  pub map : ℕ

unfoldable pub step_with_map : Tables → ℕ → Call → MappedOutcome
step_with_map tables map call = record { outcome = step tables call; map = map_after call (step tables call).answer map }

-- "A fresh relay's map is 0"; a refused start leaves it
unfoldable pub start_with_map : Tables → ℕ → ℕ → ℕ → MappedOutcome
start_with_map tables map now term = record {
  outcome = start tables now term;
  map = if eqb (start tables now term).answer.number 0 then 0 else map;
}

-- what is handed from call to call
pub record Relay : Type 0 where
  pub tables : Tables
  pub map : ℕ

abbrev pub left : MappedOutcome → Relay
left o = record { tables = o.outcome.tables; map = o.map }

-- The relay with its map, as far as charges go: as without it, but for what answers and what is left.
abbrev pub mapped_meter : Meter Relay Call Answer
mapped_meter = record {
  partners = relay_meter.partners;
  retry_after = relay_meter.retry_after;
  bucket = λ relay. relay_meter.bucket relay.tables;
  clock = λ relay. relay_meter.clock relay.tables;
  partner = relay_meter.partner;
  time = relay_meter.time;
  charged = relay_meter.charged;
  precheck = λ relay. relay_meter.precheck relay.tables;
  price = λ relay. relay_meter.price relay.tables;
  answer = λ relay call. (step_with_map relay.tables relay.map call).outcome.answer;
  next = λ relay call. left (step_with_map relay.tables relay.map call);
  number = relay_meter.number;
  cost = relay_meter.cost;
}

-- the relay after the calls, each lent what the one before left
abbrev pub after : Relay → List Call → Relay
after relay calls = meter.after mapped_meter relay calls
