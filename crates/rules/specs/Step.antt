-- One call, and making a fresh relay: checked, then done or refused. The contracts of the entry points are equations with these.
-- (01, "Answer numbers and their order")
use Rattle.std.specs.Prelude.{ℕ, zero, suc, [], length}
use Rattle.octets.specs.Octets.{put}
use Rattle.rules.specs.Tables.{Tables, fresh, set_clock}
use Rattle.rules.specs.Calls.{Call, time_of, reply_buffer, relay_buffer, sent_nothing, refusal, Outcome}
use Rattle.rules.specs.Charges.{price, charge}
use Rattle.rules.specs.Plans.{Plan, plan}
use Rattle.rules.specs.Checks.{check, check_start}

-- "Refusals 1 to 9 report 0, 0, 255, no, and alter no byte, the clock included."
abbrev pub refused : ℕ → Tables → Call → Outcome
refused n tables call = record { answer = refusal n; tables = tables; reply = reply_buffer call; relay = relay_buffer call }

-- "On 0 the clock cell takes the reading, each tray starts with its message, and its further bytes stay."
unfoldable pub done : Tables → Call → Plan → Outcome
done tables call p = record {
  answer = record {
    number = 0;
    reply_length = length p.reply;
    relay_length = length p.relay;
    destination = p.destination;
    disconnect = p.disconnect;
  };
  tables = record {
    connections = p.connections;
    leases = p.leases;
    allowances = set_clock (charge tables.allowances call (price tables call)) (time_of call);
  };
  reply = put (reply_buffer call) 0 p.reply;
  relay = put (relay_buffer call) 0 p.relay;
}

-- the outcome of a call that is answered with a number
abbrev pub outcome : ℕ → Tables → Call → Outcome
outcome zero tables call = done tables call (plan tables call)
outcome (suc n) tables call = refused (suc n) tables call

unfoldable pub step : Tables → Call → Outcome
step tables call = outcome (check tables call) tables call

-- Making a fresh relay at a time, with a term: the tables become fresh, or stay. Nothing is sent.
abbrev pub started : ℕ → Tables → ℕ → ℕ → Outcome
started zero tables now term = record { answer = sent_nothing 0; tables = fresh now term; reply = []; relay = [] }
started (suc n) tables now term = record { answer = refusal (suc n); tables = tables; reply = []; relay = [] }

unfoldable pub start : Tables → ℕ → ℕ → Outcome
start tables now term = started (check_start tables now term) tables now term
