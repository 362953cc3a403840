-- Runs of the relay and their history (01, "Charges"), as `allowance` has them of anything that is metered.
use Rattle.std.specs.Prelude.{List}
use Rattle.allowance.specs.History.{Entry}
use Rattle.allowance.specs.Meter.{Meter}
use Rattle.allowance.specs.Meter as meter
use Rattle.rules.specs.Sizes.{partners, retry_after}
use Rattle.rules.specs.Tables.{Tables, bucket_of, clock}
use Rattle.rules.specs.Calls.{Call, Answer, caller_of, time_of}
use Rattle.rules.specs.Charges.{charged, cost, price}
use Rattle.rules.specs.Checks.{precheck}
use Rattle.rules.specs.Step.{step}

-- The relay, as far as charges go.
abbrev pub relay_meter : Meter Tables Call Answer
relay_meter = record {
  partners = partners;
  retry_after = retry_after;
  bucket = λ tables p. bucket_of tables.allowances p;
  clock = λ tables. clock tables.allowances;
  partner = caller_of;
  time = time_of;
  charged = charged;
  precheck = precheck;
  price = price;
  answer = λ tables call. (step tables call).answer;
  next = λ tables call. (step tables call).tables;
  number = λ answer. answer.number;
  cost = cost;
}

-- "Each call is lent the three tables as the one before left them": the tables after the calls,
abbrev pub after : Tables → List Call → Tables
after tables calls = meter.after relay_meter tables calls

-- and "the run's calls with their answers, and nothing from the tables".
abbrev pub history : Tables → List Call → List Entry
history tables calls = meter.history relay_meter tables calls
