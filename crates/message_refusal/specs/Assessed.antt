-- What is handed on of a message, in the rules' terms. 02, Item 5: checks 1 to 8, then what it will do, then its price, then check 9.
use Rattle.std.specs.Prelude.{ℕ, List, eqb, Result, Ok, Err, if◌then◌else◌}
use Rattle.svsc.specs.Messages.{decode}
use Rattle.rules.specs.Tables.{Tables}
use Rattle.rules.specs.Decisions.{Decision, nothing_asked, decide_message}
use Rattle.rules.specs.Calls.{message}
use Rattle.rules.specs.Charges.{price}
use Rattle.rules.specs.Checks.{precheck, check}
use Rattle.decisions.specs.Decided.{meaning}
use Rattle.refusal_numbers.specs.declared.Refusal.{Refusal}
use Rattle.refusal_numbers.specs.Numbers.{number_of, answer_number}
use Rattle.message_refusal.specs.declared.Assessment.{Assessment}

-- the number, the price, and what was decided
pub record Assessed : Type 0 where
  pub number : ℕ
  pub price : ℕ
  pub decision : Decision

abbrev pub assessed_of : ℕ → ℕ → Decision → Assessed
assessed_of number price decision = record { number = number; price = price; decision = decision }

-- stopped by one of checks 1 to 8
abbrev pub stopped_by : ℕ → Assessed
stopped_by number = assessed_of number 0 nothing_asked

-- of the message m with these random bytes
abbrev pub assessed_as : Result Assessment Refusal → List ℕ → List ℕ → Assessed
assessed_as (Ok a) m random = assessed_of (answer_number a.last) a.price (meaning a.decision m random)
assessed_as (Err refusal) m random = stopped_by (number_of refusal)

-- Price and decision are handed on where checks 1 to 8 pass, so also where the answer is 9.
unfoldable pub assessed : Tables → ℕ → ℕ → List ℕ → List ℕ → List ℕ → List ℕ → Assessed
assessed tables now c m random reply relay =
    let call = message now c m random reply relay in
    if eqb (precheck tables call) 0
    then assessed_of (check tables call) (price tables call) (decide_message tables.connections tables.leases now c random (decode m))
    else stopped_by (precheck tables call)
