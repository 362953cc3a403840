-- What an entry point answers and leaves, as one value; and the same of the rules' outcome with the map and the call's record, as C has it.
use Rattle.std.specs.Prelude.{ℕ, List}
use Rattle.rules.specs.Tables.{Tables}
use Rattle.journal.specs.Steps.{RecordedOutcome}
use Rattle.answers.specs.declared.Answer.{Answer}
use Rattle.answers.specs.Applied.{coded}
use Rattle.call_answers.specs.declared.CallAnswer.{CallAnswer}

abbrev pub answer_with : Answer → ℕ → List ℕ → CallAnswer
answer_with a map bytes = record {
  number = a.number;
  reply = a.reply;
  relay = a.relay;
  destination = a.destination;
  disconnect = a.disconnect;
  map = map;
  recorded = bytes;
}

-- the answer, the tables and the two buffers afterwards; a buffer that is not lent is empty
pub record Returned : Type 0 where
  pub answer : CallAnswer
  pub tables : Tables
  pub reply : List ℕ
  pub relay : List ℕ

abbrev pub returned : CallAnswer → Tables → List ℕ → List ℕ → Returned
returned a tables reply relay = record { answer = a; tables = tables; reply = reply; relay = relay }

abbrev pub as_returned : RecordedOutcome → Returned
as_returned o =
    let outcome = o.mapped.outcome in
    returned (answer_with (coded outcome.answer) o.mapped.map o.bytes) outcome.tables outcome.reply outcome.relay
