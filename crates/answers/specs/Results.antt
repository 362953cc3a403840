-- What the work of a call answers and leaves, as one value, without the map; and the same of the rules' outcome.
use Rattle.std.specs.Prelude.{ℕ, List}
use Rattle.rules.specs.Tables.{Tables}
use Rattle.rules.specs.Calls.{Outcome}
use Rattle.answers.specs.declared.Answer.{Answer}
use Rattle.answers.specs.Applied.{coded}

-- the answer, the tables and the two buffers afterwards; a buffer that is not lent is empty
pub record Result : Type 0 where
  pub answer : Answer
  pub tables : Tables
  pub reply : List ℕ
  pub relay : List ℕ

abbrev pub call_result : Answer → Tables → List ℕ → List ℕ → Result
call_result a tables reply relay = record { answer = a; tables = tables; reply = reply; relay = relay }

abbrev pub shown : Outcome → Result
shown o = call_result (coded o.answer) o.tables o.reply o.relay
