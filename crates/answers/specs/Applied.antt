-- The rules' answers in numbers, as the code has them; and a plan, carried out.
use Rattle.std.specs.Prelude.{ℕ, true, false, List, length, if◌then◌else◌}
use Rattle.octets.specs.Octets.{put}
use Rattle.rules.specs.Sizes.{nobody}
use Rattle.rules.specs.Calls.{Answer as Ruled}
use Rattle.rules.specs.Plans.{Plan}
use Rattle.answers.specs.declared.Answer.{Answer}

abbrev pub answer_of : ℕ → ℕ → ℕ → ℕ → ℕ → Answer
answer_of number reply relay destination disconnect = record { number = number; reply = reply; relay = relay; destination = destination; disconnect = disconnect }

-- yes is 1, no is 0
abbrev pub coded : Ruled → Answer
coded a = answer_of a.number a.reply_length a.relay_length a.destination (if a.disconnect then 1 else 0)

-- answers of calls that are done: bytes for the caller alone, and for another connection alone
abbrev pub replied : ℕ → Ruled
replied n = record { number = 0; reply_length = n; relay_length = 0; destination = nobody; disconnect = false }

abbrev pub relayed : ℕ → ℕ → Ruled
relayed n d = record { number = 0; reply_length = 0; relay_length = n; destination = d; disconnect = false }

abbrev pub told_both : ℕ → ℕ → ℕ → Ruled
told_both n k d = record { number = 0; reply_length = n; relay_length = k; destination = d; disconnect = false }

abbrev pub disconnected : Ruled
disconnected = record { number = 0; reply_length = 0; relay_length = 0; destination = nobody; disconnect = true }

-- ---- a plan, carried out: the answer, two tables and the buffers afterwards

pub record Handled : Type 0 where
  pub answer : Answer
  pub connections : List ℕ
  pub leases : List ℕ
  pub reply : List ℕ
  pub relay : List ℕ

abbrev pub handled : Answer → List ℕ → List ℕ → List ℕ → List ℕ → Handled
handled a cs ls reply relay = record { answer = a; connections = cs; leases = ls; reply = reply; relay = relay }

unfoldable pub applied : Plan → List ℕ → List ℕ → Handled
applied p reply relay =
    handled
    (coded
    (record {
      number = 0;
      reply_length = length p.reply;
      relay_length = length p.relay;
      destination = p.destination;
      disconnect = p.disconnect;
    }))
    p.connections
    p.leases
    (put reply 0 p.reply)
    (put relay 0 p.relay)
