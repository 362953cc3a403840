-- What a send may go by; the checks have shown it.
use Rattle.std.specs.Prelude.{ℕ, ◌≤◌, ◌<◌, List, length}
use Rattle.svsc.specs.Messages.{longest_message}

-- a message whose data may be relayed in a buffer
pub record Sendable (m relay : List ℕ) : Type 0 where
  pub some : 0 < length m
  pub short : length m ≤ longest_message
  pub room : length m ≤ length relay
