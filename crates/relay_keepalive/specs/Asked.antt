-- What the work of a keepalive may go by; the checks have shown it.
use Rattle.std.specs.Prelude.{ℕ, ◌≤◌, ◌<◌, ◌≡◌, List, length}
use Rattle.rules.specs.Sizes.{connection_count, connections_size, least_buffer}

pub record Askable (cs : List ℕ) (c : ℕ) (reply relay : List ℕ) : Type 0 where
  pub size : length cs ≡ connections_size
  pub known : c < connection_count
  pub reply_room : least_buffer ≤ length reply
  pub relay_room : least_buffer ≤ length relay
