-- What a lease may be given or extended on; the checks have shown it.
use Rattle.std.specs.Prelude.{ℕ, ◌≤◌, ◌<◌, ◌≡◌, List, length}
use Rattle.rules.specs.Sizes.{connection_count, leases_size, least_buffer, time_limit}

pub record Leasable (ls : List ℕ) (time c : ℕ) (reply : List ℕ) : Type 0 where
  pub size : length ls ≡ leases_size
  pub known : c < connection_count
  pub timely : time < time_limit
  pub room : least_buffer ≤ length reply
