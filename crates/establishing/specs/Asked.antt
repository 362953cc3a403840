-- What a session may be established with, which the checks have shown; and a message written to a buffer.
use Rattle.std.specs.Prelude.{ℕ, ◌≤◌, ◌≡◌, List, length}
use Rattle.octets.specs.Octets.{put}
use Rattle.rules.specs.Sizes.{least_buffer, random_bytes}
use Rattle.rules.specs.Sessions.{EstablishDecision, refused_with, established_with}

pub record Joinable (random reply relay : List ℕ) : Type 0 where
  pub random_size : length random ≡ random_bytes
  pub reply_room : least_buffer ≤ length reply
  pub relay_room : least_buffer ≤ length relay

-- bytes at the start of a buffer, and how many they are
pub record Wrote (bytes : List ℕ) (n : ℕ) (buffer after : List ℕ) : Type 0 where
  pub count : n ≡ length bytes
  pub stored : after ≡ put buffer 0 bytes

-- a decision whose status the protocol has
abbrev pub InStatuses : EstablishDecision → Type 0
InStatuses (refused_with status) = (1 ≤ status) × (status ≤ 5)
InStatuses (established_with holder) = Unit {0}
