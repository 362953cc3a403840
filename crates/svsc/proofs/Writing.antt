-- The ways out of whatever fills a buffer: a field out of its range (6), no room (5), and stored. Assumes nothing.
use Prim.Native.Nat.{ℕ, ◌≤◌, ◌<◌}
use mathlib.Core.Path.{◌≡◌, ap₂, ◌∙◌}
use mathlib.Core.Bool.{Bool, true, false, not}
use mathlib.Core.List.{List}
use lib.ListN.{length}
use borrow.Author.Tests.{lt-ltb, le-ltb}
use Rattle.octets.specs.Octets.{put}
use Rattle.svsc.specs.Messages.{Message, well_formed, encode}
use Rattle.svsc.specs.Writing.{WriteOutcome, emit, write}

module _ (bytes buffer : List ℕ) where
  pub out_of_range : (fits : Bool) → fits ≡ false → record { number = 6; length = 0; buffer = buffer } ≡ emit fits bytes buffer
  unfolding emit
  out_of_range fits f = rw f

  module _ (fits : Bool) (f : fits ≡ true) where
    pub too_short_lem : length buffer < length bytes → record { number = 5; length = 0; buffer = buffer } ≡ emit fits bytes buffer
    unfolding emit
    too_short_lem l = rw (f, lt-ltb (length buffer) (length bytes) l)

    pub stored : length bytes ≤ length buffer → (n : ℕ) (after : List ℕ) → n ≡ length bytes → after ≡ put buffer 0 bytes
        → record { number = 0; length = n; buffer = after } ≡ emit fits bytes buffer
    unfolding emit
    stored l n after hn ha = rw (f, le-ltb (length buffer) (length bytes) l, ha, hn)

-- a writer writes a message where its ranges and its bytes are those of the message
pub writes : (m : Message) (fits : Bool) (bytes buffer : List ℕ) (w : WriteOutcome) → w ≡ emit fits bytes buffer → fits ≡ well_formed m
    → bytes ≡ encode m → w ≡ write m buffer
unfolding write
writes m fits bytes buffer w e f b = e ∙ ap₂ (λ (f : Bool) (l : List ℕ). emit f l buffer) f b
