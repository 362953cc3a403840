-- The writer of frames. 02, Item 9.
use Rattle.std.specs.Prelude.{ℕ, List}
use Rattle.svsc.specs.Writing.{WriteOutcome, emit}
use Rattle.framing.specs.Frames.{frame_of, fits}

-- "The writer refuses a message above 65,534 bytes with 6, then a short tray with 5."; on 0 the buffer starts with the frame, and its further bytes
-- stay: as every writer of the messages
unfoldable pub write_frame : (message buffer : List ℕ) → WriteOutcome
write_frame message buffer = emit (fits message) (frame_of message) buffer
