-- The writer's answer, with the buffer that it leaves, as the definitions have it.
use Rattle.std.specs.Prelude.{ℕ, List}
use Rattle.svsc.specs.Writing.{WriteOutcome}
use Rattle.frame_writer.specs.declared.FrameWritten.{FrameWritten}

abbrev pub written : FrameWritten → List ℕ → WriteOutcome
written w buffer = record { number = w.number; length = w.length; buffer = buffer }
