-- A step's answer, with the buffer that it leaves, as the definitions have it.
use Rattle.std.specs.Prelude.{ℕ, List}
use Rattle.framing.specs.Reading.{state, Step}
use Rattle.frame_reader.specs.declared.FrameStep.{FrameStep}

abbrev pub step_of : FrameStep → List ℕ → Step
step_of r buffer =
    record { number = r.number; complete = r.complete; used = r.used; length = r.length; state = state r.taken r.size; buffer = buffer }
