-- `header`: the two bytes of the length, and the type.
use Prim.Native.Nat.{◌+◌}
use mathlib.Core.Path.{refl}
use Rattle.frame_writer.proofs.Ways.{three-bytes}
use Rattle.frame_writer.proofs.header.Goals as goal

pub returns : goal.returns
returns c = three-bytes c.args.length (c.args.length + 1) refl
