-- `word`: the number in the first i bytes.
use Prim.Native.Nat.{◌^◌, ◌<◌}
use mathlib.Core.Path.{◌≡◌}
use Rattle.octets.specs.Octets.{number_at}
use Rattle.octets.proofs.word.Given as goal

abbrev pub invariant-loop-i : goal.invariant-loop-i
invariant-loop-i l = record { value : l.v ≡ number_at l.s l.at l.i; below : l.v < 256 ^ l.i }
