-- `copy_pieces`: with what is left stored behind, all is stored.
use Prim.Native.Nat.{◌+◌}
use mathlib.Core.Path.{◌≡◌}
use lib.ListN.{length}
use Rattle.octets.specs.Octets.{put}
use Rattle.std.specs.Slice.Iter.{chunks_rest}
use Rattle.octet_copies.proofs.copy_pieces.Given as goal

abbrev pub invariant-loop-piece : goal.invariant-loop-piece
invariant-loop-piece l = record {
  next : (goal.iterator-loop-piece).can_next l.piece-iterator;
  ends : (goal.iterator-loop-piece).is_finite l.piece-iterator;
  fits : l.end + length (chunks_rest l.piece-iterator) ≡ l.at + length l.bytes;
  stored : put l.buffer l.end (chunks_rest l.piece-iterator) ≡ put l.initial.buffer l.at l.bytes;
}
