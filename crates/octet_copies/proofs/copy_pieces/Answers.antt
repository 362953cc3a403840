-- `copy_pieces`: one piece more; at the end none is left.
use native.Mathlib.Omega.{arith}
use Prim.Native.Nat.{ℕ}
use mathlib.Core.Path.{sym, ap, ◌∙◌}
use mathlib.Core.List.{List}
use lib.ListN.{length-append}
use Rattle.std.specs.Slice.Iter.{chunks_rest}
use Rattle.octets.specs.Octets.{put}
use Rattle.octets.proofs.Stores.{put-append, put_empty}
use Rattle.octet_copies.proofs.copy_pieces.Goals as goal

pub loop-piece-preserved : goal.loop-piece-preserved
loop-piece-preserved c =
    let l = c.loop-piece in
    let split = c.in-Some.ensures.steps.1.0 in
    record {
      next = rw c.in-Some.ensures.steps.0 l.invariant.next;
      ends = tt;
      fits = omega (arith, rw split at l.invariant.fits, length-append c.in-Some.piece.now (chunks_rest c.next.new.self));
      stored = rw c.copy_at_once.ensures (put-append l.buffer l.end c.in-Some.piece.now _) ∙ ap (put l.buffer l.end) (sym split) ∙ l.invariant.stored;
    }

pub returns : goal.returns
returns c =
    let l = c.loop-piece in
    sym (put_empty l.buffer l.end _ c.in-None.ensures.steps.1.0) ∙ l.invariant.stored
