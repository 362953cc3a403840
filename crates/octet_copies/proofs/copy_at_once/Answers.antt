-- `copy_at_once`: what is written to the part.
use native.Mathlib.Omega.{arith}
use Rattle.octets.proofs.Stores.{put_mid-put}
use Rattle.octet_copies.proofs.copy_at_once.Goals as goal

pub returns : goal.returns
returns c = rw c.copy_from_slice.ensures.after (put_mid-put c.args.buffer.now c.args.at _ c.args.bytes.now (omega arith) (omega arith))
