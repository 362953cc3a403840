-- `copy`: the bytes that fit, one by one; the rest would be dropped.
use native.Mathlib.Omega.{arith}
use Prim.Native.Nat.{◌<◌}
use mathlib.Core.Path.{refl, sym, ◌∙◌}
use lib.ListN.{length, length-set}
use Rattle.octets.proofs.Stores.{put-none, put-take_more, put-cut}
use Rattle.octet_stores.proofs.copy.Goals as goal

pub loop-i-init : goal.loop-i-init
loop-i-init c = (sym (put-none _ _), refl)

pub loop-i-preserved : goal.loop-i-preserved
loop-i-preserved c =
    let below : c.loop-i.i < length c.args.s.now = omega (arith, c.min-n.ensures) in
    (simp (put-take_more, ← c.loop-i.invariant.0), simp length-set c.loop-i.invariant.1)

pub returns : goal.returns
returns c = c.loop-i.invariant.0 ∙ put-cut c.args.t.now c.args.at c.args.s.now c.loop-i.i (omega (arith, c.min-n.ensures, c.saturating_sub.ensures))
