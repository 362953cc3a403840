-- `fill`: what fits; the rest would be dropped.
use Prim.Native.Nat.{ℕ}
use native.Mathlib.Omega.{arith}
use mathlib.Core.Path.{◌≡◌, sym, ap, ◌∙◌}
use lib.ListN.{replicate, length-replicate, length-take, length-drop}
use Rattle.octets.proofs.Stores.{put_mid-put, put-replicate-cut, put_past}
use Rattle.octet_stores.proofs.fill.Goals as goal

pub returns-then-at-t : goal.returns-then-at-t
returns-then-at-t c =
    let a = c.args in
    let m = c.min-m.result in
    let filled : c.fill.new.self ≡ replicate m a.v = c.fill.ensures.after (λ y e. e) ∙ ap (λ (k : ℕ). replicate k a.v) (simp (length-take, length-drop) (omega (arith, c.min-m.ensures))) in
    rw filled
    (put_mid-put a.t.now a.at _ _ (omega (arith, length-replicate m a.v)) (omega (arith, c.min-m.ensures))
    ∙ put-replicate-cut a.t.now a.at a.n a.v m (omega (arith, c.min-m.ensures)))

pub returns-else-at-t : goal.returns-else-at-t
returns-else-at-t c = sym (put_past c.args.t.now c.args.at _ c.if-at-t.false)
