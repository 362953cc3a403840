-- `release`: the release of all the rows is the release of what is left.
use mathlib.Core.Path.{refl, sym, ◌∙◌}
use Rattle.rules.specs.Leases.{release}
use Rattle.lease_writes.proofs.RowWrites.{release-start, release_turn, release-none}
use native.Mathlib.Omega.{arith}
use Rattle.lease_writes.proofs.release.Goals as goal

pub loop-row-init : goal.loop-row-init
unfolding release
loop-row-init c = (omega arith, refl, release-start _ _ c.partner_of-partner.ensures c.end_row-row-end.ensures)

pub loop-row-preserved : goal.loop-row-preserved
loop-row-preserved c =
    let l = c.loop-row in
    let r = c.release_row in
    (omega arith, r.auto.leases ∙ l.invariant.1, l.invariant.2 ∙ release_turn _ _ _ c.loop-row-test.true r.ensures)

pub returns : goal.returns
returns c =
    let l = c.loop-row in
    sym (l.invariant.2 ∙ release-none _ _ _ c.loop-row-test.false)
