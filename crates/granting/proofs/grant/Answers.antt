-- `grant`: the row, and what is told of it.
use native.Mathlib.Omega.{arith}
use Rattle.octets.proofs.Parts.{length_part}
use Rattle.granting.proofs.Ways.{lease-given}
use Rattle.granting.proofs.grant.Goals as goal

pub tell-requires : goal.tell-requires
tell-requires c =
    (c.requires.0.room, rw c.part-cookie.ensures (length_part c.args.random.now 0 24 (omega (arith, c.requires.1))))

pub returns : goal.returns
returns c cs relay =
    let a = c.args in
    lease-given cs a.leases.now a.allowances.now a.reply.now relay a.time a.c a.row _ a.id _ _ c.lease_end-until.ensures (c.tell.ensures cs _ relay)
    a.random.now c.part-cookie.ensures c.grant.ensures
