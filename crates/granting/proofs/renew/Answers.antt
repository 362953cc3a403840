-- `renew`: what is told of the row, and the row.
use Rattle.granting.proofs.Ways.{cookie-length, lease-renewed}
use Rattle.granting.proofs.renew.Goals as goal

pub tell-answer-requires : goal.tell-answer-requires
tell-answer-requires c =
    (c.requires.0.room, rw (c.cookie_of.ensures, c.new-rows.ensures) (cookie-length c.args.leases.now c.args.row c.requires.0.size c.requires.1))

pub returns : goal.returns
returns c cs relay =
    let a = c.args in
    lease-renewed cs a.leases.now a.allowances.now a.reply.now relay a.time a.c a.row _ _ _ _ c.lease_end-until.ensures (c.tell-answer.ensures cs _ relay)
    (rw (← c.new-rows.ensures) c.id_of.ensures) (rw (← c.new-rows.ensures) c.cookie_of.ensures) c.renew.ensures
