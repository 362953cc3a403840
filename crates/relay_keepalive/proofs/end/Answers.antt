-- `end`: a close, and the disconnect.
use Rattle.rules.specs.Tables.{lent}
use Rattle.rules.specs.Plans.{plan_close}
use Rattle.relay_keepalive.proofs.Ways.{ended}
use Rattle.relay_keepalive.proofs.end.Goals as goal

pub returns : goal.returns
returns c al reply =
    let a = c.args in
    ended (plan_close (lent a.connections.now a.leases.now al) a.c) _ _ reply a.relay.now _ _ _ _ (c.close.ensures al reply) c.disconnecting.ensures
