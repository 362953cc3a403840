-- `close`: the session, the rows and the record.
use Rattle.closing.proofs.Ways.{closed}
use Rattle.closing.proofs.close.Goals as goal

pub returns : goal.returns
returns c al reply =
    let a = c.args in
    closed a.connections.now a.leases.now al reply a.relay.now _ _ _ _ a.c _ c.release.ensures c.clear.ensures
    (c.end_if_any-answer.ensures a.leases.now al reply)
