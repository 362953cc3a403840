-- `accept`: what ends, who is told, and the clock.
use mathlib.Core.List.{[]}
use Rattle.relay_close.proofs.Ways.{close_done}
use Rattle.relay_close.proofs.accept.Goals as goal

pub returns : goal.returns
returns c =
    let a = c.args in
    close_done a.connections.now a.leases.now a.allowances.now a.relay.now _ _ _ _ _ a.time a.c _
    (c.close-answer.ensures a.allowances.now []) c.sent.ensures c.set_clock.ensures
