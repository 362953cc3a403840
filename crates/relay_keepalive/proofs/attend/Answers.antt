-- `attend`: dead, due, or neither.
use Rattle.rules.specs.Tables.{lent}
use Rattle.answers.proofs.Ways.{nothing-done}
use Rattle.relay_keepalive.proofs.Ways.{found-dead, found-due, found_neither}
use Rattle.relay_keepalive.proofs.attend.Goals as goal

pub returns-then-is_dead : goal.returns-then-is_dead
returns-then-is_dead c al =
    let a = c.args in
    found-dead (lent a.connections.now a.leases.now al) a.time a.c a.reply.now a.relay.now _ _ c.is_dead.ensures c.if-is_dead.true (c.end.ensures al a.reply.now)

pub returns-then-is_due : goal.returns-then-is_due
returns-then-is_due c al =
    let a = c.args in
    found-due (lent a.connections.now a.leases.now al) a.time a.c a.reply.now a.relay.now _ _ c.is_dead.ensures c.if-is_dead.false _ c.is_due.ensures c.if-is_due.true (c.ask.ensures a.leases.now a.relay.now)

pub returns : goal.returns
returns c al =
    let a = c.args in
    found_neither (lent a.connections.now a.leases.now al) a.time a.c a.reply.now a.relay.now _ _ c.is_dead.ensures c.if-is_dead.false _ c.is_due.ensures c.if-is_due.false
    (nothing-done a.connections.now a.leases.now al a.reply.now a.relay.now _ c.sent_nothing.ensures)
