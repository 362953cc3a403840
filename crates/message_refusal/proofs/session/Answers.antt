-- `session`: none needed, none there, or the one that is found.
use Rattle.message_refusal.proofs.MessageStops.{none_needed, none-there, one-there}
use Rattle.message_refusal.proofs.session.Goals as goal

pub returns-then-not-needs_session : goal.returns-then-not-needs_session
returns-then-not-needs_session c =
    let a = c.args in
    none_needed a.connections.now a.c a.kind _ c.needs_session.ensures (c.if-not-needs_session.true)

pub returns-then-not-in_session : goal.returns-then-not-in_session
returns-then-not-in_session c =
    let a = c.args in
    none-there a.connections.now a.c a.kind _ c.needs_session.ensures c.if-not-needs_session.false _ c.peer-peer.ensures _ c.in_session.ensures c.if-not-in_session.true

pub returns : goal.returns
returns c =
    let a = c.args in
    one-there a.connections.now a.c a.kind _ c.needs_session.ensures c.if-not-needs_session.false _ c.peer-peer.ensures _ c.in_session.ensures c.if-not-in_session.false
