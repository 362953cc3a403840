-- `end_if_any`: ended, or nothing.
use Rattle.sessions.proofs.Ways.{ended_if_any, ended_if_none}
use Rattle.sessions.proofs.end_if_any.Goals as goal

pub returns-then-in_session : goal.returns-then-in_session
returns-then-in_session c ls al reply =
    let a = c.args in
    ended_if_any a.connections.now ls al reply a.relay.now a.c _ c.peer-other.ensures _ c.in_session.ensures _ c.if-in_session.true (c.end.ensures ls al reply)

pub returns : goal.returns
returns c ls al reply =
    let a = c.args in
    ended_if_none a.connections.now ls al reply a.relay.now a.c _ c.peer-other.ensures _ c.in_session.ensures _ c.if-in_session.false c.sent_nothing.ensures
