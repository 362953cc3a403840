-- `answer_version`: taken, or refused.
use Rattle.sessions.proofs.Ways.{version_taken, version_refused}
use Rattle.sessions.proofs.answer_version.Goals as goal

pub returns-then-ok-eq1 : goal.returns-then-ok-eq1
returns-then-ok-eq1 c ls al reply relay =
    let a = c.args in
    version_taken a.connections.now ls al reply relay a.c a.ok _ _ c.if-ok-eq1.true c.sent_nothing.ensures c.set_open.ensures

pub returns : goal.returns
returns c ls al reply relay =
    let a = c.args in
    version_refused a.connections.now ls al reply relay a.c a.ok _ _ c.if-ok-eq1.false c.disconnected.ensures c.clear.ensures
