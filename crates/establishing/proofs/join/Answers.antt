-- `join`: both records, and both messages.
use Rattle.establishing.proofs.Ways.{session_made}
use Rattle.establishing.proofs.join.Goals as goal

pub returns : goal.returns
returns c ls al =
    let a = c.args in
    session_made a.connections.now ls al a.reply.now a.relay.now a.c a.id a.random.now _ _ _ _ _ _ _ c.establish.ensures c.tell_caller-told.ensures
    c.tell_holder-notified.ensures c.both.ensures
