-- `end`: both records, and the notification.
use native.Mathlib.Omega.{arith}
use mathlib.Core.Path.{refl}
use Rattle.svsc.specs.Messages.{session_end_notification, encode, well_formed}
use Rattle.answers.proofs.Writes.{sent_ok, sent-length, sent-buffer, written-short}
use Rattle.sessions.proofs.Ways.{ended}
use Rattle.sessions.proofs.end.Goals as goal

pub unwrap-sent-requires : goal.unwrap-sent-requires
unfolding well_formed encode
unwrap-sent-requires c = sent_ok session_end_notification c.args.relay.now _ _ c.svsc_write_session_end_notification.ensures refl (omega (arith, c.requires))

pub overflow_cast-sent : goal.overflow_cast-sent
overflow_cast-sent c = omega (arith, written-short _ _ _ _ c.svsc_write_session_end_notification.ensures _ c.unwrap-sent.ensures)

pub returns : goal.returns
unfolding well_formed encode
returns c ls al reply =
    let wrote = c.svsc_write_session_end_notification.ensures in
    ended c.args.connections.now ls al reply c.args.relay.now c.args.c _ _ _ _ _ c.end_session.ensures
    (sent-length session_end_notification c.args.relay.now _ _ wrote refl (omega (arith, c.requires)) _ c.unwrap-sent.ensures)
    (sent-buffer session_end_notification c.args.relay.now _ _ wrote refl (omega (arith, c.requires))) c.relayed.ensures
