-- `accept`: the record, the charge, the version message and its time.
use native.Mathlib.Omega.{arith}
use mathlib.Core.Path.{refl}
use Rattle.svsc.specs.Messages.{protocol_version, digits, encode, well_formed}
use Rattle.answers.proofs.Writes.{sent_ok, sent-length, sent-buffer, written-short}
use Rattle.relay_open.proofs.Ways.{open_done}
use Rattle.relay_open.proofs.accept.Goals as goal

pub unwrap-sent-requires : goal.unwrap-sent-requires
unfolding well_formed encode digits
unwrap-sent-requires c = sent_ok (protocol_version 1 0) c.args.reply.now _ _ c.svsc_write_version.ensures refl (omega (arith, c.requires.1))

pub overflow_cast-sent : goal.overflow_cast-sent
overflow_cast-sent c = omega (arith, written-short _ _ _ _ c.svsc_write_version.ensures _ c.unwrap-sent.ensures)

pub returns : goal.returns
unfolding well_formed encode digits
returns c ls =
    let a = c.args in
    open_done a.connections.now ls a.allowances.now a.reply.now _ _ _ _ a.time a.c _ _ c.await_version.ensures
    c.sent.ensures c.pay.ensures
    (sent-length (protocol_version 1 0) a.reply.now _ _ c.svsc_write_version.ensures refl (omega (arith, c.requires.1)) _ c.unwrap-sent.ensures)
    (sent-buffer (protocol_version 1 0) a.reply.now _ _ c.svsc_write_version.ensures refl (omega (arith, c.requires.1))) c.replied-answer.ensures
