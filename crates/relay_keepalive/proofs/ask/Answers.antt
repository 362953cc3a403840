-- `ask`: the record, and the keepalive.
use native.Mathlib.Omega.{arith}
use mathlib.Core.Path.{refl}
use Rattle.svsc.specs.Messages.{keepalive_message, encode, well_formed}
use Rattle.answers.proofs.Writes.{sent_ok, sent-length, sent-buffer, written-short}
use Rattle.relay_keepalive.proofs.Ways.{asked}
use Rattle.relay_keepalive.proofs.ask.Goals as goal

pub unwrap-sent-requires : goal.unwrap-sent-requires
unfolding well_formed encode
unwrap-sent-requires c = sent_ok keepalive_message c.args.reply.now _ _ c.svsc_write_keepalive.ensures refl (omega (arith, c.requires))

pub overflow_cast-sent : goal.overflow_cast-sent
overflow_cast-sent c = omega (arith, written-short _ _ _ _ c.svsc_write_keepalive.ensures _ c.unwrap-sent.ensures)

pub returns : goal.returns
unfolding well_formed encode
returns c ls relay =
    let a = c.args in
    asked a.connections.now ls a.reply.now relay _ _ a.time a.c _ _ c.ask.ensures
    (sent-length keepalive_message a.reply.now _ _ c.svsc_write_keepalive.ensures refl (omega (arith, c.requires)) _ c.unwrap-sent.ensures)
    (sent-buffer keepalive_message a.reply.now _ _ c.svsc_write_keepalive.ensures refl (omega (arith, c.requires))) c.replied.ensures
