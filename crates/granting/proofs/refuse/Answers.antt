-- `refuse`: the message, written.
use native.Mathlib.Omega.{arith}
use mathlib.Core.Path.{refl}
use Rattle.svsc.specs.Messages.{lease_refused, encode, well_formed}
use Rattle.answers.proofs.Writes.{sent_ok, sent-length, sent-buffer, written-short}
use Rattle.granting.proofs.Ways.{lease-refused}
use Rattle.granting.proofs.refuse.Goals as goal

pub unwrap-sent-requires : goal.unwrap-sent-requires
unfolding well_formed encode
unwrap-sent-requires c = sent_ok lease_refused c.args.reply.now _ _ c.svsc_write_lease_refused.ensures refl (omega (arith, c.requires))

pub overflow_cast-sent : goal.overflow_cast-sent
overflow_cast-sent c = omega (arith, written-short _ _ _ _ c.svsc_write_lease_refused.ensures _ c.unwrap-sent.ensures)

pub returns : goal.returns
unfolding well_formed encode
returns c cs ls al relay =
    let wrote = c.svsc_write_lease_refused.ensures in
    lease-refused cs ls al c.args.reply.now relay 0 0 _ _ _
    (sent-length lease_refused c.args.reply.now _ _ wrote refl (omega (arith, c.requires)) _ c.unwrap-sent.ensures)
    (sent-buffer lease_refused c.args.reply.now _ _ wrote refl (omega (arith, c.requires))) c.replied.ensures
