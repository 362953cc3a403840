-- `svsc_write_data_receive`: its range is that of the message; then the copying, done or too short.
use mathlib.Core.Path.{refl}
use Rattle.svsc.specs.Messages.{data_receive, well_formed}
use Rattle.svsc.proofs.Writing.{out_of_range, writes}
use Rattle.svsc.proofs.Copying.{copied_written}
use Rattle.svsc_session_writers.proofs.svsc_write_data_receive.Goals as goal

pub returns-then-not-short : goal.returns-then-not-short
unfolding well_formed
returns-then-not-short c =
    let a = c.args in
    writes (data_receive a.bytes.now) _ _ a.buffer.now _ (out_of_range _ a.buffer.now _ c.if-not-short.true) c.short.ensures refl

pub returns : goal.returns
unfolding well_formed
returns c =
    let a = c.args in
    rw c.ok_or.ensures.value
    (writes (data_receive a.bytes.now) _ _ a.buffer.now _ (copied_written a.bytes.now a.buffer.now _ _ c.copy.ensures _ c.if-not-short.false) c.short.ensures refl)
