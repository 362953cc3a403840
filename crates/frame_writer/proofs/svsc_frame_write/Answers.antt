-- `svsc_frame_write`: too long, too short, or the header and the message behind it.
use native.Mathlib.Omega.{arith}
use mathlib.Core.Path.{refl, sym}
use Rattle.framing.proofs.Writing.{write-long, write-short}
use Rattle.frame_writer.proofs.Ways.{frame-stored}
use Rattle.frame_writer.proofs.svsc_frame_write.Goals as goal

pub returns-then-message-gt-MESSAGE_LIMIT : goal.returns-then-message-gt-MESSAGE_LIMIT
returns-then-message-gt-MESSAGE_LIMIT c =
    let a = c.args in
    sym (write-long a.message.now a.frame.now (omega (arith, c.if-message-gt-MESSAGE_LIMIT.true)))

pub returns-then-frame-length : goal.returns-then-frame-length
returns-then-frame-length c =
    let a = c.args in
    sym (write-short a.message.now a.frame.now (omega (arith, c.if-message-gt-MESSAGE_LIMIT.false)) (omega (arith, c.if-frame-length.true)))

pub returns : goal.returns
returns c =
    let a = c.args in
    frame-stored a.message.now a.frame.now _ _ _ _ (omega (arith, c.if-message-gt-MESSAGE_LIMIT.false)) (omega (arith, c.if-frame-length.false))
    c.header-start.ensures c.copy.ensures c.copy_at_once.ensures refl
