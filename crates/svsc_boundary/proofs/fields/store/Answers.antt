-- `store`: too short, or stored.
use mathlib.Core.Path.{refl}
use mathlib.Core.Bool.{true}
use Rattle.svsc.proofs.Writing.{too_short_lem, stored}
use Rattle.svsc_boundary.proofs.fields.store.Goals as goal

pub returns-then-buffer-bytes : goal.returns-then-buffer-bytes
returns-then-buffer-bytes c = too_short_lem c.args.bytes.now c.args.buffer.now true refl c.if-buffer-bytes.true

pub returns : goal.returns
returns c =
    let a = c.args in
    stored a.bytes.now a.buffer.now true refl c.if-buffer-bytes.false _ _ refl c.copy.ensures
