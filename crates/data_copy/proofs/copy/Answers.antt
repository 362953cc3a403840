-- `copy`: too short, or the type and the data behind it.
use native.Mathlib.Omega.{arith}
use Rattle.svsc.proofs.Copying.{copy-short, copy_stored}
use Rattle.data_copy.proofs.copy.Goals as goal

pub returns-then-buffer-bytes : goal.returns-then-buffer-bytes
returns-then-buffer-bytes c =
    let a = c.args in
    copy-short a.bytes.now a.buffer.now (omega (arith, c.if-buffer-bytes.true))

pub copy_pieces-requires : goal.copy_pieces-requires
copy_pieces-requires c = omega (arith, c.if-buffer-bytes.false)

pub returns : goal.returns
returns c =
    let a = c.args in
    copy_stored a.bytes.now a.buffer.now (omega (arith, c.if-buffer-bytes.false)) _ _ _ (omega arith)
    c.write8.ensures c.copy_pieces.ensures
