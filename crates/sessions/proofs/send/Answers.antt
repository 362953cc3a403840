-- `send`: the data, copied, to the connection that was found.
use native.Mathlib.Omega.{arith}
use Rattle.sessions.proofs.Ways.{was-copied, copied-whole, copied-short, sent_on}
use Rattle.sessions.proofs.send.Goals as goal

pub unwrap-copied-requires : goal.unwrap-copied-requires
unwrap-copied-requires c = was-copied c.args.m.now c.args.relay.now _ c.requires c.after-bytes.ensures _ _ c.copy.ensures

pub overflow_cast-copied : goal.overflow_cast-copied
overflow_cast-copied c =
    omega (arith, copied-short c.args.m.now c.args.relay.now _ c.requires c.after-bytes.ensures _ _ c.copy.ensures _ c.unwrap-copied.ensures)

pub returns : goal.returns
returns c cs ls al reply =
    sent_on cs ls al reply c.args.relay.now _ _ _ _ _
    (copied-whole c.args.m.now c.args.relay.now _ c.requires c.after-bytes.ensures _ _ c.copy.ensures _ c.unwrap-copied.ensures)
    c.relayed.ensures
