-- The message, with its own pair.
use native.Mathlib.Omega.{arith}
use Rattle.establishing.proofs.Ways.{caller_told}
use Rattle.answers.proofs.Writes.{written-short}
use Rattle.establishing.proofs.tell_caller.Goals as goal

pub unwrap-requires : goal.unwrap-requires
unwrap-requires c =
    let a = c.args in
    (caller_told a.random.now a.reply.now (λ i. omega (arith, c.type_inv.random i)) c.requires.1 c.requires.0 _ _ _ c.part-session.ensures _ _ a.id c.ranges.id.fits c.part-peer.ensures c.part-key.ensures c.svsc_write_established-sent.ensures).ok

pub overflow_cast-result : goal.overflow_cast-result
overflow_cast-result c = omega (arith, written-short _ _ _ _ c.svsc_write_established-sent.ensures _ c.unwrap.ensures)

pub returns : goal.returns
returns c =
    let a = c.args in
    (caller_told a.random.now a.reply.now (λ i. omega (arith, c.type_inv.random i)) c.requires.1 c.requires.0 _ _ _ c.part-session.ensures _ _ a.id c.ranges.id.fits c.part-peer.ensures c.part-key.ensures c.svsc_write_established-sent.ensures).told _
    c.unwrap.ensures
