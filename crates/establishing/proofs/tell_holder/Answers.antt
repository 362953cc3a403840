-- The message, with its own pair.
use native.Mathlib.Omega.{arith}
use Rattle.establishing.proofs.Ways.{holder-told}
use Rattle.answers.proofs.Writes.{written-short}
use Rattle.establishing.proofs.tell_holder.Goals as goal

pub unwrap-requires : goal.unwrap-requires
unwrap-requires c =
    let a = c.args in
    (holder-told a.random.now a.relay.now (λ i. omega (arith, c.type_inv.random i)) c.requires.1 c.requires.0 _ _ _ c.part-session.ensures _ _ c.part-peer.ensures c.part-key.ensures c.svsc_write_establish_notification-sent.ensures).ok

pub overflow_cast-result : goal.overflow_cast-result
overflow_cast-result c = omega (arith, written-short _ _ _ _ c.svsc_write_establish_notification-sent.ensures _ c.unwrap.ensures)

pub returns : goal.returns
returns c =
    let a = c.args in
    (holder-told a.random.now a.relay.now (λ i. omega (arith, c.type_inv.random i)) c.requires.1 c.requires.0 _ _ _ c.part-session.ensures _ _ c.part-peer.ensures c.part-key.ensures c.svsc_write_establish_notification-sent.ensures).told _
    c.unwrap.ensures
