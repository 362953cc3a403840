-- `own_checks`: a way out for each of checks 4 to 7.
use Rattle.connection_table.proofs.States.{closed-number, other-number}
use Rattle.message_refusal.proofs.MessageStops.{own-wrong-state, own-wrong_lengths, own-not-from-peer, own-not-permitted, own_pass}
use Rattle.message_refusal.proofs.own_checks.Goals as goal

pub returns-then-eq : goal.returns-then-eq
returns-then-eq c time reply relay n l =
    let a = c.args in
    own-wrong-state a.connections.now time a.c a.m.now a.random.now reply relay _ c.state-state.ensures (closed-number _ _ c.eq.ensures c.if-eq.true)

pub returns-then-are_wrong_lengths : goal.returns-then-are_wrong_lengths
returns-then-are_wrong_lengths c time reply relay n l =
    let a = c.args in
    own-wrong_lengths a.connections.now time a.c a.m.now a.random.now reply relay _ c.state-state.ensures (other-number _ _ c.eq.ensures c.if-eq.false) _ (c.are_wrong_lengths.ensures time a.c reply relay n l) c.if-are_wrong_lengths.true

pub returns-then-not-from_peer : goal.returns-then-not-from_peer
returns-then-not-from_peer c time reply relay n l =
    let a = c.args in
    own-not-from-peer a.connections.now time a.c a.m.now a.random.now reply relay _ c.state-state.ensures (other-number _ _ c.eq.ensures c.if-eq.false) _ (c.are_wrong_lengths.ensures time a.c reply relay n l) c.if-are_wrong_lengths.false _ c.from_peer.ensures c.if-not-from_peer.true-raw

pub returns-then-not-is_permitted : goal.returns-then-not-is_permitted
returns-then-not-is_permitted c time reply relay n l =
    let a = c.args in
    own-not-permitted a.connections.now time a.c a.m.now a.random.now reply relay _ c.state-state.ensures (other-number _ _ c.eq.ensures c.if-eq.false) _ (c.are_wrong_lengths.ensures time a.c reply relay n l) c.if-are_wrong_lengths.false _ c.from_peer.ensures c.if-not-from_peer.false-raw _ c.byte.ensures _ (rw c.number.ensures at c.is_permitted.ensures) c.if-not-is_permitted.true-raw

pub returns : goal.returns
returns c time reply relay n l =
    let a = c.args in
    own_pass a.connections.now time a.c a.m.now a.random.now reply relay _ c.state-state.ensures (other-number _ _ c.eq.ensures c.if-eq.false) _ (c.are_wrong_lengths.ensures time a.c reply relay n l) c.if-are_wrong_lengths.false _ c.from_peer.ensures c.if-not-from_peer.false-raw _ c.byte.ensures _ (rw c.number.ensures at c.is_permitted.ensures) c.if-not-is_permitted.false-raw
