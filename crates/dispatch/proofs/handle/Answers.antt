-- `handle`: in each arm, the plan of its decision.
use Rattle.rules.specs.Tables.{lent}
use Rattle.rules.specs.Plans.{plan_decided}
use Rattle.answers.proofs.Ways.{nothing-done}
use Rattle.dispatch.proofs.Ways.{as_decided}
use Rattle.dispatch.proofs.handle.Goals as goal

pub returns-in-AnswerVersion : goal.returns-in-AnswerVersion
unfolding plan_decided
returns-in-AnswerVersion c =
    let a = c.args in
    as_decided a.random.now a.m.now a.decision c.in-AnswerVersion.is (lent a.connections.now a.leases.now a.allowances.now) a.time a.c a.reply.now a.relay.now
    (c.answer_version.ensures a.leases.now a.allowances.now a.reply.now a.relay.now)

pub returns-in-Lease : goal.returns-in-Lease
unfolding plan_decided
returns-in-Lease c =
    let a = c.args in
    as_decided a.random.now a.m.now a.decision c.in-Lease.is (lent a.connections.now a.leases.now a.allowances.now) a.time a.c a.reply.now a.relay.now
    (c.lease.ensures a.connections.now a.relay.now)

pub returns-in-Extend : goal.returns-in-Extend
unfolding plan_decided
returns-in-Extend c =
    let a = c.args in
    as_decided a.random.now a.m.now a.decision c.in-Extend.is (lent a.connections.now a.leases.now a.allowances.now) a.time a.c a.reply.now a.relay.now
    (c.extend.ensures a.connections.now a.relay.now)

pub returns-in-Establish : goal.returns-in-Establish
unfolding plan_decided
returns-in-Establish c =
    let a = c.args in
    as_decided a.random.now a.m.now a.decision c.in-Establish.is (lent a.connections.now a.leases.now a.allowances.now) a.time a.c a.reply.now a.relay.now
    (c.establish.ensures a.leases.now a.allowances.now)

pub returns-in-EndSession : goal.returns-in-EndSession
unfolding plan_decided
returns-in-EndSession c =
    let a = c.args in
    as_decided a.random.now a.m.now a.decision c.in-EndSession.is (lent a.connections.now a.leases.now a.allowances.now) a.time a.c a.reply.now a.relay.now
    (c.end.ensures a.leases.now a.allowances.now a.reply.now)

pub returns-in-SendData : goal.returns-in-SendData
unfolding plan_decided
returns-in-SendData c =
    let a = c.args in
    as_decided a.random.now a.m.now a.decision c.in-SendData.is (lent a.connections.now a.leases.now a.allowances.now) a.time a.c a.reply.now a.relay.now
    (c.send.ensures a.connections.now a.leases.now a.allowances.now a.reply.now)

pub returns-in-Nothing : goal.returns-in-Nothing
unfolding plan_decided
returns-in-Nothing c =
    let a = c.args in
    as_decided a.random.now a.m.now a.decision c.in-Nothing.is (lent a.connections.now a.leases.now a.allowances.now) a.time a.c a.reply.now a.relay.now
    (nothing-done a.connections.now a.leases.now a.allowances.now a.reply.now a.relay.now c.sent_nothing.result c.sent_nothing.ensures)
