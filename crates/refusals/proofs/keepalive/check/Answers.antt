-- `check`: as for a close, and a way out for the reply buffer.
use Rattle.std.proofs.Common.{rules}
use Rattle.rules.specs.Tables.{lent}
use Rattle.refusals.proofs.Stops.{keepalive_stops, keepalive-wrong_lengths, keepalive-passes}
use Rattle.refusals.proofs.keepalive.check.Goals as goal

pub returns-in_err-c-clause-number : goal.returns-in_err-c-clause-number
returns-in_err-c-clause-number c reply relay n m =
    let a = c.args in
    let stopped = keepalive_stops (lent a.connections.now a.leases.now a.allowances.now) a.time a.connection reply relay _ (c.in_err-c.ensures.number relay m) in
    search rules

pub returns-then-reply_length-lt-LEAST_BUFFER-clause-number : goal.returns-then-reply_length-lt-LEAST_BUFFER-clause-number
returns-then-reply_length-lt-LEAST_BUFFER-clause-number c reply relay n m =
    let a = c.args in
    keepalive-wrong_lengths (lent a.connections.now a.leases.now a.allowances.now) a.time a.connection reply relay (c.in_ok-c.ensures.number relay m) (rw n c.if-reply_length-lt-LEAST_BUFFER.true)

pub returns-clause-number : goal.returns-clause-number
returns-clause-number c reply relay n m =
    let a = c.args in
    keepalive-passes (lent a.connections.now a.leases.now a.allowances.now) a.time a.connection reply relay (c.in_ok-c.ensures.number relay m) (rw n c.if-reply_length-lt-LEAST_BUFFER.false)
