-- `check`: a way out for each check of a close.
use Rattle.connection_table.proofs.States.{closed-number, other-number}
use Rattle.std.proofs.Common.{rules}
use Rattle.rules.specs.Tables.{lent}
use Rattle.rules.specs.Calls.{closing}
use Rattle.refusals.proofs.Stops.{three-stop, close_wrong-state, close_wrong_lengths, close_passes, close_free}
use Rattle.refusals.proofs.close.check.Goals as goal

pub returns-in_err-c-clause-number : goal.returns-in_err-c-clause-number
returns-in_err-c-clause-number c relay n =
    let a = c.args in
    let stopped = close_free _ _ _ relay _ (three-stop (lent a.connections.now a.leases.now a.allowances.now) (closing a.time a.connection relay) _ c.in_err-c.ensures.number) in
    search rules

pub returns-then-eq-clause-number : goal.returns-then-eq-clause-number
returns-then-eq-clause-number c relay n =
    let a = c.args in
    close_free _ _ _ relay _ (close_wrong-state (lent a.connections.now a.leases.now a.allowances.now) a.time a.connection relay _ c.in_ok-c.ensures.number (rw c.in_ok-c.ensures.same at c.state.ensures) (closed-number _ _ c.eq.ensures c.if-eq.true))

pub returns-then-relay_length-lt-LEAST_BUFFER-clause-number : goal.returns-then-relay_length-lt-LEAST_BUFFER-clause-number
returns-then-relay_length-lt-LEAST_BUFFER-clause-number c relay n =
    let a = c.args in
    close_free _ _ _ relay _ (close_wrong_lengths (lent a.connections.now a.leases.now a.allowances.now) a.time a.connection relay _ c.in_ok-c.ensures.number (rw c.in_ok-c.ensures.same at c.state.ensures) (other-number _ _ c.eq.ensures c.if-eq.false) (rw n c.if-relay_length-lt-LEAST_BUFFER.true))

pub returns-clause-number : goal.returns-clause-number
returns-clause-number c relay n =
    let a = c.args in
    close_free _ _ _ relay _ (close_passes (lent a.connections.now a.leases.now a.allowances.now) a.time a.connection relay _ c.in_ok-c.ensures.number (rw c.in_ok-c.ensures.same at c.state.ensures) (other-number _ _ c.eq.ensures c.if-eq.false) (rw n c.if-relay_length-lt-LEAST_BUFFER.false))
