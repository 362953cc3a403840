-- `first_eight`: a way out for each check of an open.
use mathlib.Core.Path.{refl, sym, ◌∙◌}
use borrow.Author.Tests.{not-false, not-true}
use Rattle.std.proofs.Common.{rules}
use Rattle.connection_table.proofs.States.{closed-number, other-number}
use Rattle.rules.specs.Tables.{lent}
use Rattle.rules.specs.Calls.{opening}
use Rattle.refusals.proofs.Stops.{three-stop, open_wrong-state, open_wrong_lengths, open_passes}
use Rattle.refusals.proofs.open.first_eight.Goals as goal

pub returns-in_err-c-clause-number : goal.returns-in_err-c-clause-number
returns-in_err-c-clause-number c reply n =
    let a = c.args in
    let stopped = three-stop (lent a.connections.now a.leases.now a.allowances.now) (opening a.time a.connection reply) _ c.in_err-c.ensures.number in
    search rules

pub returns-then-ne-clause-number : goal.returns-then-ne-clause-number
returns-then-ne-clause-number c reply n =
    let a = c.args in
    open_wrong-state (lent a.connections.now a.leases.now a.allowances.now) a.time a.connection reply _ c.in_ok-c.ensures.number (rw c.in_ok-c.ensures.same at c.state.ensures) (other-number _ _ refl (not-true _ (sym c.ne.ensures ∙ c.if-ne.true)))

pub returns-then-reply_length-lt-LEAST_BUFFER-clause-number : goal.returns-then-reply_length-lt-LEAST_BUFFER-clause-number
returns-then-reply_length-lt-LEAST_BUFFER-clause-number c reply n =
    let a = c.args in
    open_wrong_lengths (lent a.connections.now a.leases.now a.allowances.now) a.time a.connection reply _ c.in_ok-c.ensures.number (rw c.in_ok-c.ensures.same at c.state.ensures) (closed-number _ _ refl (not-false _ (sym c.ne.ensures ∙ c.if-ne.false))) (rw n c.if-reply_length-lt-LEAST_BUFFER.true)

pub returns-clause-number : goal.returns-clause-number
returns-clause-number c reply n =
    let a = c.args in
    open_passes (lent a.connections.now a.leases.now a.allowances.now) a.time a.connection reply _ c.in_ok-c.ensures.number (rw c.in_ok-c.ensures.same at c.state.ensures) (closed-number _ _ refl (not-false _ (sym c.ne.ensures ∙ c.if-ne.false))) (rw n c.if-reply_length-lt-LEAST_BUFFER.false)
