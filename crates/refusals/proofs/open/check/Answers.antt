-- `check`: stopped by one of the first eight, or by the last, or by none.
use native.Mathlib.Omega.{arith}
use mathlib.Core.Path.{sym}
use Rattle.std.proofs.Common.{rules, replicate}
use lib.ListN.{length-replicate}
use Rattle.rules.specs.Tables.{lent}
use Rattle.rules.specs.Calls.{opening}
use Rattle.rules.proofs.Checks.{passed}
use Rattle.refusals.proofs.Stops.{eight-stop, open_last}
use Rattle.refusals.proofs.open.check.Goals as goal

pub returns-in_err-c-clause-number : goal.returns-in_err-c-clause-number
returns-in_err-c-clause-number c reply n =
    let a = c.args in
    let stopped = eight-stop (lent a.connections.now a.leases.now a.allowances.now) (opening a.time a.connection reply) _ (c.in_err-c.ensures.number reply n) in
    search rules

pub new-allowances-requires : goal.new-allowances-requires
new-allowances-requires c =
    let a = c.args in
    let ok = passed (lent a.connections.now a.leases.now a.allowances.now) (opening a.time a.connection (replicate a.reply_length 0)) (sym (c.in_ok-c.ensures.number _ (length-replicate a.reply_length 0))) in
    ok.allowances

pub last-requires : goal.last-requires
last-requires c =
    let a = c.args in
    let ok = passed (lent a.connections.now a.leases.now a.allowances.now) (opening a.time a.connection (replicate a.reply_length 0)) (sym (c.in_ok-c.ensures.number _ (length-replicate a.reply_length 0))) in
    omega (arith, ok.known, c.in_ok-c.ensures.same)

pub returns-in_err-last-clause-number : goal.returns-in_err-last-clause-number
returns-in_err-last-clause-number c reply n =
    let a = c.args in
    let stopped = open_last (lent a.connections.now a.leases.now a.allowances.now) a.time a.connection reply _ (c.in_ok-c.ensures.number reply n) (rw (c.in_ok-c.ensures.same, c.new-allowances.ensures) at c.in_err-last.ensures) in
    search rules

pub returns-clause-number : goal.returns-clause-number
returns-clause-number c reply n =
    let a = c.args in
    open_last (lent a.connections.now a.leases.now a.allowances.now) a.time a.connection reply _ (c.in_ok-c.ensures.number reply n) (rw (c.in_ok-c.ensures.same, c.new-allowances.ensures) at c.in_ok-last.ensures)
