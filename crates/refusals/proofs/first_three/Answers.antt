-- `first_three`: a way out for each check.
use native.Mathlib.Omega.{arith}
use Rattle.rules.specs.Tables.{lent}
use mathlib.Core.Path.{refl, sym, ◌∙◌}
use borrow.Author.Tests.{not-false}
use Rattle.refusals.proofs.Stops.{sizes-known, wrong_size_lem, wrong-time, wrong-connection, three_pass}
use Rattle.refusals.proofs.first_three.Goals as goal

pub returns-then-not-sized-clause-number : goal.returns-then-not-sized-clause-number
returns-then-not-sized-clause-number c =
    let a = c.args in
    wrong_size_lem (lent a.connections.now a.leases.now a.allowances.now) a.time a.connection _ _ c.sized.ensures refl c.if-not-sized.true-raw

pub new-requires : goal.new-requires
new-requires c =
    let a = c.args in
    (sizes-known (lent a.connections.now a.leases.now a.allowances.now) (sym c.sized.ensures ∙ not-false _ c.if-not-sized.false-raw)).allowances

pub returns-then-is_wrong_time-clause-number : goal.returns-then-is_wrong_time-clause-number
returns-then-is_wrong_time-clause-number c =
    let a = c.args in
    wrong-time (lent a.connections.now a.leases.now a.allowances.now) a.time a.connection _ _ c.sized.ensures (rw c.new.ensures at c.is_wrong_time.ensures) c.if-not-sized.false-raw c.if-is_wrong_time.true

pub returns-then-connection-clause-number : goal.returns-then-connection-clause-number
returns-then-connection-clause-number c =
    let a = c.args in
    wrong-connection (lent a.connections.now a.leases.now a.allowances.now) a.time a.connection _ _ c.sized.ensures (rw c.new.ensures at c.is_wrong_time.ensures) c.if-not-sized.false-raw c.if-is_wrong_time.false (omega arith)

pub returns-clause-number : goal.returns-clause-number
returns-clause-number c =
    let a = c.args in
    three_pass (lent a.connections.now a.leases.now a.allowances.now) a.time a.connection _ _ c.sized.ensures (rw c.new.ensures at c.is_wrong_time.ensures) c.if-not-sized.false-raw c.if-is_wrong_time.false (omega arith)
