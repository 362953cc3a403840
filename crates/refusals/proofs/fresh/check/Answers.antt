-- `check`: a way out for each check.
use mathlib.Core.Path.{sym, ◌∙◌}
use native.Mathlib.Omega.{arith}
use Rattle.rules.specs.Tables.{lent}
use Rattle.refusals.proofs.Stops.{start-wrong-size, start-wrong-time, start-wrong_term, start-passes}
use Rattle.refusals.proofs.fresh.check.Goals as goal

pub returns-then-not-sized : goal.returns-then-not-sized
returns-then-not-sized c =
    let a = c.args in
    start-wrong-size (lent a.connections.now a.leases.now a.allowances.now) a.time a.term _ c.sized.ensures c.if-not-sized.true-raw

pub returns-then-time-ge-TIME_LIMIT : goal.returns-then-time-ge-TIME_LIMIT
returns-then-time-ge-TIME_LIMIT c =
    let a = c.args in
    start-wrong-time (lent a.connections.now a.leases.now a.allowances.now) a.time a.term _ c.sized.ensures c.if-not-sized.false-raw (omega arith)

pub returns-then-is_wrong : goal.returns-then-is_wrong
returns-then-is_wrong c =
    let a = c.args in
    start-wrong_term (lent a.connections.now a.leases.now a.allowances.now) a.time a.term _ c.sized.ensures c.if-not-sized.false-raw (omega arith)
    (sym c.is_wrong.ensures ∙ c.if-is_wrong.true)

pub returns : goal.returns
returns c =
    let a = c.args in
    start-passes (lent a.connections.now a.leases.now a.allowances.now) a.time a.term _ c.sized.ensures c.if-not-sized.false-raw (omega arith)
    (sym c.is_wrong.ensures ∙ c.if-is_wrong.false)
