-- `crondelith_fresh`: refused, or each table made fresh.
use mathlib.Core.Path.{refl, sym, ◌∙◌}
use Rattle.rules.specs.Tables.{lent}
use Rattle.refusal_numbers.proofs.Numbers.{number-some}
use Rattle.refusals.proofs.Stops.{start-sized}
use Rattle.relay_fresh.proofs.Ways.{start-refused, start-done}
use Rattle.relay_fresh.proofs.crondelith_fresh.Goals as goal

pub returns-in-Err : goal.returns-in-Err
returns-in-Err c =
    let a = c.args in
    let tables = lent a.connections.now a.leases.now a.allowances.now in
    start-refused tables a.map a.time a.term _ (c.number.ensures ∙ c.in-Err.ensures) (λ z. number-some _ (sym c.number.ensures ∙ z)) _ c.refused.ensures

pub fresh_connections-requires : goal.fresh_connections-requires
fresh_connections-requires c =
    let a = c.args in
    let tables = lent a.connections.now a.leases.now a.allowances.now in
    (start-sized tables a.time a.term c.in_default.ensures).connections

pub fresh_leases-requires : goal.fresh_leases-requires
fresh_leases-requires c =
    let a = c.args in
    let tables = lent a.connections.now a.leases.now a.allowances.now in
    (start-sized tables a.time a.term c.in_default.ensures).leases

pub fresh_allowances-requires : goal.fresh_allowances-requires
fresh_allowances-requires c =
    let a = c.args in
    let tables = lent a.connections.now a.leases.now a.allowances.now in
    (start-sized tables a.time a.term c.in_default.ensures).allowances

pub returns : goal.returns
returns c =
    let a = c.args in
    let tables = lent a.connections.now a.leases.now a.allowances.now in
    start-done tables a.map a.time a.term _ c.in_default.ensures refl _ _ _ _ _ c.sent_nothing.ensures c.answered.ensures
    (c.fresh_connections.ensures a.time a.term) (c.fresh_leases.ensures a.time a.term) c.fresh_allowances.ensures
