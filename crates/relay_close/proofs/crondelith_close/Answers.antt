-- `crondelith_close`: refused, or done.
use native.Mathlib.Omega.{arith}
use mathlib.Core.Path.{refl, sym, ◌∙◌}
use Rattle.rules.specs.Tables.{lent}
use Rattle.rules.specs.Calls.{closing}
use Rattle.connection_map.specs.Maps.{map_of_done}
use Rattle.rules.proofs.Prices.{prices}
use Rattle.refusal_numbers.proofs.Numbers.{number-some}
use Rattle.refusals.proofs.Stops.{call_known, close_known}
use Rattle.answers.proofs.Ways.{done_way}
use Rattle.call_answers.proofs.Ways.{refused-recorded, done-recorded}
use Rattle.relay_close.proofs.crondelith_close.Goals as goal

pub returns-in-Err : goal.returns-in-Err
returns-in-Err c =
    let a = c.args in
    let tables = lent a.connections.now a.leases.now a.allowances.now in
    refused-recorded tables a.map (closing a.time a.connection a.relay.now) _ (c.number-number.ensures ∙ c.in-Err.ensures.number a.relay.now refl) _ (λ _. sym ((prices tables).close_price _ _ _)) _ (λ z. number-some _ (sym c.number-number.ensures ∙ z)) c.close_record-recorded.ensures _ c.refused.ensures

pub accept-answer-requires : goal.accept-answer-requires
accept-answer-requires c =
    let a = c.args in
    let tables = lent a.connections.now a.leases.now a.allowances.now in
    rw c.in-Ok.ensures.same (close_known tables a.time a.connection a.relay.now (c.in-Ok.ensures.number a.relay.now refl))

pub closed-requires : goal.closed-requires
closed-requires c =
    let a = c.args in
    let tables = lent a.connections.now a.leases.now a.allowances.now in
    omega (arith, call_known tables (closing a.time a.connection a.relay.now) (c.in-Ok.ensures.number a.relay.now refl), c.in-Ok.ensures.same)

pub returns-in-Ok : goal.returns-in-Ok
unfolding map_of_done
returns-in-Ok c =
    let a = c.args in
    let tables = lent a.connections.now a.leases.now a.allowances.now in
    let passed = c.in-Ok.ensures.number a.relay.now refl in
    done-recorded tables a.map (closing a.time a.connection a.relay.now) _ passed _ (λ _. sym ((prices tables).close_price _ _ _)) _ refl c.close_record-recorded-in-Ok.ensures _ _ _ _ (done_way tables (closing a.time a.connection a.relay.now) _ passed refl _ (rw c.in-Ok.ensures.same at c.accept-answer.ensures)) _ (rw c.in-Ok.ensures.same at c.closed.ensures)
