-- `crondelith_keepalive`: refused, or done.
use native.Mathlib.Omega.{arith}
use mathlib.Core.Path.{refl, sym, ◌∙◌}
use Rattle.rules.specs.Tables.{lent}
use Rattle.rules.specs.Calls.{keepalive}
use Rattle.connection_map.specs.Maps.{map_of_done}
use Rattle.rules.proofs.Prices.{prices}
use Rattle.refusal_numbers.proofs.Numbers.{number-some}
use Rattle.refusals.proofs.Stops.{call_known}
use Rattle.call_answers.proofs.Ways.{refused-recorded, settled-recorded}
use Rattle.relay_keepalive.proofs.Ways.{askable, keepalive_way}
use Rattle.relay_keepalive.proofs.crondelith_keepalive.Goals as goal

pub returns-in-Err : goal.returns-in-Err
returns-in-Err c =
    let a = c.args in
    let tables = lent a.connections.now a.leases.now a.allowances.now in
    refused-recorded tables a.map (keepalive a.time a.connection a.reply.now a.relay.now) _ (c.number-number.ensures ∙ c.in-Err.ensures.number a.reply.now a.relay.now refl refl) _ (λ _. sym ((prices tables).keepalive_price _ _ _ _)) _ (λ z. number-some _ (sym c.number-number.ensures ∙ z)) c.keepalive_record-recorded.ensures _ c.refused.ensures

pub attend-answer-requires : goal.attend-answer-requires
attend-answer-requires c =
    let a = c.args in
    let tables = lent a.connections.now a.leases.now a.allowances.now in
    rw c.in-Ok.ensures.same (askable tables a.time a.connection a.reply.now a.relay.now (c.in-Ok.ensures.number a.reply.now a.relay.now refl refl))

pub closed_if_disconnected-requires : goal.closed_if_disconnected-requires
closed_if_disconnected-requires c =
    let a = c.args in
    let tables = lent a.connections.now a.leases.now a.allowances.now in
    omega (arith, call_known tables (keepalive a.time a.connection a.reply.now a.relay.now) (c.in-Ok.ensures.number a.reply.now a.relay.now refl refl), c.in-Ok.ensures.same)

pub returns-in-Ok : goal.returns-in-Ok
unfolding map_of_done
returns-in-Ok c =
    let a = c.args in
    let tables = lent a.connections.now a.leases.now a.allowances.now in
    let same = c.in-Ok.ensures.same in
    let passed = c.in-Ok.ensures.number a.reply.now a.relay.now refl refl in
    settled-recorded tables a.map (keepalive a.time a.connection a.reply.now a.relay.now) _ passed _ (λ _. sym ((prices tables).keepalive_price _ _ _ _)) _ refl c.keepalive_record-recorded-in-Ok.ensures _ _ _ _
    (keepalive_way tables a.time a.connection a.reply.now a.relay.now passed _ _ _ _ _ _ c.attend-answer.result (rw same at (c.attend-answer.ensures a.allowances.now)) (rw same at c.sent.ensures) c.set_clock.ensures)
    _ (λ d. refl) (rw same at c.closed_if_disconnected.ensures)
