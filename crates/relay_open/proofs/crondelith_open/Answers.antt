-- `crondelith_open`: refused, or done.
use native.Mathlib.Omega.{arith}
use mathlib.Core.Path.{refl, sym, ◌∙◌}
use Rattle.rules.specs.Tables.{lent}
use Rattle.rules.specs.Calls.{opening}
use Rattle.connection_map.specs.Maps.{map_of_done}
use Rattle.rules.proofs.Prices.{prices}
use Rattle.refusal_numbers.proofs.Numbers.{number-some}
use Rattle.refusals.proofs.Stops.{call_known, open_known}
use Rattle.answers.proofs.Ways.{done_way}
use Rattle.call_answers.proofs.Ways.{refused-recorded, done-recorded}
use Rattle.relay_open.proofs.crondelith_open.Goals as goal

pub returns-in-Err : goal.returns-in-Err
returns-in-Err c =
    let a = c.args in
    let tables = lent a.connections.now a.leases.now a.allowances.now in
    refused-recorded tables a.map (opening a.time a.connection a.reply.now) _ (c.number-number.ensures ∙ c.in-Err.ensures.number a.reply.now refl) _ (λ _. sym ((prices tables).open_price _ _ _)) _ (λ z. number-some _ (sym c.number-number.ensures ∙ z)) c.open_record-recorded.ensures _ c.refused.ensures

pub accept-answer-requires : goal.accept-answer-requires
accept-answer-requires c =
    let a = c.args in
    let tables = lent a.connections.now a.leases.now a.allowances.now in
    rw c.in-Ok.ensures.same (open_known tables a.time a.connection a.reply.now (c.in-Ok.ensures.number a.reply.now refl))

pub opened-requires : goal.opened-requires
opened-requires c =
    let a = c.args in
    let tables = lent a.connections.now a.leases.now a.allowances.now in
    omega (arith, call_known tables (opening a.time a.connection a.reply.now) (c.in-Ok.ensures.number a.reply.now refl), c.in-Ok.ensures.same)

pub returns-in-Ok : goal.returns-in-Ok
unfolding map_of_done
returns-in-Ok c =
    let a = c.args in
    let tables = lent a.connections.now a.leases.now a.allowances.now in
    let passed = c.in-Ok.ensures.number a.reply.now refl in
    done-recorded tables a.map (opening a.time a.connection a.reply.now) _ passed _ (λ _. sym ((prices tables).open_price _ _ _)) _ refl c.open_record-recorded-in-Ok.ensures _ _ _ _ (done_way tables (opening a.time a.connection a.reply.now) _ passed refl _ (rw c.in-Ok.ensures.same at (c.accept-answer.ensures a.leases.now))) _ (rw c.in-Ok.ensures.same at c.opened.ensures)
