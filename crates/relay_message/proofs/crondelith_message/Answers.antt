-- `crondelith_message`: refused before it has a price, or at its price, or done.
use native.Mathlib.Omega.{arith}
use mathlib.Core.Path.{refl, sym, ap, ◌∙◌}
use Rattle.rules.specs.Tables.{lent}
use Rattle.rules.specs.Calls.{message}
use Rattle.connection_map.specs.Maps.{map_of_done}
use Rattle.refusal_numbers.specs.Numbers.{answer_number}
use Rattle.refusal_numbers.proofs.Numbers.{number-some}
use Rattle.refusals.proofs.Stops.{eight-stop}
use Rattle.message_refusal.proofs.MessageStops.{assessed-number, assessed-price}
use Rattle.call_answers.proofs.Ways.{refused-recorded, settled-recorded}
use Rattle.relay_message.proofs.Ways.{unpriced, admitted, feasible, admitted_payable, message_way}
use Rattle.relay_message.proofs.crondelith_message.Goals as goal

pub returns-in-Err : goal.returns-in-Err
returns-in-Err c =
    let a = c.args in
    let tables = lent a.connections.now a.leases.now a.allowances.now in
    let call = message a.time a.connection a.m.now a.random.now a.reply.now a.relay.now in
    let stopped = c.in-Err.ensures.eight a.reply.now a.relay.now refl refl in
    refused-recorded tables a.map call _ (eight-stop tables call _ stopped)
    _ (unpriced tables a.time a.connection a.m.now a.random.now a.reply.now a.relay.now _ stopped) _ (number-some _) refl _ c.refused.ensures

pub returns-in-Err-last : goal.returns-in-Err-last
returns-in-Err-last c =
    let a = c.args in
    let f = c.in-Ok.assessment in
    let tables = lent a.connections.now a.leases.now a.allowances.now in
    let eight = c.in-Ok.ensures.eight a.reply.now a.relay.now refl refl in
    let all = c.in-Ok.ensures.all a.reply.now a.relay.now refl refl in
    refused-recorded tables a.map (message a.time a.connection a.m.now a.random.now a.reply.now a.relay.now) _
    (sym (ap answer_number c.in-Err-last.is) ∙ assessed-number tables a.time a.connection a.m.now a.random.now a.reply.now a.relay.now f eight all)
    _ (λ _. assessed-price tables a.time a.connection a.m.now a.random.now a.reply.now a.relay.now f eight all) _ (number-some _) refl _ c.refused-in-Err-last.ensures

pub new-requires : goal.new-requires
new-requires c =
    let a = c.args in
    let f = c.in-Ok.assessment in
    let tables = lent a.connections.now a.leases.now a.allowances.now in
    let eight = c.in-Ok.ensures.eight a.reply.now a.relay.now refl refl in
    let all = c.in-Ok.ensures.all a.reply.now a.relay.now refl refl in
    let passed = sym (ap answer_number c.in_default.is) ∙ assessed-number tables a.time a.connection a.m.now a.random.now a.reply.now a.relay.now f eight all in
    (admitted_payable tables a.time a.connection a.m.now a.random.now a.reply.now a.relay.now f eight all passed).size

pub handle-answer-requires : goal.handle-answer-requires
handle-answer-requires c =
    let a = c.args in
    let f = c.in-Ok.assessment in
    let tables = lent a.connections.now a.leases.now a.allowances.now in
    let eight = c.in-Ok.ensures.eight a.reply.now a.relay.now refl refl in
    let all = c.in-Ok.ensures.all a.reply.now a.relay.now refl refl in
    let passed = sym (ap answer_number c.in_default.is) ∙ assessed-number tables a.time a.connection a.m.now a.random.now a.reply.now a.relay.now f eight all in
    (rw c.in-Ok.ensures.same (admitted tables a.time a.connection a.m.now a.random.now a.reply.now a.relay.now f eight all passed), feasible tables a.time a.connection a.m.now a.random.now a.reply.now a.relay.now f eight all passed)

pub settle-requires : goal.settle-requires
settle-requires c =
    let a = c.args in
    let f = c.in-Ok.assessment in
    let tables = lent a.connections.now a.leases.now a.allowances.now in
    let eight = c.in-Ok.ensures.eight a.reply.now a.relay.now refl refl in
    let all = c.in-Ok.ensures.all a.reply.now a.relay.now refl refl in
    let passed = sym (ap answer_number c.in_default.is) ∙ assessed-number tables a.time a.connection a.m.now a.random.now a.reply.now a.relay.now f eight all in
    rw c.in-Ok.ensures.same (admitted_payable tables a.time a.connection a.m.now a.random.now a.reply.now a.relay.now f eight all passed)

pub closed_if_disconnected-requires : goal.closed_if_disconnected-requires
closed_if_disconnected-requires c =
    let a = c.args in
    let f = c.in-Ok.assessment in
    let tables = lent a.connections.now a.leases.now a.allowances.now in
    let eight = c.in-Ok.ensures.eight a.reply.now a.relay.now refl refl in
    let all = c.in-Ok.ensures.all a.reply.now a.relay.now refl refl in
    let passed = sym (ap answer_number c.in_default.is) ∙ assessed-number tables a.time a.connection a.m.now a.random.now a.reply.now a.relay.now f eight all in
    omega (arith, (admitted tables a.time a.connection a.m.now a.random.now a.reply.now a.relay.now f eight all passed).known, c.in-Ok.ensures.same)

pub returns : goal.returns
unfolding map_of_done
returns c =
    let a = c.args in
    let f = c.in-Ok.assessment in
    let tables = lent a.connections.now a.leases.now a.allowances.now in
    let same = c.in-Ok.ensures.same in
    let eight = c.in-Ok.ensures.eight a.reply.now a.relay.now refl refl in
    let all = c.in-Ok.ensures.all a.reply.now a.relay.now refl refl in
    let passed = sym (ap answer_number c.in_default.is) ∙ assessed-number tables a.time a.connection a.m.now a.random.now a.reply.now a.relay.now f eight all in
    settled-recorded tables a.map (message a.time a.connection a.m.now a.random.now a.reply.now a.relay.now) _ passed
    _ (λ _. assessed-price tables a.time a.connection a.m.now a.random.now a.reply.now a.relay.now f eight all) _ refl c.message_record-recorded.ensures _ _ _ _
    (message_way tables a.time a.connection a.m.now a.random.now a.reply.now a.relay.now f eight all passed _ _ _ _ _ _ c.handle-answer.result (rw (same, c.new.ensures) at c.handle-answer.ensures)
    ((rw same at c.sent.ensures) ∙ rw (c.answered.ensures, same)) (rw same at (c.settle.ensures a.random.now a.reply.now a.relay.now)))
    _ (λ d. refl) (rw same at c.closed_if_disconnected.ensures)
