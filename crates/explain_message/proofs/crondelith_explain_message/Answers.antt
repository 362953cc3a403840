-- `crondelith_explain_message`: stopped by one of checks 1 to 8, or judged.
use native.Mathlib.Omega.{arith}
use mathlib.Core.Path.{sym, ◌∙◌}
use Rattle.rules.specs.Tables.{lent}
use Rattle.rules.specs.Calls.{message}
use Rattle.refusal_numbers.proofs.Numbers.{number-some}
use Rattle.reasons.proofs.Ways.{stopped_way}
use Rattle.explain_message.proofs.Ways.{message_passed}
use Rattle.explain_message.proofs.crondelith_explain_message.Goals as goal

pub returns-in-Err : goal.returns-in-Err
returns-in-Err c reply relay n l =
    let a = c.args in
    let tables = lent a.connections.now a.leases.now a.allowances.now in
    let call = message a.time a.connection a.m.now a.random.now reply relay in
    c.without_headroom.ensures
    ∙ (stopped_way tables call _ (λ z. number-some _ (sym c.number.ensures ∙ z)) (c.number.ensures ∙ c.in-Err.ensures.eight reply relay n l))

pub new-requires : goal.new-requires
new-requires c =
    let a = c.args in
    let tables = lent a.connections.now a.leases.now a.allowances.now in
    (message_passed tables a.time a.connection a.m.now a.random.now a.reply_length a.relay_length c.in-Ok.assessment c.in-Ok.ensures.eight c.in-Ok.ensures.all).allowances

pub judged-requires : goal.judged-requires
judged-requires c =
    let a = c.args in
    let tables = lent a.connections.now a.leases.now a.allowances.now in
    let ok = message_passed tables a.time a.connection a.m.now a.random.now a.reply_length a.relay_length c.in-Ok.assessment c.in-Ok.ensures.eight c.in-Ok.ensures.all in
    (omega (arith, ok.connection, c.in-Ok.ensures.same), ok.price_most)

pub returns-in-Ok : goal.returns-in-Ok
returns-in-Ok c reply relay n l =
    let a = c.args in
    (rw (c.in-Ok.ensures.same, c.new.ensures) at (c.judged.ensures a.connections.now a.leases.now a.random.now reply relay))
    (c.in-Ok.ensures.eight reply relay n l) (c.in-Ok.ensures.all reply relay n l)
