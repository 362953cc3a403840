-- `judged`: a message that is free, or charged.
use native.Mathlib.Omega.{arith}
use mathlib.Core.Path.{sym, ◌∙◌}
use Rattle.allowance.proofs.Numbers.{level≤capacity}
use Rattle.rules.specs.Tables.{lent, bucket_of}
use Rattle.rules.specs.Calls.{message}
use Rattle.rules.specs.Charges.{caller_level}
use Rattle.message_refusal.proofs.MessageStops.{assessed-number, assessed-price}
use Rattle.reasons.proofs.Ways.{free_way, charged_way}
use Rattle.explain_message.proofs.Ways.{message-free, message-charged, decided-is}
use Rattle.explain_message.proofs.judged.Goals as goal

pub returns-then-byte-eq9 : goal.returns-then-byte-eq9
returns-then-byte-eq9 c cs ls random reply relay eight all =
    let a = c.args in
    let f = a.assessment in
    let tables = lent cs ls a.allowances.now in
    let call = message a.time f.connection a.m.now random reply relay in
    let e = c.answer_number-check.ensures ∙ assessed-number tables a.time f.connection a.m.now random reply relay f eight all in
    c.without_headroom.ensures
    ∙ free_way tables call _ e (message-free a.time f.connection a.m.now random reply relay _ c.byte.ensures c.if-byte-eq9.true) _
    (decided-is tables a.time f.connection a.m.now random reply relay f eight all _ _ (c.decided-named.ensures a.m.now random))

pub with_headroom-requires : goal.with_headroom-requires
with_headroom-requires c =
    omega (arith, level≤capacity (bucket_of c.args.allowances.now c.partner_of-partner.result) c.args.time, c.level-level.ensures, c.requires.1)

pub returns : goal.returns
unfolding caller_level
returns c cs ls random reply relay eight all =
    let a = c.args in
    let f = a.assessment in
    let tables = lent cs ls a.allowances.now in
    let call = message a.time f.connection a.m.now random reply relay in
    let e = c.answer_number-check.ensures ∙ assessed-number tables a.time f.connection a.m.now random reply relay f eight all in
    c.with_headroom.ensures
    ∙ charged_way tables call _ e (sym eight) (message-charged a.time f.connection a.m.now random reply relay _ c.byte.ensures c.if-byte-eq9.false) _
    (decided-is tables a.time f.connection a.m.now random reply relay f eight all _ _ (c.decided-named.ensures a.m.now random)) _ _
    (c.level-level.ensures ∙ rw c.partner_of-partner.ensures)
    (assessed-price tables a.time f.connection a.m.now random reply relay f eight all)
