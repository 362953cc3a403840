-- `crondelith_explain_open`: stopped by one of checks 1 to 8, or charged.
use native.Mathlib.Omega.{arith}
use mathlib.Core.Path.{refl, sym, ◌∙◌}
use Rattle.std.proofs.Common.{replicate}
use lib.ListN.{length-replicate}
use Rattle.allowance.proofs.Numbers.{level≤capacity}
use Rattle.rules.specs.Tables.{lent, bucket_of}
use Rattle.rules.specs.Calls.{opening}
use Rattle.rules.specs.Charges.{caller_level}
use Rattle.rules.proofs.Checks.{passed}
use Rattle.rules.proofs.Prices.{prices}
use Rattle.rules.specs.Reasons.{asked}
use Rattle.refusal_numbers.proofs.Numbers.{number-some}
use Rattle.refusals.proofs.Stops.{open_last}
use Rattle.reasons.proofs.Ways.{nothing_asked_lem, stopped_way, charged_way}
use Rattle.explain_open.proofs.crondelith_explain_open.Goals as goal

pub returns-in-Err : goal.returns-in-Err
returns-in-Err c reply long =
    let tables = lent c.args.connections.now c.args.leases.now c.args.allowances.now in
    let call = opening c.args.time c.args.connection reply in
    c.without_headroom.ensures
    ∙ (stopped_way tables call _ (λ z. number-some _ (sym c.number.ensures ∙ z)) (c.number.ensures ∙ c.in-Err.ensures.number reply long))

pub new-allowances-requires : goal.new-allowances-requires
new-allowances-requires c =
    let tables = lent c.args.connections.now c.args.leases.now c.args.allowances.now in
    let call = opening c.args.time c.args.connection (replicate c.args.reply_length 0) in
    (passed tables call (sym (c.in-Ok.ensures.number _ (length-replicate c.args.reply_length 0)))).allowances

pub last-last-requires : goal.last-last-requires
last-last-requires c =
    let tables = lent c.args.connections.now c.args.leases.now c.args.allowances.now in
    let call = opening c.args.time c.args.connection (replicate c.args.reply_length 0) in
    let ok = passed tables call (sym (c.in-Ok.ensures.number _ (length-replicate c.args.reply_length 0))) in
    omega (arith, ok.known, c.in-Ok.ensures.same)

pub level-level-requires : goal.level-level-requires
level-level-requires c =
    let tables = lent c.args.connections.now c.args.leases.now c.args.allowances.now in
    let call = opening c.args.time c.args.connection (replicate c.args.reply_length 0) in
    let ok = passed tables call (sym (c.in-Ok.ensures.number _ (length-replicate c.args.reply_length 0))) in
    omega (arith, ok.of_partner, c.partner_of.ensures, c.in-Ok.ensures.same)

pub with_headroom-requires : goal.with_headroom-requires
with_headroom-requires c =
    omega (arith, level≤capacity (bucket_of c.args.allowances.now c.partner_of.result) c.args.time, rw c.new-allowances.ensures at c.level-level.ensures)

pub returns-in-Ok : goal.returns-in-Ok
unfolding caller_level
returns-in-Ok c reply long =
    let a = c.args in
    let tables = lent a.connections.now a.leases.now a.allowances.now in
    let call = opening a.time a.connection reply in
    let passed = c.in-Ok.ensures.number reply long in
    let same = c.in-Ok.ensures.same in
    c.with_headroom.ensures
    ∙ (charged_way tables call _ (open_last tables a.time a.connection reply _ passed (c.answer_number-check.ensures ∙ rw (same, c.new-allowances.ensures) at c.last-last.ensures))
    (sym passed) refl _ (nothing_asked_lem tables call c.answer_number-check.result (unfold asked in refl)) _ _
    (c.level-level.ensures ∙ rw (c.partner_of.ensures, same, c.new-allowances.ensures)) (sym ((prices tables).open_price a.time a.connection reply)))
