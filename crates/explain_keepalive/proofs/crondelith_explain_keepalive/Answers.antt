-- `crondelith_explain_keepalive`: a keepalive is free, and decides nothing.
use mathlib.Core.Path.{refl, ◌∙◌}
use Rattle.rules.specs.Tables.{lent}
use Rattle.rules.specs.Calls.{keepalive}
use Rattle.rules.specs.Reasons.{asked}
use Rattle.reasons.proofs.Ways.{nothing_asked_lem, free_way}
use Rattle.explain_keepalive.proofs.crondelith_explain_keepalive.Goals as goal

pub returns : goal.returns
returns c reply relay long long2 =
    let tables = lent c.args.connections.now c.args.leases.now c.args.allowances.now in
    let call = keepalive c.args.time c.args.connection reply relay in
    c.without_headroom.ensures
    ∙ (free_way tables call _ (c.answer_number-check.ensures ∙ c.check-checked.ensures.number reply relay long long2) refl _
    (nothing_asked_lem tables call c.answer_number-check.result (unfold asked in refl)))
