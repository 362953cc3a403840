-- `crondelith_explain_close`: a close is free, and decides nothing.
use mathlib.Core.Path.{refl, ◌∙◌}
use Rattle.rules.specs.Tables.{lent}
use Rattle.rules.specs.Calls.{closing}
use Rattle.rules.specs.Reasons.{asked}
use Rattle.reasons.proofs.Ways.{nothing_asked_lem, free_way}
use Rattle.explain_close.proofs.crondelith_explain_close.Goals as goal

pub returns : goal.returns
returns c relay long =
    let tables = lent c.args.connections.now c.args.leases.now c.args.allowances.now in
    let call = closing c.args.time c.args.connection relay in
    c.without_headroom.ensures
    ∙ (free_way tables call _ (c.answer_number-check.ensures ∙ c.check-checked.ensures.number relay long) refl _
    (nothing_asked_lem tables call c.answer_number-check.result (unfold asked in refl)))
