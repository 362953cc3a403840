-- `settle`: the clock alone, or the charge with it.
use Rattle.charges.proofs.Ways.{not-charged, is-charged}
use Rattle.charges.proofs.settle.Goals as goal

pub returns-then-byte-eq9 : goal.returns-then-byte-eq9
returns-then-byte-eq9 c random reply relay =
    let a = c.args in
    not-charged a.time a.c a.m.now random reply relay _ c.byte.ensures c.if-byte-eq9.true a.allowances.now _ _ c.set_clock.ensures

pub returns-else-byte-eq9 : goal.returns-else-byte-eq9
returns-else-byte-eq9 c random reply relay =
    let a = c.args in
    is-charged a.time a.c a.m.now random reply relay _ c.byte.ensures c.if-byte-eq9.false a.allowances.now _ _
    c.pay.ensures
