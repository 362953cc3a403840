-- `price`: nothing, or a sum.
use native.Mathlib.Omega.{arith}
use mathlib.Core.List.{[]}
use Rattle.decisions.proofs.Ways.{sent-most, end-price, sum-price}
use Rattle.decisions.proofs.price.Goals as goal

pub returns-then-byte-eq9 : goal.returns-then-byte-eq9
returns-then-byte-eq9 c random =
    let a = c.args in
    end-price a.c a.m.now random a.decision _ c.byte.ensures c.if-byte-eq9.true

pub overflow_add-result-2 : goal.overflow_add-result-2
overflow_add-result-2 c =
    let most = sent-most c.args.c c.args.m.now [] c.args.decision c.requires.1 c.requires.2 in
    omega (arith, most, c.sent_bytes.ensures [], c.requires.2)

pub returns : goal.returns
returns c random =
    let a = c.args in
    sum-price a.c a.m.now random a.decision _ c.byte.ensures c.if-byte-eq9.false _ (c.sent_bytes.ensures random)
