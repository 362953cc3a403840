-- `earlier_of`: the three tests, in their order.
use Rattle.spare_rows.specs.Earliest.{earlier_of}
use borrow.Author.Tests.{lt-ltb, le-ltb, eq-eqb, ne_eqb}
use Rattle.spare_rows.proofs.earlier_of.Goals as goal

pub returns-then-is_live : goal.returns-then-is_live
unfolding earlier_of
returns-then-is_live c = rw (← c.is_live.ensures, c.if-is_live.true)

pub returns-then-best-end : goal.returns-then-best-end
unfolding earlier_of
returns-then-best-end c = rw (← c.is_live.ensures, c.if-is_live.false, eq-eqb _ _ c.if-best-end.true)

pub returns-then-expiry : goal.returns-then-expiry
unfolding earlier_of
returns-then-expiry c =
    rw (← c.is_live.ensures, c.if-is_live.false, ne_eqb _ _ c.if-best-end.false, ← c.expiry.ensures, ← c.expiry-2.ensures, lt-ltb _ _ c.if-expiry.true)

pub returns : goal.returns
unfolding earlier_of
returns c =
    rw (← c.is_live.ensures, c.if-is_live.false, ne_eqb _ _ c.if-best-end.false, ← c.expiry.ensures, ← c.expiry-2.ensures, le-ltb _ _ c.if-expiry.false)
