-- `judge`: the replay of the whole is the replay from the place on.
use Rattle.std.proofs.Common.{◌+◌, sym, ◌∙◌, arith}
use Rattle.replay_parts.proofs.Turns.{from_the_start, goes_on, stops, end-agrees}
use Rattle.replay_parts.proofs.judge.Goals as goal

pub loop-place-init : goal.loop-place-init
loop-place-init g c = from_the_start g.L.Ledger.ledger _ _

pub returns-then-not-take : goal.returns-then-not-take
returns-then-not-take g c =
    sym (c.loop-place.invariant ∙ stops g.L.Ledger.ledger _ _ _ c.loop-place-test.true (sym c.take.ensures.0 ∙ c.if-not-take.true))

pub loop-place-preserved : goal.loop-place-preserved
loop-place-preserved g c =
    let e = c.take.ensures in
    c.loop-place.invariant ∙ goes_on g.L.Ledger.ledger _ _ _ (sym e.0 ∙ c.if-not-take.false) ∙ rw e.1

pub returns : goal.returns
returns g c = sym (c.loop-place.invariant ∙ end-agrees g.L.Ledger.ledger _ _ _ c.loop-place-test.false)

-- the last turn, behind which the range has no further place
pub returns-else-not-take : goal.returns-else-not-take
returns-else-not-take g c =
    let e = c.take.ensures in
    sym (c.loop-place.invariant ∙ goes_on g.L.Ledger.ledger _ _ _ (sym e.0 ∙ c.if-not-take.false)
    ∙ rw e.1 (end-agrees g.L.Ledger.ledger _ (c.loop-place.place + 16) _ (omega arith)))
