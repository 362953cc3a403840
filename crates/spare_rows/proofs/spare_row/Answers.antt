-- `spare_row`: the search over all the rows is the search over what is left.
use mathlib.Core.Path.{◌∙◌}
use borrow.Author.Tests.{lt-ltb, le-ltb}
use Rattle.rules.specs.Searches.{end_row}
use Rattle.spare_rows.proofs.Earliest.{search_start, search_turn, search_end, earlier-most}
use native.Mathlib.Omega.{arith}
use Rattle.spare_rows.proofs.spare_row.Goals as goal

pub loop-row-init : goal.loop-row-init
loop-row-init c = (omega arith, omega arith, search_start _ _ _ c.end_row-end.ensures)

pub loop-row-preserved : goal.loop-row-preserved
loop-row-preserved c =
    let l = c.loop-row in
    let next = c.earlier_of-best.ensures in
    let row = c.loop-row-test.true in
    (omega arith, rw next (earlier-most _ _ _ _ _ l.invariant.1 row), l.invariant.2 ∙ search_turn _ _ _ _ _ row next)

pub returns-then-best-end : goal.returns-then-best-end
returns-then-best-end c =
    let l = c.loop-row in
    rw (l.invariant.2 ∙ search_end _ _ _ _ _ c.loop-row-test.false, lt-ltb l.best (end_row c.args.partner) (omega arith))

pub returns : goal.returns
returns c =
    let l = c.loop-row in
    rw (l.invariant.2 ∙ search_end _ _ _ _ _ c.loop-row-test.false, le-ltb l.best (end_row c.args.partner) (omega arith))
