-- `fill_for`: the seconds that are left make of the levels what all of them make of the first.
use Rattle.std.proofs.Common.{sym, ap, ◌∙◌, arith}
use Rattle.journal.specs.Plain.{filled}
use Rattle.levels.proofs.Turns.{one_less, none_left, all-full}
use Rattle.levels.proofs.fill_for.Goals as goal

pub returns-then-full : goal.returns-then-full
returns-then-full c = let l = c.loop in sym (all-full _ l.levels (c.are_full-full.ensures.0 c.if-full.true)) ∙ l.invariant

pub loop-preserved : goal.loop-preserved
loop-preserved c = let l = c.loop in ap (filled _) c.fill.ensures ∙ one_less _ _ l.levels (omega arith) ∙ l.invariant

pub returns : goal.returns
returns c = let l = c.loop in sym (none_left _ l.levels (omega arith)) ∙ l.invariant
