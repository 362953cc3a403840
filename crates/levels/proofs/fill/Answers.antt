-- `fill`: what is passed is filled; with the rest filled it is all.
use Rattle.std.proofs.Common.{sym, ◌∙◌, arith}
use Rattle.levels.proofs.Turns.{fill_turn, fill_end}
use Rattle.levels.proofs.fill.Goals as goal

pub loop-p-preserved : goal.loop-p-preserved
loop-p-preserved c = let l = c.loop-p in fill_turn l.levels l.p _ (omega arith) c.filled_level.ensures ∙ l.invariant

pub returns : goal.returns
returns c = let l = c.loop-p in sym (fill_end l.levels l.p (omega arith)) ∙ l.invariant
