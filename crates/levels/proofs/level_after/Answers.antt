-- `level_after`: the seconds that are left make of the level what all of them make of the first.
use Rattle.std.proofs.Common.{sym, ◌∙◌, [], ◌∷◌, arith}
use Rattle.levels.proofs.Turns.{none_left, level_turn, level-full}
use Rattle.levels.proofs.level_after.Goals as goal

pub returns-then-have-eq-CAPACITY : goal.returns-then-have-eq-CAPACITY
returns-then-have-eq-CAPACITY c = let l = c.loop in sym l.invariant ∙ level-full _ l.have c.if-have-eq-CAPACITY.true

pub loop-preserved : goal.loop-preserved
loop-preserved c = level_turn _ _ c.loop.have _ (omega arith) c.filled_level-have.ensures ∙ c.loop.invariant

pub returns : goal.returns
returns c = let l = c.loop in sym l.invariant ∙ none_left _ (l.have ∷ []) (omega arith)
