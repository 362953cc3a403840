-- `fill`: what is passed is filled; with the rest filled it is all.
use Rattle.std.proofs.Common.{◌≡◌, ◌++◌, take, drop}
use Rattle.journal.specs.Plain.{filled_once}
use Rattle.levels.proofs.fill.Given as goal

abbrev pub invariant-loop-p : goal.invariant-loop-p
invariant-loop-p l = take l.p l.levels ++ filled_once (drop l.p l.levels) ≡ filled_once l.initial.levels
