-- `level_after`: the seconds that are left make of the level what all of them make of the first.
use Rattle.std.proofs.Common.{◌≡◌, ◌-◌, [], ◌∷◌}
use Rattle.journal.specs.Plain.{filled}
use Rattle.levels.proofs.level_after.Given as goal

abbrev pub invariant-loop : goal.invariant-loop
invariant-loop l = filled (l.seconds - l.counter) (l.have ∷ []) ≡ filled l.seconds (l.level ∷ [])
