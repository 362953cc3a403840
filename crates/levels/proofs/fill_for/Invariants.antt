-- `fill_for`: the seconds that are left make of the levels what all of them make of the first.
use Rattle.std.proofs.Common.{◌≡◌, ◌-◌}
use Rattle.journal.specs.Plain.{filled}
use Rattle.levels.proofs.fill_for.Given as goal

abbrev pub invariant-loop : goal.invariant-loop
invariant-loop l = filled (l.seconds - l.counter) l.levels ≡ filled l.seconds l.initial.levels
