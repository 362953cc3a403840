-- `store_levels`: the table starts with the records of the levels that are passed.
use Rattle.std.proofs.Common.{◌≡◌, take}
use Rattle.octets.specs.Octets.{put}
use Rattle.journal.specs.Plain.{level_records}
use Rattle.levels.proofs.store_levels.Given as goal

abbrev pub invariant-loop-p : goal.invariant-loop-p
invariant-loop-p l = l.allowances ≡ put l.initial.allowances 0 (level_records l.clock (take l.p l.levels))
