-- `fill_records`: the table starts with i of the records.
use mathlib.Core.Path.{◌≡◌}
use lib.ListN.{length}
use Rattle.octets.specs.Octets.{put}
use Rattle.rules.specs.Tables.{records}
use Rattle.fresh_tables.proofs.fill_records.Given as goal

abbrev pub invariant-loop-i : goal.invariant-loop-i
invariant-loop-i l = (l.table ≡ put l.initial.table 0 (records l.i l.row)) × (length l.table ≡ length l.initial.table)
