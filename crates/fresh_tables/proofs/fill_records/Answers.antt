-- `fill_records`: the table starts with i of the records.
use mathlib.Core.Path.{◌≡◌, refl, ap, ◌∙◌}
use native.Mathlib.Omega.{arith}
use lib.ListN.{length}
use Rattle.octets.proofs.Stores.{length-put}
use Rattle.fresh_tables.proofs.Repeated.{no_records, one_more}
use Rattle.fresh_tables.proofs.fill_records.Goals as goal

pub loop-i-init : goal.loop-i-init
loop-i-init c = (no_records _ _, refl)

pub loop-i-preserved : goal.loop-i-preserved
loop-i-preserved c =
    let l = c.loop-i in
    (one_more c.args.table.now c.args.row.now _ _ l.i _ refl l.invariant.0 c.copy.ensures, ap length c.copy.ensures ∙ length-put _ _ _ ∙ l.invariant.1)

pub shape_of-table : goal.shape_of-table
shape_of-table c = c.loop-i.invariant.1

pub returns : goal.returns
returns c =
    let l = c.loop-i in
    let done : l.i ≡ c.args.count = omega arith in
    rw (← done) l.invariant.0
