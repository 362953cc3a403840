-- `data_of`: field 4, and no other.
use mathlib.Core.Path.{sym}
use Rattle.svsc_boundary.proofs.FieldNumbers.{not-four}
use Rattle.svsc_boundary.proofs.fields.data_of.Goals as goal

pub returns-then-f-eq-FIELD_DATA : goal.returns-then-f-eq-FIELD_DATA
returns-then-f-eq-FIELD_DATA c = rw c.if-f-eq-FIELD_DATA.true c.after.ensures

pub returns : goal.returns
returns c = sym (not-four c.args.f _ c.if-f-eq-FIELD_DATA.false)
