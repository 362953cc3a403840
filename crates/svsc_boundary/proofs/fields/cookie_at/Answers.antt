-- `cookie_at`: field 0, and no other.
use mathlib.Core.Path.{sym}
use Rattle.svsc_boundary.proofs.FieldNumbers.{not-zero}
use Rattle.svsc_boundary.proofs.fields.cookie_at.Goals as goal

pub returns-then-f-eq-FIELD_COOKIE : goal.returns-then-f-eq-FIELD_COOKIE
returns-then-f-eq-FIELD_COOKIE c = rw c.if-f-eq-FIELD_COOKIE.true c.part.ensures

pub returns : goal.returns
returns c = sym (not-zero c.args.f _ c.if-f-eq-FIELD_COOKIE.false)
