-- `key_at`: fields 1 to 3, and no other.
use mathlib.Core.Path.{sym}
use Rattle.svsc_boundary.proofs.FieldNumbers.{not_keys}
use Rattle.svsc_boundary.proofs.fields.key_at.Goals as goal

pub returns-in-1 : goal.returns-in-1
returns-in-1 c = rw c.in-1.is c.part.ensures

pub returns-in-2 : goal.returns-in-2
returns-in-2 c = rw c.in-2.is c.part-in-2.ensures

pub returns-in-3 : goal.returns-in-3
returns-in-3 c = rw c.in-3.is c.part-in-3.ensures

pub returns-in_default : goal.returns-in_default
returns-in_default c =
    let r = c.in_default.in_default-own.rest in
    sym (not_keys c.args.f _ _ _ r.0.0.1 r.0.1 r.1)
