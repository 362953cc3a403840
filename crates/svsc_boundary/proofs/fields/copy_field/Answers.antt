-- `copy_field`: 6 for bytes that are no message; else the field, stored.
use mathlib.Core.Path.{refl, ap, ◌∙◌}
use mathlib.Core.Bool.{true, false}
use mathlib.Core.Option as math
use mathlib.Core.List.{List, []}
use Prim.Native.Nat.{ℕ}
use Rattle.svsc.specs.Messages.{Message}
use Rattle.svsc.specs.Writing.{emit}
use Rattle.svsc.proofs.Writing.{out_of_range}
use Rattle.svsc_decoded.proofs.Cases.{of_read}
use Rattle.svsc_boundary.specs.Boundary.{copy_field}
use Rattle.svsc_boundary.proofs.fields.copy_field.Goals as goal

pub returns-in-None : goal.returns-in-None
returns-in-None c =
    let a = c.args in
    of_read (λ (x : math.Option Message). copy_field a.f x a.buffer.now) _ a.message.now c.in-None.ensures _ (out_of_range [] a.buffer.now false refl)

pub returns-in-Some : goal.returns-in-Some
returns-in-Some c =
    let a = c.args in
    of_read (λ (x : math.Option Message). copy_field a.f x a.buffer.now) _ a.message.now c.in-Some.ensures _
    (c.store.ensures ∙ ap (λ (l : List ℕ). emit true l a.buffer.now) c.field.ensures)
