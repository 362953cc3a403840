-- `place`: the type and the four parts, one behind the other.
use mathlib.Core.Path.{refl, ◌∙◌}
use Rattle.svsc_parts.proofs.Parts.{placed, kept}
use Rattle.svsc_parts.proofs.place.Goals as goal

pub shape_of-buffer : goal.shape_of-buffer
shape_of-buffer c =
    kept _ _ _ _ c.copy-4.ensures
    ∙ kept _ _ _ _ c.copy-3.ensures
    ∙ kept _ _ _ _ c.copy-2.ensures
    ∙ kept _ _ _ _ c.copy.ensures
    ∙ kept _ _ _ _ c.write8.ensures

pub returns : goal.returns
returns c =
    let a = c.args in
    (refl, placed a.buffer.now a.kind a.a.now a.b.now a.c.now a.d.now _ _ _ _ _ c.write8.ensures c.copy.ensures c.copy-2.ensures c.copy-3.ensures c.copy-4.ensures)
