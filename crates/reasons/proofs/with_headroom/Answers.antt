-- `with_headroom`: the difference, in its field.
use mathlib.Core.Path.{ap}
use mathlib.Core.Option.{some}
use lib.IntN.{ℤ}
use Rattle.reasons.specs.Coded.{reason_of}
use Rattle.reasons.proofs.Signed.{held}
use Rattle.reasons.proofs.with_headroom.Goals as goal

pub returns : goal.returns
returns c =
    let a = c.args in
    rw (c.request.ensures, c.condition.ensures)
    (ap (λ (z : ℤ). reason_of a.check a.named (some z)) (held a.level a.cost c.requires c.difference-headroom.result c.difference-headroom.ensures))
