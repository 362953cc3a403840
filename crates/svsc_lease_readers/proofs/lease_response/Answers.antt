-- `lease_response`: its two forms.
use mathlib.Core.Path.{ap₂, ◌∙◌}
use mathlib.Core.Option.{some}
use Rattle.svsc_decoded.specs.Reading.{answer}
use Rattle.svsc_decoded.proofs.Forms.{lease_response}
use Rattle.svsc.specs.Messages.{lease_granted}
use Prim.Native.Nat.{ℕ}
use Rattle.octets.specs.Octets.{part}
use Rattle.svsc_lease_readers.proofs.lease_response.Goals as goal

pub returns-then-m-accepted-2 : goal.returns-then-m-accepted-2
returns-then-m-accepted-2 c =
    ap₂ (λ (id e : ℕ). answer (some (lease_granted id (part c.args.m.now 6 24) e))) c.number.ensures.value c.number-then-m-accepted-2.ensures.value
    ∙ (lease_response c.args.m.now _ c.requires c.byte-accepted.ensures).second c.if-m-accepted.false c.if-m-accepted-2.true

pub returns : goal.returns
returns c =
    (lease_response c.args.m.now _ c.requires c.byte-accepted.ensures).neither c.if-m-accepted.false c.if-m-accepted-2.false
