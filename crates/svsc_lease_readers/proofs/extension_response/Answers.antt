-- `extension_response`: its two forms.
use mathlib.Core.Path.{ap, ◌∙◌}
use mathlib.Core.Option.{some}
use Rattle.svsc_decoded.specs.Reading.{answer}
use Rattle.svsc_decoded.proofs.Forms.{extension_response}
use Rattle.svsc.specs.Messages.{extension_granted}
use Prim.Native.Nat.{ℕ}
use Rattle.svsc_lease_readers.proofs.extension_response.Goals as goal

pub returns-then-m-extended-2 : goal.returns-then-m-extended-2
returns-then-m-extended-2 c =
    ap (λ (e : ℕ). answer (some (extension_granted e))) c.number.ensures.value
    ∙ (extension_response c.args.m.now _ c.requires c.byte-extended.ensures).second c.if-m-extended.false c.if-m-extended-2.true

pub returns : goal.returns
returns c =
    (extension_response c.args.m.now _ c.requires c.byte-extended.ensures).neither c.if-m-extended.false c.if-m-extended-2.false
