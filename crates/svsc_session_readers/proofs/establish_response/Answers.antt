-- `establish_response`: its two forms.
use Prim.Native.Nat.{ℕ}
use Rattle.octets.specs.Octets.{part}
use mathlib.Core.Path.{ap, ◌∙◌}
use mathlib.Core.Option.{some}
use Rattle.svsc_decoded.specs.Reading.{answer}
use Rattle.svsc_decoded.proofs.Forms.{establish_response}
use Rattle.svsc.specs.Messages.{established}
use Rattle.svsc_session_readers.proofs.establish_response.Goals as goal

pub returns-then-m-status-2 : goal.returns-then-m-status-2
returns-then-m-status-2 c =
    ap (λ (id : ℕ). answer (some (established id (part c.args.m.now 6 16) (part c.args.m.now 22 16) (part c.args.m.now 38 16)))) c.number-then-m-status-2.ensures.value
    ∙ (establish_response c.args.m.now _ c.requires c.byte-status.ensures).second c.if-m-status.false c.if-m-status-2.true

pub returns : goal.returns
returns c =
    (establish_response c.args.m.now _ c.requires c.byte-status.ensures).neither c.if-m-status.false c.if-m-status-2.false
