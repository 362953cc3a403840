-- `version`: thirteen bytes with the version text, or malformed.
use mathlib.Core.Path.{refl, sym, ap₂, ◌∙◌}
use borrow.Author.Tests.{eq-eqb, ne_eqb}
use Rattle.svsc.specs.Messages.{protocol_version, readings, digits_at, is_version}
use mathlib.Core.Bool.{◌&&◌}
use lib.Dec.{eqb}
use lib.ListN.{length}
use Rattle.svsc_decoded.specs.Reading.{answer}
use mathlib.Core.Option.{some}
use Prim.Native.Nat.{ℕ}
use Rattle.svsc_decoded.proofs.Forms.{taken, refused}
use Rattle.svsc_version_readers.proofs.version.Goals as goal

pub returns-then-m-ne13 : goal.returns-then-m-ne13
unfolding readings
returns-then-m-ne13 c =
    refused c.args.m.now 0 c.requires (protocol_version (digits_at c.args.m.now 6) (digits_at c.args.m.now 10)) (eqb (length c.args.m.now) 13 && is_version c.args.m.now) refl (rw (ne_eqb _ _ c.if-m-ne13.true))

pub returns-then-not-is_version : goal.returns-then-not-is_version
unfolding readings
returns-then-not-is_version c =
    let text = sym c.is_version.ensures ∙ c.if-not-is_version.true in
    refused c.args.m.now 0 c.requires (protocol_version (digits_at c.args.m.now 6) (digits_at c.args.m.now 10)) (eqb (length c.args.m.now) 13 && is_version c.args.m.now) refl (rw (eq-eqb _ _ c.if-m-ne13.false, text))

pub returns : goal.returns
unfolding readings digits_at
returns c =
    let text = sym c.is_version.ensures ∙ c.if-not-is_version.false in
    ap₂ (λ (major minor : ℕ). answer (some (protocol_version major minor))) c.three.ensures c.three-2.ensures
    ∙ taken c.args.m.now 0 c.requires (protocol_version (digits_at c.args.m.now 6) (digits_at c.args.m.now 10)) (eqb (length c.args.m.now) 13 && is_version c.args.m.now) refl (rw (eq-eqb _ _ c.if-m-ne13.false, text))
