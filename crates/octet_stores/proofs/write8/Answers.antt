-- `write8`: one byte stored, or none past the end.
use mathlib.Core.Path.{sym, ◌∙◌}
use lib.Seq.{set_out}
use Rattle.octets.proofs.Stores.{put_one}
use Rattle.octet_stores.proofs.write8.Goals as goal

pub returns-then-at-t : goal.returns-then-at-t
returns-then-at-t c = sym (put_one _ _ _)

pub returns-else-at-t : goal.returns-else-at-t
returns-else-at-t c = sym (put_one _ _ _ ∙ set_out _ _ _ c.if-at-t.false)
