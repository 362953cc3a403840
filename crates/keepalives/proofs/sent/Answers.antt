-- `sent`: two stamps.
use mathlib.Core.Path.{◌∙◌}
use Rattle.keepalives.proofs.sent.Goals as goal

pub returns : goal.returns
returns c = c.stamp-2.ensures ∙ rw c.stamp.ensures
