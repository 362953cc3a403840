-- `digits`: three digits.
use mathlib.Core.Path.{refl}
use Rattle.svsc.specs.Messages.{digits}
use Rattle.svsc_version_writers.proofs.digits.Goals as goal

pub returns : goal.returns
unfolding digits
returns c = refl
