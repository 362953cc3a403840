-- `is_digit`: the byte between 48 and 57.
use mathlib.Core.Path.{refl}
use Rattle.svsc.specs.Messages.{is_digit}
use Rattle.svsc_version_readers.proofs.is_digit.Goals as goal

pub returns : goal.returns
unfolding is_digit
returns c = refl
