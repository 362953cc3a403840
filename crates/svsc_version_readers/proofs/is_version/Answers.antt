-- `is_version`: the fixed parts and the digits, one test behind the other.
use Rattle.svsc.specs.Messages.{is_version}
use Rattle.svsc_version_readers.proofs.is_version.Goals as goal

pub returns : goal.returns
unfolding is_version
returns c = rw (c.are_digits-2.ensures, c.equal_at-2.ensures, c.are_digits.ensures, c.equal_at.ensures)
