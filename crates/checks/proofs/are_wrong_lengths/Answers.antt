-- `are_wrong_lengths`: three tests.
use Rattle.rules.specs.Checks.{wrong_lengths}
use Rattle.checks.proofs.are_wrong_lengths.Goals as goal

pub returns : goal.returns
unfolding wrong_lengths
returns c time k reply relay e f = rw (c.max-least.ensures, e, f)
