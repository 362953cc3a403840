-- `is_permitted`: an entry of the table, or none.
use Rattle.checks.proofs.MessageChecks.{not-permitted_past, no_such_state}
use Rattle.checks.proofs.is_permitted.Goals as goal

pub returns-else-k-lt14 : goal.returns-else-k-lt14
returns-else-k-lt14 c = not-permitted_past c.args.state c.args.kind c.if-k-lt14.false

pub returns-else-s-lt3 : goal.returns-else-s-lt3
returns-else-s-lt3 c = no_such_state c.args.state c.args.kind c.if-s-lt3.false
