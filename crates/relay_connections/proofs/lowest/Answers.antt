-- `lowest`: the zeros of their complement.
use Rattle.relay_connections.proofs.Ways.{lowest-found, none_found}
use Rattle.relay_connections.proofs.lowest.Goals as goal

pub returns-then-taken : goal.returns-then-taken
returns-then-taken c = lowest-found c.args.map c.args.partner _ c.bits_of.ensures c.if-taken.true

pub returns : goal.returns
returns c = none_found c.args.map c.args.partner _ c.bits_of.ensures c.if-taken.false
