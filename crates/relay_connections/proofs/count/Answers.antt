-- `count`: the ones of the partner's bits.
use Rattle.relay_connections.proofs.Ways.{counted}
use Rattle.relay_connections.proofs.count.Goals as goal

pub returns : goal.returns
returns c = counted c.args.map c.args.partner _ c.bits_of.ensures
