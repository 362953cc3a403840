-- `crondelith_connections_of`: no such partner, or what the map says of it.
use native.Mathlib.Omega.{arith}
use Rattle.connection_map.proofs.Partners.{no_such_partner, of_partner}
use Rattle.relay_connections.proofs.crondelith_connections_of.Goals as goal

pub returns-then-partner : goal.returns-then-partner
returns-then-partner c = let a = c.args in rw (no_such_partner a.map a.partner (omega (arith, c.if-partner.true)))

pub returns : goal.returns
returns c =
    let a = c.args in
    rw (of_partner a.map a.partner (omega (arith, c.if-partner.false)), c.count.ensures, c.lowest.ensures)
