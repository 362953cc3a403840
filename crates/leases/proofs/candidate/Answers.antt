-- `candidate`: four bytes behind the cookie, modulo the limit of ids.
use Rattle.rules.specs.Leases.{candidate}
use Rattle.leases.proofs.candidate.Goals as goal

pub returns : goal.returns
unfolding candidate
returns c = rw c.number.ensures.value
