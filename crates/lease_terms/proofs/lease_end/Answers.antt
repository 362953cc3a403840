-- `lease_end`: the term behind the time.
use native.Mathlib.Omega.{arith}
use Rattle.rules.specs.Leases.{lease_end}
use Rattle.rules.proofs.Terms.{term_most}
use Rattle.lease_terms.proofs.lease_end.Goals as goal

pub overflow_add-result : goal.overflow_add-result
overflow_add-result c = omega (arith, c.requires, c.lease_term.ensures, term_most c.args.allowances.now)

pub returns : goal.returns
unfolding lease_end
returns c = rw c.lease_term.ensures
