-- `row_to_extend`: the search for the holder and the cookie.
use borrow.Author.Rules.{rules}
use Rattle.rules.specs.Leases.{row_to_extend}
use Rattle.lease_search.proofs.row_to_extend.Goals as goal

pub returns : goal.returns
unfolding row_to_extend
returns c = rw (← c.partner_of-partner.ensures) (c.first_own.ensures _ (λ row answer low k. search rules))
