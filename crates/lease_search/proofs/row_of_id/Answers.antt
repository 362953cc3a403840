-- `row_of_id`: the search for the id.
use borrow.Author.Rules.{rules}
use Rattle.rules.specs.Tables.{live_with_id}
use Rattle.rules.specs.Sessions.{row_of_id}
use Rattle.lease_search.proofs.row_of_id.Goals as goal

pub returns : goal.returns
unfolding row_of_id
returns c = c.first_own.ensures (live_with_id c.args.leases.now c.args.time c.args.id) (λ row answer low k. search rules)
