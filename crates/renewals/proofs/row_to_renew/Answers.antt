-- `row_to_renew`: the search for a row that is renewable.
use borrow.Author.Rules.{rules}
use Rattle.rules.specs.Leases.{renewable, row_to_renew}
use Rattle.renewals.proofs.row_to_renew.Goals as goal

pub returns : goal.returns
unfolding row_to_renew
returns c =
    let a = c.args in
    c.first_own.ensures (renewable a.connections.now a.leases.now a.time a.cookie.now) (λ row answer low k. search rules)
