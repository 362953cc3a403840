-- `renew_or_grant`: the row that was found, or what a new lease gets.
use mathlib.Core.Path.{refl}
use Rattle.lease_table.proofs.Rows.{found_own, none-own}
use Rattle.leases.proofs.LeaseDecisions.{renews, grants}
use Rattle.leases.proofs.renew_or_grant.Goals as goal

pub returns-in-Some : goal.returns-in-Some
returns-in-Some c =
    let own = found_own _ _ c.row_to_renew.ensures c.in-Some.is in
    renews _ _ _ _ _ own.0 refl _ _ own.1

pub returns : goal.returns
returns c = grants _ _ _ _ _ refl refl _ _ (none-own _ _ c.row_to_renew.ensures c.in_default.is)
