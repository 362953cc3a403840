-- `decide_lease`: a law for each way out.
use mathlib.Core.Path.{refl}
use Rattle.lease_table.proofs.Rows.{found_own, none-own}
use Rattle.leases.proofs.LeaseDecisions.{holds_lease_lem, no_spare-row, cookie_in_use_lem, no_free_id_lem, renews_or_grants}
use Rattle.std.proofs.lemmas.Result.{err_from_is_err_and}
use Rattle.leases.proofs.decide_lease.Goals as goal

pub returns-then-holds_row : goal.returns-then-holds_row
returns-then-holds_row c = holds_lease_lem _ _ _ _ _ _ c.holds_row.ensures c.if-holds_row.true

pub returns-in_default : goal.returns-in_default
returns-in_default c =
    no_spare-row _ _ _ _ _ _ c.holds_row.ensures c.if-holds_row.false c.partner_of-partner.ensures refl refl (none-own _ _ c.spare_row.ensures c.in_default.is)

pub returns-then-cookie_taken : goal.returns-then-cookie_taken
returns-then-cookie_taken c =
    let own = found_own _ _ c.spare_row.ensures c.in-Some.is in
    cookie_in_use_lem _ _ _ _ _ _ c.holds_row.ensures c.if-holds_row.false c.partner_of-partner.ensures own.0 refl own.1
    c.part.ensures c.cookie_taken.ensures c.if-cookie_taken.true

pub returns-in_err-id : goal.returns-in_err-id
returns-in_err-id c =
    let own = found_own _ _ c.spare_row.ensures c.in-Some.is in
    let p = err_from_is_err_and c.from_residual.result c.from_residual.ensures.1 in
    rw (p.1, p.2)
    (no_free_id_lem _ _ _ _ _ _ c.holds_row.ensures c.if-holds_row.false c.partner_of-partner.ensures own.0 refl own.1
    c.part.ensures c.cookie_taken.ensures c.if-cookie_taken.false c.free_id.ensures c.in_err-id.ensures.ok_part c.in_err-id.ensures.value)

pub returns : goal.returns
returns c =
    let own = found_own _ _ c.spare_row.ensures c.in-Some.is in
    renews_or_grants _ _ _ _ _ _ c.holds_row.ensures c.if-holds_row.false c.partner_of-partner.ensures own.0 refl own.1
    c.part.ensures c.cookie_taken.ensures c.if-cookie_taken.false c.free_id.ensures c.in_ok-id.ensures.ok_part (c.renew_or_grant.ensures _)
