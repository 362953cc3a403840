-- `decide`: a way out for each status, and one for the holder.
use mathlib.Core.Path.{refl}
use Rattle.lease_table.proofs.Rows.{found_own, none-own}
use Rattle.statuses.proofs.Ways.{busy, not_found, offline, itself, taken, paired}
use Rattle.statuses.proofs.decide.Goals as goal

pub returns-then-has_session : goal.returns-then-has_session
returns-then-has_session c =
    let a = c.args in
    busy a.connections.now a.leases.now a.time a.c a.id _ c.has_session.ensures c.if-has_session.true

pub returns-in_default : goal.returns-in_default
returns-in_default c =
    let a = c.args in
    not_found a.connections.now a.leases.now a.time a.c a.id _ c.has_session.ensures c.if-has_session.false _ _ refl refl
    (rw (← c.partner_of-partner.ensures) (none-own _ _ c.row_of_id.ensures c.in_default.is))

pub returns-then-not-holder_counts : goal.returns-then-not-holder_counts
returns-then-not-holder_counts c =
    let a = c.args in
    let own = found_own _ _ c.row_of_id.ensures c.in-Some.is in
    offline a.connections.now a.leases.now a.time a.c a.id _ c.has_session.ensures c.if-has_session.false _ _ (rw (← c.partner_of-partner.ensures) own.0) refl (rw (← c.partner_of-partner.ensures) own.1) _ c.holder-holder.ensures _ c.holder_counts.ensures c.if-not-holder_counts.true-raw

pub returns-then-holder-c : goal.returns-then-holder-c
returns-then-holder-c c =
    let a = c.args in
    let own = found_own _ _ c.row_of_id.ensures c.in-Some.is in
    itself a.connections.now a.leases.now a.time a.c a.id _ c.has_session.ensures c.if-has_session.false _ _ (rw (← c.partner_of-partner.ensures) own.0) refl (rw (← c.partner_of-partner.ensures) own.1) _ c.holder-holder.ensures _ c.holder_counts.ensures c.if-not-holder_counts.false-raw c.if-holder-c.true

pub returns-then-has_session-2 : goal.returns-then-has_session-2
returns-then-has_session-2 c =
    let a = c.args in
    let own = found_own _ _ c.row_of_id.ensures c.in-Some.is in
    taken a.connections.now a.leases.now a.time a.c a.id _ c.has_session.ensures c.if-has_session.false _ _ (rw (← c.partner_of-partner.ensures) own.0) refl (rw (← c.partner_of-partner.ensures) own.1) _ c.holder-holder.ensures _ c.holder_counts.ensures c.if-not-holder_counts.false-raw c.if-holder-c.false _ c.has_session-2.ensures c.if-has_session-2.true

pub returns : goal.returns
returns c =
    let a = c.args in
    let own = found_own _ _ c.row_of_id.ensures c.in-Some.is in
    paired a.connections.now a.leases.now a.time a.c a.id _ c.has_session.ensures c.if-has_session.false _ _ (rw (← c.partner_of-partner.ensures) own.0) refl (rw (← c.partner_of-partner.ensures) own.1) _ c.holder-holder.ensures _ c.holder_counts.ensures c.if-not-holder_counts.false-raw c.if-holder-c.false _ c.has_session-2.ensures c.if-has_session-2.false
