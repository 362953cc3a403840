-- `first_eight`: the first three checks, then its own, then the session.
use mathlib.Core.Path.{refl}
use lib.ListN.{replicate, length-replicate}
use Rattle.std.proofs.Common.{rules, ℕ, List}
use Rattle.rules.specs.Tables.{lent}
use Rattle.rules.specs.Calls.{message}
use Rattle.refusals.proofs.Stops.{three-stop}
use Rattle.message_refusal.proofs.MessageStops.{own-stop, session-number, session_found}
use Rattle.message_refusal.proofs.first_eight.Goals as goal

pub returns-in_err-c-clause-number : goal.returns-in_err-c-clause-number
returns-in_err-c-clause-number c reply relay n l =
    let a = c.args in
    let stopped = three-stop (lent a.connections.now a.leases.now a.allowances.now) (message a.time a.connection a.m.now a.random.now reply relay) _ c.in_err-c.ensures.number in
    search rules

pub returns-in_err-own_checks-clause-number : goal.returns-in_err-own_checks-clause-number
returns-in_err-own_checks-clause-number c reply relay n l =
    let a = c.args in
    let own = rw c.in_ok-c.ensures.same at (c.in_err-own_checks.ensures a.time reply relay n l) in
    let stopped = own-stop (lent a.connections.now a.leases.now a.allowances.now) a.time a.connection a.m.now a.random.now reply relay c.in_ok-c.ensures.number _ own in
    search rules

pub returns-in_err-peer-clause-number : goal.returns-in_err-peer-clause-number
returns-in_err-peer-clause-number c reply relay n l =
    let a = c.args in
    let own = rw c.in_ok-c.ensures.same at (c.in_ok-own_checks.ensures a.time reply relay n l) in
    let stopped = session-number (lent a.connections.now a.leases.now a.allowances.now) a.time a.connection a.m.now a.random.now reply relay c.in_ok-c.ensures.number own _ c.byte.ensures _ (rw c.in_ok-c.ensures.same at c.in_err-peer.ensures) in
    search rules

pub returns-clause-number : goal.returns-clause-number
returns-clause-number c reply relay n l =
    let a = c.args in
    let own = rw c.in_ok-c.ensures.same at (c.in_ok-own_checks.ensures a.time reply relay n l) in
    session-number (lent a.connections.now a.leases.now a.allowances.now) a.time a.connection a.m.now a.random.now reply relay c.in_ok-c.ensures.number own _ c.byte.ensures _ (rw c.in_ok-c.ensures.same at c.in_ok-peer.ensures)

pub returns-clause-peer : goal.returns-clause-peer
returns-clause-peer c =
    let a = c.args in
    let reply : List ℕ = replicate a.reply_length 0 in
    let relay : List ℕ = replicate a.relay_length 0 in
    let own = rw c.in_ok-c.ensures.same at (c.in_ok-own_checks.ensures a.time reply relay (length-replicate a.reply_length 0) (length-replicate a.relay_length 0)) in
    session_found (lent a.connections.now a.leases.now a.allowances.now) a.time a.connection a.m.now a.random.now reply relay c.in_ok-c.ensures.number own _ c.byte.ensures _ (rw c.in_ok-c.ensures.same at c.in_ok-peer.ensures) _ refl
