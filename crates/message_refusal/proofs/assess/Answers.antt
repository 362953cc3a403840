-- `assess`: stopped by one of checks 1 to 8, or decided, priced and compared with the level.
use native.Mathlib.Omega.{arith}
use mathlib.Core.Path.{◌∙◌}
use Rattle.std.proofs.Common.{rules}
use Rattle.rules.specs.Tables.{lent}
use Rattle.message_refusal.proofs.MessageStops.{eight-known, assessed-stop, all-assessed}
use Rattle.message_refusal.proofs.assess.Goals as goal

pub returns-in_err-passed-clause-all : goal.returns-in_err-passed-clause-all
returns-in_err-passed-clause-all c reply relay n l =
    let a = c.args in
    let stopped = assessed-stop (lent a.connections.now a.leases.now a.allowances.now) a.time a.connection a.m.now a.random.now reply relay _ (c.in_err-passed.ensures.number reply relay n l) in
    search rules

pub new-leases-requires : goal.new-leases-requires
new-leases-requires c =
    let a = c.args in
    let ok = eight-known (lent a.connections.now a.leases.now a.allowances.now) a.time a.connection a.m.now a.random.now a.reply_length a.relay_length c.in_ok-passed.ensures.number in
    ok.leases

pub decide-decision-requires : goal.decide-decision-requires
decide-decision-requires c =
    let a = c.args in
    let ok = eight-known (lent a.connections.now a.leases.now a.allowances.now) a.time a.connection a.m.now a.random.now a.reply_length a.relay_length c.in_ok-passed.ensures.number in
    (omega (arith, ok.known, c.in_ok-passed.ensures.same), ok.random_size)

pub price-price-requires : goal.price-price-requires
price-price-requires c =
    let a = c.args in
    let ok = eight-known (lent a.connections.now a.leases.now a.allowances.now) a.time a.connection a.m.now a.random.now a.reply_length a.relay_length c.in_ok-passed.ensures.number in
    (omega (arith, ok.known, c.in_ok-passed.ensures.same), ok.some, ok.short)

pub new-requires : goal.new-requires
new-requires c =
    let a = c.args in
    let ok = eight-known (lent a.connections.now a.leases.now a.allowances.now) a.time a.connection a.m.now a.random.now a.reply_length a.relay_length c.in_ok-passed.ensures.number in
    ok.allowances

pub last-requires : goal.last-requires
last-requires c =
    let a = c.args in
    let ok = eight-known (lent a.connections.now a.leases.now a.allowances.now) a.time a.connection a.m.now a.random.now a.reply_length a.relay_length c.in_ok-passed.ensures.number in
    omega (arith, ok.known, c.in_ok-passed.ensures.same)

pub returns-clause-all : goal.returns-clause-all
returns-clause-all c reply relay n l =
    let a = c.args in
    let tables = lent a.connections.now a.leases.now a.allowances.now in
    let same = c.in_ok-passed.ensures.same in
    all-assessed tables a.time a.connection a.m.now a.random.now reply relay (c.in_ok-passed.ensures.number reply relay n l)
    c.unwrap_or-other.result (λ p e. rw (c.in_ok-passed.ensures.peer ∙ e) at c.unwrap_or-other.ensures) _ _ _
    (rw (same, c.new-leases.ensures) at c.decide-decision.ensures)
    (rw same at (c.price-price.ensures a.random.now))
    (rw (same, c.new.ensures) at c.last.ensures)
