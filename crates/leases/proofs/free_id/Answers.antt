-- `free_id`: the search over all the candidates is the search over what is left, and so for the rows that are looked at for each.
use mathlib.Core.Path.{refl, ◌∙◌}
use Rattle.rules.specs.Leases.{first_free}
use Rattle.lease_search.proofs.RowSearch.{first-miss, first-none}
use Rattle.leases.proofs.LeaseIds.{next-candidate, this_candidate, free-at, free-none}
use borrow.Author.Rules.{rules}
use native.Mathlib.Omega.{arith}
use Rattle.leases.proofs.free_id.Goals as goal

pub candidates-init : goal.candidates-init
unfolding first_free
candidates-init c = (omega arith, refl)

pub loop-row-init : goal.loop-row-init
loop-row-init c = search rules

pub candidates-preserved : goal.candidates-preserved
candidates-preserved c =
    let l = c.loop-row in
    let o = c.candidates in
    let id = c.candidate-id in
    let more = next-candidate _ _ _ id.ensures (omega arith) _ l.invariant.2 (omega arith) c.is_live_with_id.ensures c.if-is_live_with_id.true in
    (omega arith, rw l.invariant.1 (o.invariant.1 ∙ more))

pub loop-row-preserved : goal.loop-row-preserved
loop-row-preserved c =
    let l = c.loop-row in
    (omega arith, l.invariant.1, l.invariant.2 ∙ first-miss _ _ (omega arith) c.is_live_with_id.ensures c.if-is_live_with_id.false)

pub returns-in-candidates : goal.returns-in-candidates
returns-in-candidates c =
    let l = c.loop-row in
    let o = c.candidates in
    let id = c.candidate-id in
    free-at _ _ _ id.ensures (omega arith) (o.invariant.1 ∙ this_candidate _ _ _ id.ensures (omega arith) _ l.invariant.2 l.invariant.0 (omega arith))

pub returns : goal.returns
returns c =
    let o = c.candidates in
    free-none _ _ _ (o.invariant.1 ∙ first-none _ _ o.invariant.0 (omega arith))
