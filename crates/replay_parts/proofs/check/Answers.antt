-- `check`: the first check that applies.
use mathlib.Core.Path.{sym, ◌∙◌}
use Rattle.replay_parts.proofs.Refusals.{wrong_size_lem, wrong-time, wrong_term_lem, passes}
use Rattle.replay_parts.proofs.check.Goals as goal

pub returns-then-allowances-ne-ALLOWANCES_SIZE : goal.returns-then-allowances-ne-ALLOWANCES_SIZE
returns-then-allowances-ne-ALLOWANCES_SIZE c = wrong_size_lem _ _ _ c.if-allowances-ne-ALLOWANCES_SIZE.true

pub returns-then-time-ge-TIME_LIMIT : goal.returns-then-time-ge-TIME_LIMIT
returns-then-time-ge-TIME_LIMIT c = wrong-time _ _ _ c.if-allowances-ne-ALLOWANCES_SIZE.false c.if-time-ge-TIME_LIMIT.true

pub returns-then-is_wrong : goal.returns-then-is_wrong
returns-then-is_wrong c = wrong_term_lem _ _ _ c.if-allowances-ne-ALLOWANCES_SIZE.false c.if-time-ge-TIME_LIMIT.false (sym c.is_wrong.ensures ∙ c.if-is_wrong.true)

pub returns : goal.returns
returns c = passes _ _ _ c.if-allowances-ne-ALLOWANCES_SIZE.false c.if-time-ge-TIME_LIMIT.false (sym c.is_wrong.ensures ∙ c.if-is_wrong.false)
