-- `judge`: the replay of the whole is the replay from the place on.
use mathlib.Core.Path.{◌≡◌}
use Rattle.journal.specs.Replays.{replay_from}
use Rattle.replay_parts.specs.Turns.{judge_from}
use Rattle.replay_parts.proofs.judge.Given as goal

abbrev pub invariant-loop-place : goal.invariant-loop-place
invariant-loop-place g l =
    let L = g.L.Ledger.ledger in
    replay_from L l.initial.ledger l.journal ≡ judge_from L l.journal l.place l.ledger
