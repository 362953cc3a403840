-- `await_version`: a fresh record, then its state.
use Prim.Native.Nat.{ℕ}
use mathlib.Core.Path.{ap, ◌∙◌}
use mathlib.Core.List.{List}
use Rattle.rules.specs.Tables.{set_state, awaiting}
use Rattle.rules.specs.Sessions.{await}
use Rattle.connection_table.proofs.await_version.Goals as goal

pub returns : goal.returns
unfolding await
returns c = c.set_state.ensures ∙ ap (λ (l : List ℕ). set_state l c.args.c awaiting) c.clear.ensures
