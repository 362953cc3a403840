-- What is known of a done record that doesn't contradict, as far as settling it goes.
use Rattle.std.specs.Prelude.{◌≤◌, ◌<◌}
use Rattle.rules.specs.Sizes.{connection_count}
use Rattle.rules.specs.Tables.{partner_of}
use Rattle.journal.specs.Records.{Record}
use Rattle.journal.specs.Replays.{Ledger}

pub record Settleable {State : Type 0} (L : Ledger State) (s : State) (r : Record) : Type 0 where
  pub known : r.connection < connection_count
  pub timely : L.clock s ≤ r.time
  pub enough : r.charge ≤ L.level s (partner_of r.connection) r.time
