-- The number of each state (01: "Byte 0 state (0 closed, 1 awaiting the version answer, 2 open)").
use Rattle.std.specs.Prelude.{ℕ}
use Rattle.rules.specs.Tables.{closed, awaiting, opened}
use Rattle.connection_table.specs.declared.ConnectionState.{ConnectionState}
use Rattle.connection_table.specs.declared.ConnectionState.TheVariants as case

abbrev pub state_number : ConnectionState → ℕ
state_number case.Closed = closed
state_number case.Awaiting = awaiting
state_number case.Open = opened
