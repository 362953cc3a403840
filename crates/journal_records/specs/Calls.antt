-- The numbers of the calls: "call 1 (0 open, 1 message, 2 close, 3 keepalive check)".
use Rattle.std.specs.Prelude.{ℕ}
use Rattle.journal_records.specs.declared.Call.{Call}
use Rattle.journal_records.specs.declared.Call.TheVariants as call

abbrev pub number_of : Call → ℕ
number_of call.Open = 0
number_of call.Message = 1
number_of call.Close = 2
number_of call.Keepalive = 3
