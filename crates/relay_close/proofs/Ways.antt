-- The way out of a close that is done, over plain values. Assumes nothing.
use Prim.Native.Nat.{ℕ}
use mathlib.Core.Path.{◌≡◌}
use mathlib.Core.List.{List, []}
use Rattle.rules.specs.Tables.{lent, set_clock}
use Rattle.rules.specs.Keepalives.{stamp}
use Rattle.rules.specs.Charges.{price, charge}
use Rattle.rules.specs.Calls.{closing}
use Rattle.rules.specs.Plans.{plan_close, plan_call, plan}
use Rattle.rules.specs.Step.{done}
use Rattle.answers.specs.declared.Answer.{Answer}
use Rattle.answers.specs.Results.{call_result, shown}
use Rattle.answers.specs.Applied.{handled, applied}
use Rattle.answers.proofs.Ways.{marked-done}

pub close_done : (cs ls al relay cs' cs'' ls' al' relay' : List ℕ) (time c : ℕ) (r : Answer)
    → handled r cs' ls' [] relay' ≡ applied (plan_close (lent cs ls al) c) [] relay
    → cs'' ≡ stamp (stamp cs' time r.reply c) time r.relay r.destination
    → al' ≡ set_clock al time
    → call_result r (lent cs'' ls' al') [] relay' ≡ shown (done (lent cs ls al) (closing time c relay) (plan (lent cs ls al) (closing time c relay)))
unfolding plan plan_call charge price
close_done cs ls al relay cs' cs'' ls' al' relay' time c r h s k =
    marked-done (lent cs ls al) (closing time c relay) (plan_close (lent cs ls al) c) cs' cs'' ls' al' [] relay' r h s k
