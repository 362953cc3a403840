-- The way out of an open that is done, over plain values. Assumes nothing.
use Prim.Native.Nat.{ℕ}
use mathlib.Core.Path.{◌≡◌}
use mathlib.Core.List.{List, []}
use Rattle.rules.specs.Tables.{lent, partner_of, bucket_of, set_bucket, set_clock}
use lib.ListN.{length}
use Rattle.octets.specs.Octets.{put}
use Rattle.svsc.specs.Messages.{protocol_version, encode, digits}
use Rattle.allowance.specs.Bucket.{spend}
use Rattle.rules.specs.Sizes.{open_cost}
use Rattle.rules.specs.Sessions.{await}
use Rattle.rules.specs.Keepalives.{stamp}
use Rattle.rules.specs.Charges.{price, charge}
use Rattle.rules.specs.Calls.{opening}
use Rattle.rules.specs.Plans.{plan_open, plan_call, plan}
use Rattle.rules.specs.Step.{done}
use Rattle.answers.specs.declared.Answer.{Answer}
use Rattle.answers.specs.Results.{call_result, shown}
use Rattle.answers.specs.Applied.{coded, replied}

pub open_done : (cs ls al reply cs' cs'' al' reply' : List ℕ) (time c n : ℕ) (r : Answer) → cs' ≡ await cs c
    → cs'' ≡ stamp (stamp cs' time r.reply c) time r.relay r.destination
    → al' ≡ set_clock (set_bucket al (partner_of c) (spend (bucket_of al (partner_of c)) time open_cost)) time
    → n ≡ length (encode (protocol_version 1 0)) → reply' ≡ put reply 0 (encode (protocol_version 1 0)) → r ≡ coded (replied n)
    → call_result r (lent cs'' ls al') reply' []
    ≡ shown (done (lent cs ls al) (opening time c reply) (plan (lent cs ls al) (opening time c reply)))
unfolding done plan plan_call plan_open charge price encode digits put
open_done cs ls al reply cs' cs'' al' reply' time c n r h₁ h₂ h₃ h₄ h₅ h₆ = rw (h₂, h₆, h₁, h₃, h₄, h₅)
