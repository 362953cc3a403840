-- The ways out of a keepalive, over plain values. Assumes nothing.
use Prim.Native.Nat.{ℕ}
use mathlib.Core.Path.{◌≡◌, refl, ap}
use mathlib.Core.Bool.{Bool, true, false}
use mathlib.Core.List.{List}
use lib.ListN.{length}
use Rattle.octets.specs.Octets.{put}
use Rattle.svsc.specs.Messages.{keepalive_message, encode}
use Rattle.rules.specs.Tables.{lent, Tables, set_clock}
use Rattle.rules.specs.Keepalives.{is_dead, is_due, ask, stamp}
use Rattle.rules.specs.Charges.{price, charge}
use Rattle.rules.specs.Checks.{check}
use Rattle.rules.specs.Calls.{keepalive}
use Rattle.rules.specs.Plans.{Plan, reply_only, disconnecting, plan_keepalive, plan_call, plan, plan_close, do_nothing}
use Rattle.rules.specs.Step.{step}
use Rattle.answers.specs.declared.Answer.{Answer}
use Rattle.answers.specs.Applied.{Handled, answer_of, handled, applied, coded, replied}
use Rattle.answers.specs.Results.{call_result, shown}
use Rattle.answers.proofs.Ways.{done_way, marked-done}
use Rattle.refusals.proofs.Stops.{call-sized, keepalive-known}
use Rattle.relay_keepalive.specs.Asked.{Askable}

-- a close, and the host has to disconnect
pub ended : (p : Plan) (cs ls reply relay reply' relay' : List ℕ) (a r : Answer) → handled a cs ls reply' relay' ≡ applied p reply relay
    → r ≡ answer_of a.number a.reply a.relay a.destination 1 → handled r cs ls reply' relay' ≡ applied (disconnecting p) reply relay
unfolding applied
ended p cs ls reply relay reply' relay' a r e h =
    rw (
      h,
      ap (λ (x : Handled). x.answer) e,
      ap (λ (x : Handled). x.connections) e,
      ap (λ (x : Handled). x.leases) e,
      ap (λ (x : Handled). x.reply) e,
      ap (λ (x : Handled). x.relay) e,
    )

pub asked : (cs ls reply relay cs' reply' : List ℕ) (time c n : ℕ) (r : Answer) → cs' ≡ ask cs time c → n ≡ length (encode keepalive_message)
    → reply' ≡ put reply 0 (encode keepalive_message) → r ≡ coded (replied n)
    → handled r cs' ls reply' relay ≡ applied (reply_only (ask cs time c) ls (encode keepalive_message)) reply relay
unfolding applied put
asked cs ls reply relay cs' reply' time c n r h₁ h₂ h₃ h₄ = rw (h₄, h₁, h₂, h₃)

-- dead, due, or neither
module _ (tables : Tables) (time c : ℕ) (reply relay : List ℕ) (x : Handled) (s : Bool) (hs : s ≡ is_dead tables.connections time c) where
  pub found-dead : s ≡ true → x ≡ applied (disconnecting (plan_close tables c)) reply relay → x ≡ applied (plan_keepalive tables time c) reply relay
  unfolding plan_keepalive
  found-dead h e = rw (← hs, h) e

  module _ (h : s ≡ false) (t : Bool) (ht : t ≡ is_due tables.connections time c) where
    pub found-due : t ≡ true → x ≡ applied (reply_only (ask tables.connections time c) tables.leases (encode keepalive_message)) reply relay
        → x ≡ applied (plan_keepalive tables time c) reply relay
    unfolding plan_keepalive
    found-due k e = rw (← hs, h, ← ht, k) e

    pub found_neither : t ≡ false → x ≡ applied (do_nothing tables) reply relay → x ≡ applied (plan_keepalive tables time c) reply relay
    unfolding plan_keepalive
    found_neither k e = rw (← hs, h, ← ht, k) e

-- what passed checks show, and the way out behind them
module _ (tables : Tables) (time c : ℕ) (reply relay : List ℕ) (e : 0 ≡ check tables (keepalive time c reply relay)) where
  pub askable : Askable tables.connections c reply relay
  askable =
      let known = keepalive-known tables time c reply relay e in
      record {
        size = (call-sized tables (keepalive time c reply relay) e).connections;
        known = known.0;
        reply_room = known.1;
        relay_room = known.2;
      }

  pub keepalive_way : (cs' cs'' ls' al' reply' relay' : List ℕ) (r : Answer)
      → handled r cs' ls' reply' relay' ≡ applied (plan_keepalive tables time c) reply relay
      → cs'' ≡ stamp (stamp cs' time r.reply c) time r.relay r.destination
      → al' ≡ set_clock tables.allowances time
      → call_result r (lent cs'' ls' al') reply' relay' ≡ shown (step tables (keepalive time c reply relay))
  unfolding plan plan_call charge price
  keepalive_way cs' cs'' ls' al' reply' relay' r h s p =
      done_way tables (keepalive time c reply relay) 0 e refl (call_result r (lent cs'' ls' al') reply' relay')
      (marked-done tables (keepalive time c reply relay) (plan_keepalive tables time c) cs' cs'' ls' al' reply' relay' r h s p)
