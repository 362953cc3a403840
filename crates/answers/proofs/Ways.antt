-- The ways out that calls and handlers share, over plain values. Assumes nothing.
use Prim.Native.Nat.{ℕ, zero, suc}
use mathlib.Core.Path.{◌≡◌, refl, sym, ap, ◌∙◌}
use mathlib.Core.List.{List}
use Rattle.rules.specs.Tables.{lent, Tables, set_clock}
use Rattle.octets.specs.Octets.{put}
use Rattle.rules.specs.Calls.{Call, sent_nothing, refusal, time_of, connection_of, reply_buffer, relay_buffer}
use Rattle.rules.specs.Keepalives.{stamp}
use Rattle.rules.specs.Charges.{price, charge}
use Rattle.rules.specs.Checks.{check}
use Rattle.rules.specs.Plans.{Plan, plan, do_nothing, answered_by, heard, stamped}
use Rattle.rules.specs.Step.{done, outcome, step}
use Rattle.answers.specs.declared.Answer.{Answer}
use Rattle.answers.specs.Results.{Result, call_result, shown}
use Rattle.answers.specs.Applied.{Handled, handled, applied, coded}

-- a call that is refused, and one that is done
module _ (tables : Tables) (call : Call) (k : ℕ) (e : k ≡ check tables call) where
  pub refused_way : (k ≡ 0 → ⊥) → (r : Answer) → r ≡ coded (refusal k) → call_result r tables (reply_buffer call) (relay_buffer call) ≡ shown (step tables call)
  unfolding step
  refused_way h r a = rw (← e, a) (by k h)
    where
      by : (k : ℕ) → (k ≡ 0 → ⊥) → call_result (coded (refusal k)) tables (reply_buffer call) (relay_buffer call) ≡ shown (outcome k tables call)
      by zero h = absurd (h refl)
      by (suc n) h = refl

  pub done_way : k ≡ 0 → (x : Result) → x ≡ shown (done tables call (plan tables call)) → x ≡ shown (step tables call)
  unfolding step
  done_way z x h = h ∙ ap (λ (n : ℕ). shown (outcome n tables call)) (sym z ∙ e)

-- a plan that does nothing, carried out
pub nothing-done : (cs ls al reply relay : List ℕ) (r : Answer) → r ≡ coded (sent_nothing 0)
    → handled r cs ls reply relay ≡ applied (do_nothing (lent cs ls al)) reply relay
unfolding applied put
nothing-done cs ls al reply relay r a = rw a

-- a plan, carried out, with what is written of the messages that it sends and of the one that it heard
pub marked-done : (tables : Tables) (call : Call) (p : Plan) (cs' cs'' ls' al' reply' relay' : List ℕ) (r : Answer)
    → handled r cs' ls' reply' relay' ≡ applied p (reply_buffer call) (relay_buffer call)
    → cs'' ≡ stamp (stamp (answered_by call cs') (time_of call) r.reply (connection_of call)) (time_of call) r.relay r.destination
    → al' ≡ set_clock (charge tables.allowances call (price tables call)) (time_of call)
    → call_result r (lent cs'' ls' al') reply' relay' ≡ shown (done tables call (stamped (time_of call) (connection_of call) (heard call p)))
unfolding applied done
marked-done tables call p cs' cs'' ls' al' reply' relay' r e s h =
    rw (
      h,
      s,
      ap (λ (x : Handled). x.answer) e,
      ap (λ (x : Handled). x.connections) e,
      ap (λ (x : Handled). x.leases) e,
      ap (λ (x : Handled). x.reply) e,
      ap (λ (x : Handled). x.relay) e,
    )
