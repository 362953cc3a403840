-- The way out of a close, over plain values. Assumes nothing.
use Rattle.std.specs.Prelude.{if◌then◌else◌}
use Prim.Native.Nat.{ℕ}
use mathlib.Core.Path.{◌≡◌, ap}
use mathlib.Core.Bool.{true, false}
use mathlib.Core.Logic.{⊎_elim}
use mathlib.Core.List.{List}
use Rattle.rules.specs.Tables.{lent, peer, has_session}
use Rattle.octets.specs.Octets.{put}
use Rattle.octets.proofs.Tests.{by_test}
use Rattle.rules.specs.Sessions.{clear}
use Rattle.rules.specs.Leases.{release}
use Rattle.rules.specs.Plans.{plan_end, plan_close, do_nothing}
use Rattle.answers.specs.declared.Answer.{Answer}
use Rattle.answers.specs.Applied.{Handled, handled, applied}

module _ (cs ls al reply relay cs₁ cs₂ ls' relay' : List ℕ) (c : ℕ) (r : Answer) (l : ls' ≡ release ls c) (k : cs₂ ≡ clear cs₁ c) where
  abbrev Closed : Type 0
  Closed = handled r cs₂ ls' reply relay' ≡ applied (plan_close (lent cs ls al) c) reply relay

  with_session : has_session cs c ≡ true → handled r cs₁ ls reply relay' ≡ applied (plan_end (lent cs ls al) c (peer cs c)) reply relay → Closed
  unfolding plan_close plan_end applied put
  with_session h e =
      rw (h, k, l, ap (λ (x : Handled). x.answer) e, ap (λ (x : Handled). x.connections) e, ap (λ (x : Handled). x.relay) e)

  without_session : has_session cs c ≡ false → handled r cs₁ ls reply relay' ≡ applied (do_nothing (lent cs ls al)) reply relay → Closed
  unfolding plan_close applied put
  without_session h e =
      rw (h, k, l, ap (λ (x : Handled). x.answer) e, ap (λ (x : Handled). x.connections) e, ap (λ (x : Handled). x.relay) e)

  pub closed : handled r cs₁ ls reply relay' ≡ applied (if has_session cs c then plan_end (lent cs ls al) c (peer cs c) else do_nothing (lent cs ls al)) reply relay → Closed
  closed e = ⊎_elim (λ h. with_session h (rw h at e)) (λ h. without_session h (rw h at e)) (by_test (has_session cs c))
