-- Whether a record contradicts, of any ledger, over plain values. Assumes nothing.
use Prim.Native.Nat.{ℕ, ◌≤◌}
use mathlib.Core.Path.{◌≡◌, refl, sym}
use mathlib.Core.Bool.{Bool, true, false}
use native.Mathlib.Omega.{arith}
use borrow.Author.Tests.{eq-eqb, ne_eqb}
use Rattle.rules.specs.Sizes.{connection_count}
use Rattle.rules.specs.Tables.{partner_of}
use Rattle.journal.specs.Records.{Record}
use Rattle.journal.specs.Contradictions.{contradicts}
use Rattle.journal.specs.Replays.{Ledger, is_contradicted, advance}
use Rattle.journal.specs.ContradictionClaims.{Consistent}
use Rattle.journal.proofs.Contradictions.{consistent}
use Rattle.replay_parts.specs.Settled.{Settleable}

module _ {State : Type 0} (L : Ledger State) (s : State) (r : Record) where
  abbrev found : ℕ
  found = L.level s (partner_of r.connection) r.time

  as_found : is_contradicted L s r ≡ false → Consistent (L.clock s) found r
  unfolding is_contradicted
  as_found h = consistent (L.clock s) found r h

  -- what can't be so of a record that doesn't contradict
  contradicted_if : (Consistent (L.clock s) found r → ⊥) → true ≡ is_contradicted L s r
  contradicted_if h = sym (by (is_contradicted L s r) refl)
    where
      by : (t : Bool) → is_contradicted L s r ≡ t → is_contradicted L s r ≡ true
      by true e = e
      by false e = absurd (h (as_found e))

  -- no level counts where the connection is out of range
  pub unknown_connection_lem : connection_count ≤ r.connection → true ≡ is_contradicted L s r
  unknown_connection_lem h = contradicted_if (λ ok. omega (arith, ok.connected))

  pub judged : (b : Bool) (clock level : ℕ) → level ≡ found → clock ≡ L.clock s → b ≡ contradicts clock level r → b ≡ is_contradicted L s r
  unfolding is_contradicted
  judged b clock level hl hc hb = rw (hb, hl, hc)

  pub settleable : is_contradicted L s r ≡ false → r.answer ≡ 0 → Settleable L s r
  settleable h z =
      let ok = as_found h in
      record { known = ok.connected; timely = ok.ordered; enough = ok.covered (eq-eqb _ 0 z) }

  pub not_done : (r.answer ≡ 0 → ⊥) → s ≡ advance L s r
  unfolding advance
  not_done h = rw (ne_eqb _ 0 h)

  pub done : r.answer ≡ 0 → L.settle s r ≡ advance L s r
  unfolding advance
  done z = rw (eq-eqb _ 0 z)
