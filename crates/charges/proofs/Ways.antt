-- The allowances after a message, charged or not, over plain values. Assumes nothing.
use Prim.Native.Nat.{ℕ}
use mathlib.Core.Path.{◌≡◌}
use mathlib.Core.List.{List}
use borrow.Author.Tests.{eq-eqb, ne_eqb}
use Rattle.octets.specs.Octets.{byte_at}
use Rattle.allowance.specs.Bucket.{spend}
use Rattle.rules.specs.Tables.{partner_of, bucket_of, set_bucket, set_clock}
use Rattle.rules.specs.Calls.{message}
use Rattle.rules.specs.Charges.{charge}
use Rattle.checks.proofs.MessageChecks.{ends}

module _ (time c : ℕ) (m random reply relay : List ℕ) (k : ℕ) (e : k ≡ byte_at m 0) where
  pub not-charged : k ≡ 9 → (al al' : List ℕ) (n : ℕ) → al' ≡ set_clock al time → al' ≡ set_clock (charge al (message time c m random reply relay) n) time
  unfolding charge
  not-charged h al al' n a = rw (ends m, ← e, eq-eqb k 9 h) a

  pub is-charged : (k ≡ 9 → ⊥) → (al al' : List ℕ) (n : ℕ) → al' ≡ set_clock (set_bucket al (partner_of c) (spend (bucket_of al (partner_of c)) time n)) time
      → al' ≡ set_clock (charge al (message time c m random reply relay) n) time
  unfolding charge
  is-charged h al al' n a = rw (ends m, ← e, ne_eqb k 9 h) a
