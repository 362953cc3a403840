-- The reasons of calls, by the check that answers them, over plain values. Assumes nothing.
use Rattle.std.specs.Prelude.{if◌then◌else◌}
use Prim.Native.Nat.{ℕ, zero, suc}
use mathlib.Core.Path.{◌≡◌, refl, sym, ap, ap₂, ◌∙◌}
use mathlib.Core.Bool.{Bool, true, false}
use mathlib.Core.Option.{none, some}
use lib.Dec.{eqb}
use lib.IntN.{pos, ◌-ℤ◌}
use borrow.Author.Tests.{ne_eqb}
use Rattle.octets.proofs.Tests.{and-false}
use Rattle.allowance.specs.Meter.{verdict}
use Rattle.rules.specs.Tables.{Tables}
use Rattle.rules.specs.Calls.{Call}
use Rattle.rules.specs.Charges.{charged, price, caller_level}
use Rattle.rules.specs.Checks.{precheck, check}
use Rattle.rules.specs.Reasons.{undecided, asked, decided, headroom, explain}
use Rattle.rules.proofs.Checks.{check-verdict}
use Rattle.reasons.specs.declared.Named.{Named}
use Rattle.reasons.specs.declared.Named.TheVariants as named_by
use Rattle.reasons.specs.Coded.{named, reason_of, coded}

-- a call that asks for nothing to be decided
pub nothing_asked_lem : (tables : Tables) (call : Call) (k : ℕ) → asked tables call ≡ undecided
    → named_by.Nothing ≡ named (if eqb k 0 then asked tables call else undecided)
nothing_asked_lem tables call k h = rw h (go (eqb k 0))
  where
    go : (t : Bool) → named_by.Nothing ≡ named (if t then undecided else undecided)
    go true = refl
    go false = refl

-- ---- reasons

module _ (tables : Tables) (call : Call) (k : ℕ) (e : k ≡ check tables call) where
  decided-is : decided tables call ≡ (if eqb k 0 then asked tables call else undecided)
  unfolding decided
  decided-is = rw e

  -- a call that costs nothing
  pub free_way : charged call ≡ false → (x : Named) → x ≡ named (if eqb k 0 then asked tables call else undecided)
      → reason_of k x none ≡ coded (explain tables call)
  unfolding explain headroom
  free_way f x h = rw (f, and-false, decided-is) (ap₂ (λ (n : ℕ) (y : Named). reason_of n y none) e h)

  -- a call that is charged
  pub charged_way : precheck tables call ≡ 0 → charged call ≡ true
      → (x : Named) → x ≡ named (if eqb k 0 then asked tables call else undecided)
      → (level cost : ℕ) → level ≡ caller_level tables.allowances call → cost ≡ price tables call
      → reason_of k x (some (pos level -ℤ pos cost)) ≡ coded (explain tables call)
  unfolding explain headroom
  charged_way p f x h level cost hl hc =
      rw (p, f, decided-is, ← hl, ← hc) (ap₂ (λ (n : ℕ) (y : Named). reason_of n y (some (pos level -ℤ pos cost))) e h)

-- one of the first eight stops it
module _ (tables : Tables) (call : Call) (k : ℕ) (n : k ≡ 0 → ⊥) (e : k ≡ precheck tables call) where
  answered_with : k ≡ check tables call
  unfolding verdict
  answered_with = e ∙ sym (check-verdict tables call ∙ by (precheck tables call) (λ z. n (e ∙ z)))
    where
      by : (m : ℕ) → (m ≡ 0 → ⊥) → verdict m (charged call) (caller_level tables.allowances call) (price tables call) ≡ m
      by zero h = absurd (h refl)
      by (suc m) h = refl

  pub stopped_way : reason_of k named_by.Nothing none ≡ coded (explain tables call)
  unfolding explain headroom
  stopped_way =
      let none-decided : decided tables call ≡ undecided = decided-is tables call k answered_with ∙ rw (ne_eqb k 0 n) in
      rw (none-decided, ← e, ne_eqb k 0 n) (ap (λ (m : ℕ). reason_of m named_by.Nothing none) answered_with)
