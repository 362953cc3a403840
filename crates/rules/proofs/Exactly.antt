-- Tests, and the statements that they decide, in both directions. Assumes nothing.
use Prim.Native.Nat.{ℕ, ◌≤◌, ◌<◌}
use mathlib.Core.Path.{◌≡◌, refl}
use mathlib.Core.Logic.{◌⊎◌, inl, inr, ⊎_elim, ◌↔◌}
use mathlib.Core.Bool.{Bool, true, false, not, ◌&&◌, ◌||◌, true≢false, false≢true}
use lib.Dec.{eqb, leb, ltb}
use borrow.Author.Tests.{ltb-true, ltb-false, lt-ltb, leb-true, leb-false, le-leb, eqb-true, eq-eqb}
use Rattle.octets.proofs.Tests.{both_left, both_right}

-- a test that would say what is not so
pub refuted : (t : Bool) → (t ≡ true → ⊥) → t ≡ false
refuted true n = absurd (n refl)
refuted false n = refl

pub not-lt : {a b : ℕ} → (a < b → ⊥) → b ≤ a
not-lt {a} {b} n = ltb-false a b (refuted (ltb a b) (λ e. n (ltb-true a b e)))

pub not-le : {a b : ℕ} → (a ≤ b → ⊥) → b < a
not-le {a} {b} n = leb-false a b (refuted (leb a b) (λ e. n (leb-true a b e)))

pub eq-exactly : (a b : ℕ) → (eqb a b ≡ true) ↔ (a ≡ b)
eq-exactly a b = (eqb-true a b, eq-eqb a b)

pub lt-exactly : (a b : ℕ) → (ltb a b ≡ true) ↔ (a < b)
lt-exactly a b = (ltb-true a b, lt-ltb a b)

pub le-exactly : (a b : ℕ) → (leb a b ≡ true) ↔ (a ≤ b)
le-exactly a b = (leb-true a b, le-leb a b)

pub not-exactly : {A : Type 0} (t : Bool) → (t ≡ true) ↔ A → (not t ≡ true) ↔ (A → ⊥)
not-exactly true e = ((λ h x. false≢true h), (λ n. absurd (n (e.0 refl))))
not-exactly false e = ((λ h x. false≢true (e.1 x)), (λ n. refl))

pub and-exactly : {A B : Type 0} (t u : Bool) → (t ≡ true) ↔ A → (u ≡ true) ↔ B → (t && u ≡ true) ↔ (A × B)
and-exactly t u e f = ((λ h. (e.0 (both_left t u h), f.0 (both_right t u h))), (λ q. rw (e.1 q.0) (f.1 q.1)))

pub or-exactly : {A B : Type 0} (t u : Bool) → (t ≡ true) ↔ A → (u ≡ true) ↔ B → (t || u ≡ true) ↔ (A ⊎ B)
or-exactly true u e f = ((λ h. inl (e.0 refl)), (λ q. refl))
or-exactly false u e f = ((λ h. inr (f.0 h)), ⊎_elim (λ x. absurd (false≢true (e.1 x))) (λ y. f.1 y))

pub false-exactly : (t : Bool) → (not t ≡ true) ↔ (t ≡ false)
false-exactly true = ((λ h. absurd (false≢true h)), (λ h. absurd (true≢false h)))
false-exactly false = ((λ h. refl), (λ h. refl))

pub never : (false ≡ true) ↔ ⊥
never = (false≢true, (λ x. absurd x))
