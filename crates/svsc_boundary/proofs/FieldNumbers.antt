-- A field of bytes by its number: what a list of fields has at the numbers that a function passes over. Assumes nothing.
use Prim.Native.Nat.{ℕ, zero, suc}
use mathlib.Core.Path.{◌≡◌, refl}
use mathlib.Core.List.{List, [], ◌∷◌}
use lib.ListN.{get_or}

pub not-zero : (f : ℕ) (x : List ℕ) → (f ≡ 0 → ⊥) → get_or (x ∷ []) f [] ≡ []
not-zero zero x h = absurd (h refl)
not-zero (suc f) x h = refl

pub not_keys : (f : ℕ) (x y z : List ℕ) → (f ≡ 1 → ⊥) → (f ≡ 2 → ⊥) → (f ≡ 3 → ⊥) → get_or ([] ∷ x ∷ y ∷ z ∷ []) f [] ≡ []
not_keys zero x y z h i j = refl
not_keys (suc zero) x y z h i j = absurd (h refl)
not_keys (suc (suc zero)) x y z h i j = absurd (i refl)
not_keys (suc (suc (suc zero))) x y z h i j = absurd (j refl)
not_keys (suc (suc (suc (suc f)))) x y z h i j = refl

pub not-four : (f : ℕ) (x : List ℕ) → (f ≡ 4 → ⊥) → get_or ([] ∷ [] ∷ [] ∷ [] ∷ x ∷ []) f [] ≡ []
not-four zero x h = refl
not-four (suc zero) x h = refl
not-four (suc (suc zero)) x h = refl
not-four (suc (suc (suc zero))) x h = refl
not-four (suc (suc (suc (suc zero)))) x h = absurd (h refl)
not-four (suc (suc (suc (suc (suc f))))) x h = refl
