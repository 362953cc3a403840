-- A type and four parts one behind the other, and the test of the room for them, over plain values. Assumes nothing.
use Prim.Native.Nat.{ℕ, ◌+◌, ◌-◌, ◌≤◌, ◌<◌}
use mathlib.Core.Path.{◌≡◌, sym, ◌∙◌}
use mathlib.Core.Bool.{Bool, true, false, not}
use mathlib.Core.Logic.{⊎_elim}
use mathlib.Core.List.{List, [], ◌∷◌, ◌++◌, append-nil}
use native.Mathlib.Omega.{arith}
use lib.Dec.{leb}
use lib.ListN.{length, length-append}
use borrow.Author.Tests.{leb-true, leb-false, le-leb, lt-leb, not-true, not-false}
use Rattle.octets.specs.Octets.{put}
use Rattle.octets.proofs.Tests.{le-or-lt}
use Rattle.octets.proofs.Stores.{put-append, length-put}

-- a store keeps the length, wherever it is
pub kept : (before after stored : List ℕ) (at : ℕ) → after ≡ put before at stored → length after ≡ length before
kept before after stored at e = rw (e, length-put)

-- a type and four parts
module _ (buffer : List ℕ) (k : ℕ) (a b c d : List ℕ) where
  -- copied one behind the other
  pub placed : (b₀ b₁ b₂ b₃ b₄ : List ℕ) → b₀ ≡ put buffer 0 (k ∷ []) → b₁ ≡ put b₀ 1 a → b₂ ≡ put b₁ (1 + length a) b
      → b₃ ≡ put b₂ (1 + length a + length b) c → b₄ ≡ put b₃ (1 + length a + length b + length c) d → b₄ ≡ put buffer 0 (k ∷ (a ++ (b ++ (c ++ d))))
  placed b₀ b₁ b₂ b₃ b₄ e₀ e₁ e₂ e₃ e₄ =
      rw (e₄, e₃, e₂, e₁, e₀)
      (put-append (put (put (put buffer 0 (k ∷ [])) 1 a) (1 + length a) b) (1 + length a + length b) c d
      ∙ put-append (put (put buffer 0 (k ∷ [])) 1 a) (1 + length a) b (c ++ d)
      ∙ put-append (put buffer 0 (k ∷ [])) 1 a (b ++ (c ++ d))
      ∙ put-append buffer 0 (k ∷ []) (a ++ (b ++ (c ++ d))))
