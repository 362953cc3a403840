-- What is written to the records of those who join and leave a session. Assumes nothing.
use Prim.Native.Nat.{ℕ, ◌+◌}
use mathlib.Core.Path.{◌≡◌}
use mathlib.Core.List.{List, [], ◌∷◌, ◌++◌}
use lib.ListN.{length, replicate}
use Rattle.octets.specs.Octets.{part, put}
use Rattle.octets.proofs.Parts.{part_join}
use Rattle.octets.proofs.Stores.{put-behind}
use Rattle.svsc.specs.Messages.{key_bytes}
use Rattle.rules.specs.Sizes.{nobody}
use Rattle.rules.specs.Tables.{peer_at, keys_at, keys_bytes}
use Rattle.rules.specs.Sessions.{join, leave, establish}

pub joined : (cs b₁ b₂ b₃ : List ℕ) (c other : ℕ) (session pair : List ℕ) → length session ≡ key_bytes → b₁ ≡ put cs (peer_at c) (other ∷ [])
    → b₂ ≡ put b₁ (keys_at c) session → b₃ ≡ put b₂ (keys_at c + key_bytes) pair → b₃ ≡ join cs c other (session ++ pair)
unfolding join
joined cs b₁ b₂ b₃ c other session pair l e₁ e₂ e₃ = rw (e₃, e₂, e₁) (put-behind (put cs (peer_at c) (other ∷ [])) (keys_at c) key_bytes session pair l)

pub left : (cs b₁ b₂ : List ℕ) (c : ℕ) → b₁ ≡ put cs (peer_at c) (nobody ∷ []) → b₂ ≡ put b₁ (keys_at c) (replicate keys_bytes 0) → b₂ ≡ leave cs c
unfolding leave join
left cs b₁ b₂ c e₁ e₂ = rw (e₂, e₁)

-- each pair is one part of the random bytes
pub established_lem : (cs b₁ b₂ : List ℕ) (c h : ℕ) (random : List ℕ) → b₁ ≡ join cs c h (part random 0 16 ++ part random 16 32)
    → b₂ ≡ join b₁ h c (part random 0 16 ++ part random 48 32) → b₂ ≡ establish cs c h random
unfolding establish
established_lem cs b₁ b₂ c h random e₁ e₂ = rw (e₂, e₁, part_join random 16 16 16, part_join random 48 16 16)
