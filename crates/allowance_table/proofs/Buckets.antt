-- An allowance as it is stored: two numbers, one behind the other. Assumes nothing.
use Prim.Native.Nat.{ℕ, ◌+◌}
use mathlib.Core.Path.{◌≡◌}
use mathlib.Core.List.{List}
use Rattle.octets.specs.Octets.{big_endian, put}
use Rattle.octets.proofs.Numbers.{length-big_endian}
use Rattle.octets.proofs.Stores.{put-behind}
use Rattle.rules.specs.Tables.{allowance_at, bucket_bytes, set_bucket}

pub stored : (al b₁ b₂ : List ℕ) (p level time : ℕ) → b₁ ≡ put al (allowance_at p) (big_endian 8 level) → b₂ ≡ put b₁ (allowance_at p + 8) (big_endian 8 time)
    → b₂ ≡ set_bucket al p (record { level = level; updated = time })
unfolding bucket_bytes
stored al b₁ b₂ p level time e₁ e₂ = rw (e₂, e₁) (put-behind al (allowance_at p) 8 (big_endian 8 level) (big_endian 8 time) (length-big_endian 8 level))
