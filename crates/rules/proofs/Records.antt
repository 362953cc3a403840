-- Records of one size in a table: what a store in one of them leaves of the others, and fields read from a record. Assumes nothing.
use Prim.Native.Nat.{ℕ, zero, suc, ◌+◌, ◌*◌, ◌≤◌, ◌<◌}
use mathlib.Core.Path.{◌≡◌, refl, sym, ap, ◌∙◌, subst}
use mathlib.Core.Logic.{◌≢◌}
use mathlib.Core.List.{List, [], ◌∷◌}
use native.Mathlib.Nat.{mul-suc, mul-le-mul_left}
use native.Mathlib.Omega.{arith}
use native.Mathlib.Decide.{dec_lt, dec_le}
use lib.ListN.{length, take, drop, length-take}
use lib.Seq.{take-take, drop-drop, get_or-take, get_or-drop, get_or-set_same}
use Rattle.octets.specs.Octets.{byte_at, number, part, number_at, put}
use Rattle.octets.proofs.Stores.{put_one, length-put, part-before, part-behind}

pub length-part-most : (xs : List ℕ) (at n : ℕ) → length (part xs at n) ≤ n
unfolding part
length-part-most xs at n = simp length-take (omega arith)

-- ---- a part of a part, and a byte of one

take-drop : (k i n : ℕ) (xs : List ℕ) → i + k ≤ n → take k (drop i (take n xs)) ≡ take k (drop i xs)
take-drop k zero n xs h = take-take k n xs (omega arith)
take-drop k (suc i) zero xs h = absurd (omega arith)
take-drop k (suc i) (suc n) [] h = refl
take-drop k (suc i) (suc n) (x ∷ xs) h = take-drop k i n xs (omega arith)

pub part-part : (xs : List ℕ) (at n i k : ℕ) → i + k ≤ n → part (part xs at n) i k ≡ part xs (at + i) k
unfolding part
part-part xs at n i k h = take-drop k i n (drop at xs) h ∙ ap (take k) (drop-drop i at xs)

pub byte_part : (xs : List ℕ) (at n i : ℕ) → i < n → byte_at (part xs at n) i ≡ byte_at xs (at + i)
unfolding part
byte_part xs at n i h = get_or-take n (drop at xs) i 0 h ∙ get_or-drop at xs i 0

-- where a record is as it was, so are its parts and bytes
module _ (size k : ℕ) (xs ys : List ℕ) (e : part ys (size * k) size ≡ part xs (size * k) size) where
  pub field-same : (i n : ℕ) → i + n ≤ size → part ys (size * k + i) n ≡ part xs (size * k + i) n
  field-same i n h = sym (part-part ys (size * k) size i n h) ∙ ap (λ (l : List ℕ). part l i n) e ∙ part-part xs (size * k) size i n h

  pub byte_same : (i : ℕ) → i < size → byte_at ys (size * k + i) ≡ byte_at xs (size * k + i)
  byte_same i h = sym (byte_part ys (size * k) size i h) ∙ ap (λ (l : List ℕ). byte_at l i) e ∙ byte_part xs (size * k) size i h

-- ---- beside a store

-- a part that the run does not meet
pub part-beside : (xs : List ℕ) (at : ℕ) (vs : List ℕ) (from n : ℕ) → (at < from + n → at + length vs ≤ from)
    → part (put xs at vs) from n ≡ part xs from n
part-beside xs at vs from n h = go (dec_le (from + n) at)
  where
    go : Dec (from + n ≤ at) → part (put xs at vs) from n ≡ part xs from n
    go (yes l) = part-before xs at vs from n l
    go (no l) = part-behind xs at vs from n (h (omega arith))

pub number-beside : (xs : List ℕ) (at : ℕ) (vs : List ℕ) (from n : ℕ) → (at < from + n → at + length vs ≤ from)
    → number_at (put xs at vs) from n ≡ number_at xs from n
unfolding number_at
number-beside xs at vs from n h = ap number (part-beside xs at vs from n h)

pub byte_beside : (xs : List ℕ) (at : ℕ) (vs : List ℕ) (i : ℕ) → (at < i + 1 → at + length vs ≤ i) → byte_at (put xs at vs) i ≡ byte_at xs i
byte_beside xs at vs i h =
    let e : i + 0 ≡ i = omega arith in
    rw (← e)
    (sym (byte_part (put xs at vs) i 1 0 (omega arith))
    ∙ ap (λ (l : List ℕ). byte_at l 0) (part-beside xs at vs i 1 h)
    ∙ byte_part xs i 1 0 (omega arith))

pub byte_put : (xs : List ℕ) (at v : ℕ) → at < length xs → byte_at (put xs at (v ∷ [])) at ≡ v
byte_put xs at v h = rw (put_one xs at v) (get_or-set_same xs at v 0 h)

-- ---- records of one size, of which some are others'

-- the records of which `Other` holds are as they were, in a table as long as it was
pub record Kept (size : ℕ) (Other : ℕ → Type 0) (xs ys : List ℕ) : Type 0 where
  pub long : length ys ≡ length xs
  pub at : (k : ℕ) → Other k → part ys (size * k) size ≡ part xs (size * k) size

module _ {size : ℕ} {Other : ℕ → Type 0} where
  pub kept_same : (xs : List ℕ) → Kept size Other xs xs
  kept_same xs = record { long = refl; at = λ k o. refl }

  pub kept_trans : {xs ys zs : List ℕ} → Kept size Other xs ys → Kept size Other ys zs → Kept size Other xs zs
  kept_trans f g = record { long = g.long ∙ f.long; at = λ k o. g.at k o ∙ f.at k o }

  -- a store inside one record
  pub kept_put : (xs : List ℕ) (q at : ℕ) (vs : List ℕ) → (Other q → ⊥) → size * q ≤ at → at + length vs ≤ size * q + size
      → Kept size Other xs (put xs at vs)
  kept_put xs q at vs n low high =
      record {
        long = length-put xs at vs;
        at = λ k o. part-beside xs at vs (size * k) size (λ l. apart k (λ e. n (subst Other e o)) l (dec_lt q k));
      }
    where
      apart : (k : ℕ) → k ≢ q → at < size * k + size → Dec (q < k) → at + length vs ≤ size * k
      apart k d l (yes m) = omega (arith, mul-le-mul_left {m = suc q} {n = k} size m, mul-suc size q)
      apart k d l (no m) = absurd (omega (arith, mul-le-mul_left {m = suc k} {n = q} size (omega arith), mul-suc size k))
