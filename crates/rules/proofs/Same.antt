-- Lists that have the same bytes at some places: what is read there is the same, and stays so where both are written alike.
-- Assumes nothing.
use Prim.Native.Nat.{ℕ, suc, ◌+◌, ◌*◌, ◌/◌, ◌%◌, ◌≤◌, ◌<◌}
use mathlib.Core.Path.{◌≡◌, refl, sym, ap, ◌∙◌, subst}
use mathlib.Core.List.{List, [], ◌∷◌}
use native.Mathlib.Nat.{div-add-mod, mod-lt, div-eq_of_lt-le}
use native.Mathlib.Omega.{arith}
use native.Mathlib.Decide.{dec_lt, ℕ_discrete}
use lib.ListN.{length, take, drop, set, length-take, length-drop, length-set}
use lib.Seq.{get_or-set_same, get_or-set_other, get_or-take, get_or-drop, set_out, ext_get_or}
use Rattle.octets.specs.Octets.{byte_at, number, part, number_at, put}
use Rattle.rules.specs.Bytes.{SameAt}
use Rattle.rules.proofs.Records.{byte_same}

module _ {P : ℕ → Type 0} where
  pub same_refl : (xs : List ℕ) → SameAt P xs xs
  same_refl xs = record { long = refl; at = λ i h. refl }

  pub same_trans : {xs ys zs : List ℕ} → SameAt P xs ys → SameAt P ys zs → SameAt P xs zs
  same_trans s t = record { long = s.long ∙ t.long; at = λ i h. s.at i h ∙ t.at i h }

  -- ---- what is read

  pub same-part : {xs ys : List ℕ} → SameAt P xs ys → (at n : ℕ) → ((i : ℕ) → at ≤ i → i < at + n → P i) → part xs at n ≡ part ys at n
  unfolding part
  same-part {xs} {ys} s at n h =
      ext_get_or 0 (take n (drop at xs)) (take n (drop at ys)) (simp (length-take, length-drop, s.long))
      (λ i l.
      let small : i < n = omega (arith, length-take n (drop at xs)) in
      get_or-take n (drop at xs) i 0 small
      ∙ get_or-drop at xs i 0
      ∙ s.at (at + i) (h (at + i) (omega arith) (omega arith))
      ∙ sym (get_or-take n (drop at ys) i 0 small ∙ get_or-drop at ys i 0))

  pub same_number : {xs ys : List ℕ} → SameAt P xs ys → (at n : ℕ) → ((i : ℕ) → at ≤ i → i < at + n → P i)
      → number_at xs at n ≡ number_at ys at n
  unfolding number_at
  same_number s at n h = ap number (same-part s at n h)

  -- ---- the same writing, wherever it is

  same_set : {xs ys : List ℕ} → SameAt P xs ys → (at v : ℕ) → SameAt P (set xs at v) (set ys at v)
  same_set {xs} {ys} s at v = record {
    long = length-set xs at v ∙ s.long ∙ sym (length-set ys at v);
    at = λ i h. go i h (ℕ_discrete i at) (dec_lt at (length xs));
  }
    where
      go : (i : ℕ) → P i → Dec (i ≡ at) → Dec (at < length xs) → byte_at (set xs at v) i ≡ byte_at (set ys at v) i
      go i h (no n) l = get_or-set_other xs at i v 0 n ∙ s.at i h ∙ sym (get_or-set_other ys at i v 0 n)
      go i h (yes e) (yes l) = rw e (get_or-set_same xs at v 0 l ∙ sym (get_or-set_same ys at v 0 (omega (arith, s.long))))
      go i h (yes e) (no l) = rw (set_out xs at v (omega arith), set_out ys at v (omega (arith, s.long))) (s.at i h)

  pub same-put : {xs ys : List ℕ} → SameAt P xs ys → (at : ℕ) (vs : List ℕ) → SameAt P (put xs at vs) (put ys at vs)
  unfolding put
  same-put s at [] = s
  same-put s at (v ∷ vs) = same-put (same_set s at v) (suc at) vs

  -- ---- a writing at places of which P does not hold

  pub keep_put : (xs : List ℕ) (at : ℕ) (vs : List ℕ) → ((i : ℕ) → at ≤ i → i < at + length vs → P i → ⊥) → SameAt P xs (put xs at vs)
  unfolding put
  keep_put xs at [] n = same_refl xs
  keep_put xs at (v ∷ vs) n =
      same_trans
      (record {
        long = sym (length-set xs at v);
        at = λ i h. sym (get_or-set_other xs at i v 0 (λ e. n at (omega arith) (omega arith) (subst P e h)));
      })
      (keep_put (set xs at v) (suc at) vs (λ i l u. n i (omega arith) (omega arith)))

-- ---- records of one size, of which some are the same: of those that R holds of

module _ (size : ℕ) (some : 0 < size) (R : ℕ → Type 0) {xs ys : List ℕ} where
  pub records_to_bytes : length xs ≡ length ys → ((k : ℕ) → R k → part xs (size * k) size ≡ part ys (size * k) size)
      → SameAt (λ i. R (i / size)) xs ys
  records_to_bytes long e = record {
    long = long;
    at = λ i h. rw (div-add-mod i size) at (byte_same size (i / size) ys xs (e (i / size) h) (i % size) (mod-lt i some));
  }

  pub bytes_to_records : SameAt (λ i. R (i / size)) xs ys → (k : ℕ) → R k → part xs (size * k) size ≡ part ys (size * k) size
  bytes_to_records s k h = same-part s (size * k) size (λ i l u. subst R (sym (inside i l u)) h)
    where
      inside : (i : ℕ) → size * k ≤ i → i < size * k + size → i / size ≡ k
      inside i l u = div-eq_of_lt-le size (omega arith) (omega arith)

-- what holds of fewer places
pub same-fewer : {P Q : ℕ → Type 0} {xs ys : List ℕ} → ((i : ℕ) → Q i → P i) → SameAt P xs ys → SameAt Q xs ys
same-fewer f s = record { long = s.long; at = λ i h. s.at i (f i h) }

-- and of all places
pub same-all : {xs ys : List ℕ} → SameAt (λ i. Unit {0}) xs ys → xs ≡ ys
same-all {xs} {ys} s = ext_get_or 0 xs ys s.long (λ i l. s.at i tt)
