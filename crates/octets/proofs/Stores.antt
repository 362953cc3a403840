-- Stores: their lengths, one behind another, what they leave beside them, and what is read back. Assumes nothing.
use Prim.Native.Nat.{ℕ, suc, ◌+◌, ◌-◌, ◌^◌, ◌≤◌, ◌<◌, min}
use mathlib.Core.Path.{◌≡◌, refl, sym, ap, ◌∙◌}
use mathlib.Core.Logic.{⊎_elim}
use mathlib.Core.List.{List, [], ◌∷◌, ◌++◌, append_assoc, append-nil}
use native.Mathlib.Nat.{add-zero}
use native.Mathlib.Numerals.{add-one}
use native.Mathlib.Omega.{arith}
use lib.ListN.{length, get_or, take, drop, set, replicate, length-replicate, take-append-drop, drop_of_length-le, replicate-append-replicate}
use lib.Seq.{sets-eq, length-sets, set_out, take_all, take-suc, length-take-le, take_at, drop_at, take-set-le, drop-set-lt, drop-set-add, drop-drop}
use borrow.Rule.Slice.PartMut.{put_mid}
use Rattle.octets.specs.Octets.{number, big_endian, part, number_at, put}
use Rattle.octets.proofs.Tests.{le-or-lt}
use Rattle.octets.proofs.Numbers.{length-big_endian, number-big_endian}

pub length-put : (xs : List ℕ) (at : ℕ) (vs : List ℕ) → length (put xs at vs) ≡ length xs
unfolding put
length-put xs at vs = length-sets xs _ vs

-- the run as a part: what was before it, the run, what was after it
pub put_splice : (xs : List ℕ) (at : ℕ) (vs : List ℕ) → at + length vs ≤ length xs → put xs at vs ≡ take at xs ++ (vs ++ drop (at + length vs) xs)
unfolding put
put_splice xs at vs h = sets-eq vs xs at h ∙ append_assoc (take at xs) vs (drop (at + length vs) xs)

-- what a write to `xs[at..at + length vs]` leaves
pub put_mid-put : (xs : List ℕ) (at k : ℕ) (vs : List ℕ) → k ≡ length vs → at + k ≤ length xs → put_mid at k xs vs ≡ put xs at vs
put_mid-put xs at k vs e h =
    rw e (ap (λ (l : List ℕ). take at xs ++ (vs ++ l)) (drop-drop (length vs) at xs) ∙ sym (put_splice xs at vs (omega (arith, e, h))))

-- one run behind another
pub put-append : (xs : List ℕ) (at : ℕ) (us vs : List ℕ) → put (put xs at us) (at + length us) vs ≡ put xs at (us ++ vs)
unfolding put
put-append xs at [] vs = rw add-zero
put-append xs at (u ∷ us) vs =
    let e : at + suc (length us) ≡ suc at + length us = omega arith in
    rw e (put-append (set xs at u) (suc at) us vs)

pub put-behind : (xs : List ℕ) (at n : ℕ) (us vs : List ℕ) → length us ≡ n → put (put xs at us) (at + n) vs ≡ put xs at (us ++ vs)
put-behind xs at n us vs e = ap (λ (k : ℕ). put (put xs at us) (at + k) vs) (sym e) ∙ put-append xs at us vs

-- a run as long as the list takes its place
pub put_whole : (xs vs : List ℕ) → length vs ≡ length xs → put xs 0 vs ≡ vs
put_whole xs vs e =
    let past : length xs ≤ 0 + length vs = omega arith in
    put_splice xs 0 vs (omega arith) ∙ ap (λ (l : List ℕ). vs ++ l) (drop_of_length-le xs past) ∙ append-nil vs

-- past the end nothing is stored, so a run may be cut where the list ends
pub put_past : (xs : List ℕ) (at : ℕ) (vs : List ℕ) → length xs ≤ at → put xs at vs ≡ xs
unfolding put
put_past xs at [] h = refl
put_past xs at (v ∷ vs) h = rw (set_out xs at v h) (put_past xs (suc at) vs (omega arith))

pub put-cut : (xs : List ℕ) (at : ℕ) (vs : List ℕ) (n : ℕ) → n ≡ min (length xs - at) (length vs) → put xs at (take n vs) ≡ put xs at vs
unfolding put
put-cut xs at vs n e = ⊎_elim (λ l. rw (take_all n vs l)) (λ l. beyond l) (le-or-lt (length vs) n)
  where
    beyond : n < length vs → put xs at (take n vs) ≡ put xs at vs
    beyond l =
        let len : length (take n vs) ≡ n = length-take-le n vs (omega arith) in
        let past : length (put xs at (take n vs)) ≤ at + n = rw (length-put xs at (take n vs)) (omega arith) in
        sym (put_past (put xs at (take n vs)) (at + n) (drop n vs) past)
        ∙ ap (λ (k : ℕ). put (put xs at (take n vs)) (at + k) (drop n vs)) (sym len)
        ∙ put-append xs at (take n vs) (drop n vs)
        ∙ ap (put xs at) (take-append-drop n vs)

-- one turn of a loop that stores
put_snoc : (xs : List ℕ) (at : ℕ) (vs : List ℕ) (v : ℕ) → put xs at (vs ++ (v ∷ [])) ≡ set (put xs at vs) (at + length vs) v
unfolding put
put_snoc xs at vs v = sym (put-append xs at vs (v ∷ []))

pub put-none : (xs : List ℕ) (at : ℕ) → put xs at [] ≡ xs
unfolding put
put-none xs at = refl

pub put_empty : (xs : List ℕ) (at : ℕ) (vs : List ℕ) → length vs ≡ 0 → put xs at vs ≡ xs
put_empty xs at [] h = put-none xs at
put_empty xs at (v ∷ vs) h = absurd (omega (arith, h))

pub put_one : (xs : List ℕ) (at v : ℕ) → put xs at (v ∷ []) ≡ set xs at v
unfolding put
put_one xs at v = refl

pub put-take_more : (xs : List ℕ) (at : ℕ) (vs : List ℕ) (n : ℕ) → n < length vs
    → put xs at (take (n + 1) vs) ≡ set (put xs at (take n vs)) (at + n) (get_or vs n 0)
put-take_more xs at vs n h =
    let len : length (take n vs) ≡ n = length-take-le n vs (omega arith) in
    rw (add-one, take-suc vs n 0, put_snoc, len)

pub put-replicate-cut : (xs : List ℕ) (at n v m : ℕ) → m ≡ min (length xs - at) n → put xs at (replicate m v) ≡ put xs at (replicate n v)
put-replicate-cut xs at n v m e =
    let len : length (replicate n v) ≡ n = length-replicate n v in
    let low : length (replicate m v) ≡ m = length-replicate m v in
    let more : m + (n - m) ≡ n = omega arith in
    ap (put xs at) (sym (take_at (replicate m v) (replicate (n - m) v) m low) ∙ ap (take m) (replicate-append-replicate m (n - m) v ∙ rw more))
    ∙ put-cut xs at (replicate n v) m (omega arith)

-- ---- what a store leaves, and what it shows

-- a part that ends before a store
part-set : (xs : List ℕ) (at v from n : ℕ) → from + n ≤ at → part (set xs at v) from n ≡ part xs from n
unfolding part
part-set xs at v from n h =
    ap (λ (k : ℕ). take n (drop from (set xs k v))) e
    ∙ rw (drop-set-add from xs (at - from) v, take-set-le n (drop from xs) (at - from) v (omega arith))
  where
    e : at ≡ from + (at - from)
    e = omega arith

-- a part that ends before the run, or starts behind it, stays
pub part-before : (xs : List ℕ) (at : ℕ) (vs : List ℕ) (from n : ℕ) → from + n ≤ at → part (put xs at vs) from n ≡ part xs from n
unfolding put
part-before xs at [] from n h = refl
part-before xs at (v ∷ vs) from n h = part-before (set xs at v) (suc at) vs from n (omega arith) ∙ part-set xs at v from n h

pub part-behind : (xs : List ℕ) (at : ℕ) (vs : List ℕ) (from n : ℕ) → at + length vs ≤ from → part (put xs at vs) from n ≡ part xs from n
unfolding put part
part-behind xs at [] from n h = refl
part-behind xs at (v ∷ vs) from n h = part-behind (set xs at v) (suc at) vs from n (omega arith) ∙ rw (drop-set-lt from xs at v (omega arith))

-- what was stored is read back
pub part-put : (xs : List ℕ) (at : ℕ) (vs : List ℕ) → at + length vs ≤ length xs → part (put xs at vs) at (length vs) ≡ vs
unfolding part
part-put xs at vs h =
    let len : length (take at xs) ≡ at = length-take-le at xs (omega arith) in
    rw (put_splice xs at vs h, drop_at (take at xs) (vs ++ drop (at + length vs) xs) at len) (take_at vs (drop (at + length vs) xs) (length vs) refl)

pub number_at-put : (xs : List ℕ) (at n v : ℕ) → at + n ≤ length xs → v < 256 ^ n → number_at (put xs at (big_endian n v)) at n ≡ v
unfolding number_at
number_at-put xs at n v h l =
    let e : length (big_endian n v) ≡ n = length-big_endian n v in
    ap (λ (k : ℕ). number (part (put xs at (big_endian n v)) at k)) (sym e)
    ∙ ap number (part-put xs at (big_endian n v) (omega arith))
    ∙ number-big_endian n v l

-- and beside a store a number stays
pub number_at-before : (xs : List ℕ) (at : ℕ) (vs : List ℕ) (from n : ℕ) → from + n ≤ at → number_at (put xs at vs) from n ≡ number_at xs from n
unfolding number_at
number_at-before xs at vs from n h = ap number (part-before xs at vs from n h)

pub number_at-behind : (xs : List ℕ) (at : ℕ) (vs : List ℕ) (from n : ℕ) → at + length vs ≤ from → number_at (put xs at vs) from n ≡ number_at xs from n
unfolding number_at
number_at-behind xs at vs from n h = ap number (part-behind xs at vs from n h)
