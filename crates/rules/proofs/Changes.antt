-- Which bytes each writing changes; the others are what they were. Assumes nothing.
use Rattle.std.specs.Prelude.{if◌then◌else◌}
use Prim.Native.Nat.{ℕ, zero, suc, ◌+◌, ◌≤◌, ◌<◌}
use mathlib.Core.Path.{◌≡◌, refl, sym, ◌∙◌}
use mathlib.Core.Logic.{◌⊎◌, inl, inr}
use mathlib.Core.Bool.{Bool, true, false}
use mathlib.Core.List.{List, [], ◌∷◌}
use native.Mathlib.Omega.{arith}
use native.Mathlib.Decide.{ℕ_discrete}
use lib.Dec.{eqb, lit≤}
use lib.ListN.{length, replicate}
use borrow.Author.Tests.{eqb-true, eq-eqb}
use Rattle.octets.specs.Octets.{big_endian, put}
use Rattle.octets.proofs.Numbers.{length-big_endian}
use Rattle.octets.proofs.Stores.{length-put}
use Rattle.svsc.specs.Messages.{cookie_bytes}
use Rattle.rules.specs.Sizes.{row_count, connection_bytes, lease_bytes, leases_size, nobody}
use Rattle.rules.specs.Tables.{connection_at, peer_at, keys_at, keys_bytes, lease_at, id_at, holder_at, cookie_at, holder, set_state, set_peer, set_expiry, set_id, set_holder, fresh_connection}
use Rattle.rules.specs.Leases.{grant, renew, release_from}
use Rattle.rules.specs.Sessions.{clear, await, join, leave, end_session}
use Rattle.rules.specs.Bytes.{ChangedOnly, InField}
use Rattle.rules.specs.Effects.{InConnection, InSessionBytes}
use Rattle.rules.proofs.Records.{byte_beside, byte_put}
use Rattle.rules.proofs.Rows.{by-holder}
use Rattle.rules.proofs.Same.{same_refl, same_trans, same-fewer, keep_put}

-- more bytes may have changed
pub changed_more : {P R : ℕ → Type 0} {xs ys : List ℕ} → ((i : ℕ) → P i → R i) → ChangedOnly P xs ys → ChangedOnly R xs ys
changed_more f s = same-fewer (λ i n p. n (f i p)) s

-- one writing behind another
pub changed_both : {P R : ℕ → Type 0} {xs ys zs : List ℕ} → ChangedOnly P xs ys → ChangedOnly R ys zs → ChangedOnly (λ i. P i ⊎ R i) xs zs
changed_both s t = same_trans (changed_more (λ i p. inl p) s) (changed_more (λ i r. inr r) t)

-- a store at places of which P holds
pub changed_at : {P : ℕ → Type 0} (xs : List ℕ) (at : ℕ) (vs : List ℕ) → ((i : ℕ) → at ≤ i → i < at + length vs → P i)
    → ChangedOnly P xs (put xs at vs)
changed_at xs at vs f = keep_put xs at vs (λ i l u n. n (f i l u))

-- ---- connections

module _ (cs : List ℕ) (c : ℕ) where
  pub changed_state : (s : ℕ) → ChangedOnly (InField connection_bytes c 0 1) cs (set_state cs c s)
  changed_state s = changed_at cs (connection_at c) (s ∷ []) (λ i l u. (omega arith, omega arith))

  pub changed_clear : ChangedOnly (InConnection c) cs (clear cs c)
  unfolding clear
  changed_clear = changed_at cs (connection_at c) fresh_connection (λ i l u. (omega arith, omega arith))

  pub changed_join : (other : ℕ) (keys : List ℕ) → length keys ≤ keys_bytes → ChangedOnly (InSessionBytes c) cs (join cs c other keys)
  unfolding join
  changed_join other keys h =
      changed_both
      (changed_at cs (peer_at c) (other ∷ []) (λ i l u. (omega arith, omega arith)))
      (changed_at (set_peer cs c other) (keys_at c) keys (λ i l u. (omega arith, omega arith)))

pub changed_await : (cs : List ℕ) (c : ℕ) → ChangedOnly (InConnection c) cs (await cs c)
unfolding await
changed_await cs c =
    same_trans (changed_clear cs c) (changed_more (λ i p. (p.0, omega (arith, p.1))) (changed_state (clear cs c) c 1))

pub changed_end : (cs : List ℕ) (c d : ℕ) → ChangedOnly (λ i. InSessionBytes c i ⊎ InSessionBytes d i) cs (end_session cs c d)
unfolding end_session leave
changed_end cs c d =
    changed_both
    (changed_join cs c nobody (replicate keys_bytes 0) (lit≤ tt))
    (changed_join (leave cs c) d nobody (replicate keys_bytes 0) (lit≤ tt))

-- ---- lease rows

pub changed_expiry : (ls : List ℕ) (r until : ℕ) → ChangedOnly (InField lease_bytes r 0 8) ls (set_expiry ls r until)
changed_expiry ls r until =
    changed_at ls (lease_at r) (big_endian 8 until) (λ i l u. (omega arith, omega (arith, length-big_endian 8 until)))

pub changed_grant : (ls : List ℕ) (r until id : ℕ) (cookie : List ℕ) (c : ℕ) → length cookie ≤ cookie_bytes
    → ChangedOnly (λ i. InField lease_bytes r 0 13 i ⊎ InField lease_bytes r 16 24 i) ls (grant ls r until id cookie c)
unfolding grant
changed_grant ls r until id cookie c h =
    let with-expiry = set_expiry ls r until in
    let with_id = set_id with-expiry r id in
    changed_both
    (same_trans
    (changed_at ls (lease_at r) (big_endian 8 until) (λ i l u. (omega arith, omega (arith, length-big_endian 8 until))))
    (same_trans
    (changed_at with-expiry (id_at r) (big_endian 4 id) (λ i l u. (omega arith, omega (arith, length-big_endian 4 id))))
    (changed_at with_id (holder_at r) (c ∷ []) (λ i l u. (omega arith, omega arith)))))
    (changed_at (set_holder with_id r c) (cookie_at r) cookie (λ i l u. (omega arith, omega arith)))

pub changed_renew : (ls : List ℕ) (r until c : ℕ)
    → ChangedOnly (λ i. InField lease_bytes r 0 8 i ⊎ InField lease_bytes r 12 1 i) ls (renew ls r until c)
unfolding renew
changed_renew ls r until c =
    changed_both
    (changed_expiry ls r until)
    (changed_at (set_expiry ls r until) (holder_at r) (c ∷ []) (λ i l u. (omega arith, omega arith)))

-- ---- the rows that a close gives back

module _ (c : ℕ) where
  -- the byte of a row that names the connection, among n rows from r on
  abbrev NamedIn : List ℕ → ℕ → ℕ → ℕ → Type 0
  NamedIn ls r n i = (k : ℕ) × (r ≤ k) × (k < r + n) × (holder ls k ≡ c) × (i ≡ holder_at k)

  -- after the first of them
  abbrev next : List ℕ → ℕ → List ℕ
  next ls r = if eqb (holder ls r) c then set_holder ls r nobody else ls

  next-other : (ls : List ℕ) (r k : ℕ) → r < k → holder (next ls r) k ≡ holder ls k
  next-other ls r k l =
      by-holder (λ l. holder l k ≡ holder ls k) ls c r nobody (byte_beside ls (holder_at r) (nobody ∷ []) (holder_at k) (λ u. omega arith)) refl

  next-only : (ls : List ℕ) (r n : ℕ) → ChangedOnly (NamedIn ls r (suc n)) ls (next ls r)
  next-only ls r n = go (eqb (holder ls r) c) refl
    where
      go : (x : Bool) → eqb (holder ls r) c ≡ x → ChangedOnly (NamedIn ls r (suc n)) ls (if x then set_holder ls r nobody else ls)
      go true e =
          changed_at ls (holder_at r) (nobody ∷ []) (λ i l u. (r, omega arith, omega arith, eqb-true (holder ls r) c e, omega arith))
      go false e = same_refl ls

  pub release-only : (n : ℕ) (ls : List ℕ) (r : ℕ) → ChangedOnly (NamedIn ls r n) ls (release_from ls c r n)
  unfolding release_from
  release-only zero ls r = same_refl ls
  release-only (suc n) ls r =
      same_trans
      (next-only ls r n)
      (changed_more
      (λ i q. (q.0, omega (arith, q.1), omega (arith, q.2), sym (next-other ls r q.0 q.1) ∙ q.3, q.4))
      (release-only n (next ls r) (suc r)))

  pub given_back : (n : ℕ) (ls : List ℕ) (r : ℕ) → length ls ≡ leases_size → r + n ≤ row_count
      → (k : ℕ) → r ≤ k → k < r + n → holder ls k ≡ c → holder (release_from ls c r n) k ≡ nobody
  unfolding release_from
  given_back zero ls r size top k l u e = absurd (omega arith)
  given_back (suc n) ls r size top k l u e = go (ℕ_discrete k r) (given_back n (next ls r) (suc r) long (omega arith) k)
    where
      long : length (next ls r) ≡ leases_size
      long = by-holder (λ l. length l ≡ leases_size) ls c r nobody (length-put ls (holder_at r) (nobody ∷ []) ∙ size) size

      here : holder ls r ≡ c → holder (next ls r) r ≡ nobody
      here e = rw (eq-eqb (holder ls r) c e) (byte_put ls (holder_at r) nobody (omega arith))

      -- the rows behind it leave it alone
      stays : holder (release_from (next ls r) c (suc r) n) r ≡ holder (next ls r) r
      stays = sym ((release-only n (next ls r) (suc r)).at (holder_at r) (λ q. omega (arith, q.1, q.4)))

      go : Dec (k ≡ r)
          → (suc r ≤ k → k < suc r + n → holder (next ls r) k ≡ c → holder (release_from (next ls r) c (suc r) n) k ≡ nobody)
          → holder (release_from (next ls r) c (suc r) n) k ≡ nobody
      go (yes s) rest = rw s (stays ∙ here (rw s at e))
      go (no d) rest = rest (omega arith) (omega arith) (next-other ls r k (omega arith) ∙ e)
