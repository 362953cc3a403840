-- Lease rows: what each writing leaves in its own row and in the others. Assumes nothing.
use Rattle.std.specs.Prelude.{if◌then◌else◌}
use Prim.Native.Nat.{ℕ, zero, suc, ◌+◌, ◌^◌, ◌≤◌, ◌<◌}
use mathlib.Core.Path.{◌≡◌, sym, ap, ◌∙◌}
use mathlib.Core.Bool.{Bool, true, false}
use mathlib.Core.List.{List, [], ◌∷◌}
use native.Mathlib.Nat.{lt_of_lt_of_le}
use native.Mathlib.Omega.{arith}
use lib.Dec.{eqb, lit≤}
use lib.ListN.{length}
use Rattle.octets.specs.Octets.{big_endian, part}
use Rattle.octets.proofs.Numbers.{length-big_endian}
use Rattle.octets.proofs.Stores.{length-put, part-put, number_at-put, number_at-before}
use Rattle.svsc.specs.Messages.{cookie_bytes}
use Rattle.rules.specs.Sizes.{row_count, lease_bytes, leases_size, id_limit}
use Rattle.rules.specs.Tables.{lease_at, id_at, holder_at, cookie_at, expiry, id_of, holder, cookie_of, set_expiry, set_id, set_holder, set_cookie}
use Rattle.rules.specs.Leases.{grant, renew, release_from}
use Rattle.rules.specs.Effects.{LeaseRow}
use Rattle.rules.proofs.Records.{Kept, kept_same, kept_trans, kept_put, part-beside, number-beside, byte_beside, byte_put}

-- ---- the rows that are left

module _ {Other : ℕ → Type 0} (ls : List ℕ) (r : ℕ) (mine : Other r → ⊥) where
  pub kept-expiry : (until : ℕ) → Kept lease_bytes Other ls (set_expiry ls r until)
  kept-expiry until = kept_put ls r (lease_at r) (big_endian 8 until) mine (omega arith) (omega (arith, length-big_endian 8 until))

  pub kept-holder : (c : ℕ) → Kept lease_bytes Other ls (set_holder ls r c)
  kept-holder c = kept_put ls r (holder_at r) (c ∷ []) mine (omega arith) (omega arith)

  kept_id : (id : ℕ) → Kept lease_bytes Other ls (set_id ls r id)
  kept_id id = kept_put ls r (id_at r) (big_endian 4 id) mine (omega arith) (omega (arith, length-big_endian 4 id))

  kept-cookie : (cookie : List ℕ) → length cookie ≤ cookie_bytes → Kept lease_bytes Other ls (set_cookie ls r cookie)
  kept-cookie cookie h = kept_put ls r (cookie_at r) cookie mine (omega arith) (omega arith)

pub kept-grant : {Other : ℕ → Type 0} (ls : List ℕ) (r until id : ℕ) (cookie : List ℕ) (c : ℕ) → (Other r → ⊥) → length cookie ≤ cookie_bytes
    → Kept lease_bytes Other ls (grant ls r until id cookie c)
unfolding grant
kept-grant ls r until id cookie c mine h =
    kept_trans
    (kept-expiry ls r mine until)
    (kept_trans (kept_id (set_expiry ls r until) r mine id)
    (kept_trans (kept-holder (set_id (set_expiry ls r until) r id) r mine c)
    (kept-cookie (set_holder (set_id (set_expiry ls r until) r id) r c) r mine cookie h)))

pub kept-renew : {Other : ℕ → Type 0} (ls : List ℕ) (r until c : ℕ) → (Other r → ⊥) → Kept lease_bytes Other ls (renew ls r until c)
unfolding renew
kept-renew ls r until c mine = kept_trans (kept-expiry ls r mine until) (kept-holder (set_expiry ls r until) r mine c)

-- the rows of one partner, one by one
pub by-holder : (P : List ℕ → Type 0) (ls : List ℕ) (c r v : ℕ) → P (set_holder ls r v) → P ls
    → P (if eqb (holder ls r) c then set_holder ls r v else ls)
by-holder P ls c r v f g = go (eqb (holder ls r) c)
  where
    go : (x : Bool) → P (if x then set_holder ls r v else ls)
    go true = f
    go false = g

pub kept-release : {Other : ℕ → Type 0} (n : ℕ) (ls : List ℕ) (c r : ℕ) → ((k : ℕ) → r ≤ k → k < r + n → Other k → ⊥)
    → Kept lease_bytes Other ls (release_from ls c r n)
unfolding release_from
kept-release zero ls c r mine = kept_same ls
kept-release {Other} (suc n) ls c r mine =
    kept_trans
    (by-holder (λ l. Kept lease_bytes Other ls l) ls c r _ (kept-holder ls r (mine r (omega arith) (omega arith)) _) (kept_same ls))
    (kept-release n _ c (suc r) (λ k l u. mine k (omega arith) (omega arith)))

-- ---- the fields of a row

-- the row that is written
pub expiry-set : (ls : List ℕ) (r until : ℕ) → length ls ≡ leases_size → r < row_count → until < 256 ^ 8
    → expiry (set_expiry ls r until) r ≡ until
unfolding expiry
expiry-set ls r until size r< h = number_at-put ls (lease_at r) 8 until (omega arith) h

module _ (ls : List ℕ) (r until id : ℕ) (cookie : List ℕ) (c : ℕ) (size : length ls ≡ leases_size) (r< : r < row_count) where
  with-expiry : List ℕ
  with-expiry = set_expiry ls r until

  with_id : List ℕ
  with_id = set_id with-expiry r id

  with-holder : List ℕ
  with-holder = set_holder with_id r c

  size-expiry : length with-expiry ≡ leases_size
  unfolding with-expiry
  size-expiry = length-put ls (lease_at r) (big_endian 8 until) ∙ size

  size_id : length with_id ≡ leases_size
  unfolding with_id
  size_id = length-put with-expiry (id_at r) (big_endian 4 id) ∙ size-expiry

  size-holder : length with-holder ≡ leases_size
  unfolding with-holder
  size-holder = length-put with_id (holder_at r) (c ∷ []) ∙ size_id

  pub id_granted : id < id_limit → id_of (grant ls r until id cookie c) r ≡ id
  unfolding grant id_of with-holder with_id with-expiry
  id_granted small =
      number_at-before with-holder (cookie_at r) cookie (id_at r) 4 (omega arith)
      ∙ number_at-before with_id (holder_at r) (c ∷ []) (id_at r) 4 (omega arith)
      ∙ number_at-put with-expiry (id_at r) 4 id (omega (arith, size-expiry)) (lt_of_lt_of_le small (lit≤ tt))

  pub expiry-granted : until < 256 ^ 8 → expiry (grant ls r until id cookie c) r ≡ until
  unfolding grant expiry with-holder with_id with-expiry
  expiry-granted h =
      number_at-before with-holder (cookie_at r) cookie (lease_at r) 8 (omega arith)
      ∙ number_at-before with_id (holder_at r) (c ∷ []) (lease_at r) 8 (omega arith)
      ∙ number_at-before with-expiry (id_at r) (big_endian 4 id) (lease_at r) 8 (omega arith)
      ∙ expiry-set ls r until size r< h

  pub granted-row : until < 256 ^ 8 → id < id_limit → length cookie ≡ cookie_bytes
      → LeaseRow (grant ls r until id cookie c) r until id cookie c
  unfolding grant cookie_of with-holder with_id with-expiry
  granted-row h small long = record {
    expiry_is = expiry-granted h;
    id_is = id_granted small;
    cookie_is =
        ap (part (set_cookie with-holder r cookie) (cookie_at r)) (sym long)
        ∙ part-put with-holder (cookie_at r) cookie (omega (arith, size-holder));
    holder_is =
        byte_beside with-holder (cookie_at r) cookie (holder_at r) (λ l. absurd (omega arith))
        ∙ byte_put with_id (holder_at r) c (omega (arith, size_id));
  }

-- the row that is renewed
pub id_renewed : (ls : List ℕ) (r until c : ℕ) → id_of (renew ls r until c) r ≡ id_of ls r
unfolding renew id_of
id_renewed ls r until c =
    number-beside (set_expiry ls r until) (holder_at r) (c ∷ []) (id_at r) 4 (λ l. omega arith)
    ∙ number-beside ls (lease_at r) (big_endian 8 until) (id_at r) 4 (λ l. omega (arith, length-big_endian 8 until))

pub renewed-row : (ls : List ℕ) (r until c : ℕ) → length ls ≡ leases_size → r < row_count → until < 256 ^ 8
    → LeaseRow (renew ls r until c) r until (id_of ls r) (cookie_of ls r) c
unfolding renew expiry cookie_of
renewed-row ls r until c size r< h = record {
  expiry_is = number_at-before (set_expiry ls r until) (holder_at r) (c ∷ []) (lease_at r) 8 (omega arith) ∙ expiry-set ls r until size r< h;
  id_is = id_renewed ls r until c;
  cookie_is =
      part-beside (set_expiry ls r until) (holder_at r) (c ∷ []) (cookie_at r) cookie_bytes (λ l. omega arith)
      ∙ part-beside ls (lease_at r) (big_endian 8 until) (cookie_at r) cookie_bytes (λ l. omega (arith, length-big_endian 8 until));
  holder_is = byte_put (set_expiry ls r until) (holder_at r) c (omega (arith, length-put ls (lease_at r) (big_endian 8 until)));
}
