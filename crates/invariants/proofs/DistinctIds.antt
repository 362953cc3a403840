-- Live ids stay distinct, whatever is written to lease rows. Assumes nothing.
use Prim.Native.Nat.{ℕ, zero, suc, ◌+◌, ◌≤◌, ◌<◌}
use mathlib.Core.Path.{◌≡◌, refl, sym, ap, ◌∙◌}
use mathlib.Core.Logic.{◌≢◌}
use mathlib.Core.Bool.{true, false, true≢false}
use mathlib.Core.List.{List, [], ◌∷◌, append-nil}
use native.Mathlib.Omega.{arith}
use native.Mathlib.Decide.{ℕ_discrete}
use lib.Dec.{ltb, lit≤}
use lib.ListN.{length}
use borrow.Author.Tests.{eq-eqb, ltb-true, lt-ltb}
use Rattle.octets.specs.Octets.{big_endian, number_from, number, part, number_at}
use Rattle.octets.proofs.Numbers.{length-big_endian}
use Rattle.svsc.specs.Messages.{cookie_bytes}
use Rattle.rules.specs.Sizes.{row_count, rows_per_partner, lease_bytes, leases_size, id_limit}
use Rattle.rules.specs.Searches.{first_row}
use Rattle.rules.specs.Tables.{partner_of, lease_at, id_at, holder_at, expiry, id_of, live, live_with_id, set_expiry, set_holder, records, fresh_lease, fresh}
use Rattle.rules.specs.Leases.{id_taken, grant, renew, release_from, release}
use Rattle.rules.specs.Bytes.{lease_record}
use Rattle.invariants.specs.Invariants.{DistinctIds}
use Rattle.rules.proofs.Searches.{none_passes}
use Rattle.rules.proofs.Records.{field-same, number-beside}
use Rattle.rules.proofs.Allowances.{part-records}
use Rattle.rules.proofs.Rows.{kept-expiry, kept-grant, kept-renew, by-holder, id_granted, id_renewed}

-- ---- a row that is as it was

module _ (ls ms : List ℕ) (r : ℕ) (e : lease_record ms r ≡ lease_record ls r) where
  pub expiry-same : expiry ms r ≡ expiry ls r
  unfolding expiry number_at
  expiry-same = let z : lease_at r + 0 ≡ lease_at r = omega arith in ap number (rw z at (field-same lease_bytes r ls ms e 0 8 (lit≤ tt)))

  id_same : id_of ms r ≡ id_of ls r
  unfolding id_of number_at
  id_same = ap number (field-same lease_bytes r ls ms e 8 4 (lit≤ tt))

live_same : (ls ms : List ℕ) (now r : ℕ) → expiry ms r ≡ expiry ls r → live ms now r ≡ live ls now r
unfolding live
live_same ls ms now r e = rw e

-- ---- live ids are distinct

-- A row that is live later is live now.
pub distinct_later : (ls : List ℕ) (now later : ℕ) → now ≤ later → DistinctIds ls now → DistinctIds ls later
unfolding live
distinct_later ls now later l d r s r< s< h k e = d r s r< s< (earlier r h) (earlier s k) e
  where
    earlier : (r : ℕ) → ltb later (expiry ls r) ≡ true → ltb now (expiry ls r) ≡ true
    earlier r h = lt-ltb now (expiry ls r) (omega (arith, ltb-true later (expiry ls r) h))

module _ (ls ms : List ℕ) (now : ℕ) (d : DistinctIds ls now) where
  -- no row becomes live, and those that are live keep their ids
  distinct_kept : ((r : ℕ) → live ms now r ≡ true → (live ls now r ≡ true) × (id_of ms r ≡ id_of ls r)) → DistinctIds ms now
  distinct_kept f r s r< s< h k e = d r s r< s< (f r h).0 (f s k).0 (sym (f r h).1 ∙ e ∙ (f s k).1)

  -- one row gets, or has, an id that no other live row has
  distinct_new : (row id : ℕ) → id_of ms row ≡ id → ((r : ℕ) → r < row_count → r ≢ row → live_with_id ls now id r ≡ false)
      → ((r : ℕ) → r ≢ row → lease_record ms r ≡ lease_record ls r) → DistinctIds ms now
  unfolding live_with_id
  distinct_new row id e free same r s r< s< h k q = go (ℕ_discrete r row) (ℕ_discrete s row)
    where
      before : (r : ℕ) → r ≢ row → live ms now r ≡ true → live ls now r ≡ true
      before r n h = sym (live_same ls ms now r (expiry-same ls ms r (same r n))) ∙ h

      -- another live row with the new id
      never : (r : ℕ) → r < row_count → r ≢ row → live ms now r ≡ true → id_of ms r ≡ id → ⊥
      never r r< n h q =
          let i : id_of ls r ≡ id = sym (id_same ls ms r (same r n)) ∙ q in
          true≢false (sym (rw (before r n h, eq-eqb (id_of ls r) id i)) ∙ free r r< n)

      go : Dec (r ≡ row) → Dec (s ≡ row) → r ≡ s
      go (yes a) (yes b) = a ∙ sym b
      go (yes a) (no b) = absurd (never s s< b k (sym q ∙ ap (id_of ms) a ∙ e))
      go (no a) (yes b) = absurd (never r r< a h (q ∙ ap (id_of ms) b ∙ e))
      go (no a) (no b) =
          d r s r< s< (before r a h) (before s b k)
          (sym (id_same ls ms r (same r a)) ∙ q ∙ id_same ls ms s (same s b))

module _ (ls : List ℕ) (now : ℕ) (d : DistinctIds ls now) where
  pub distinct_grant : (row until id : ℕ) (cookie : List ℕ) (c : ℕ) → length ls ≡ leases_size → row < row_count → id < id_limit
      → id_taken ls now id ≡ false → length cookie ≤ cookie_bytes → DistinctIds (grant ls row until id cookie c) now
  unfolding id_taken
  distinct_grant row until id cookie c size row< small free l =
      distinct_new ls (grant ls row until id cookie c) now d row id (id_granted ls row until id cookie c size row< small)
      (λ r r< n. none_passes (live_with_id ls now id) 0 row_count free r (omega arith) r<)
      (λ r n. (kept-grant {Other = λ r. r ≢ row} ls row until id cookie c (λ n. n refl) l).at r n)

  pub distinct_renew : (row until c : ℕ) → ((r : ℕ) → r < row_count → r ≢ row → live_with_id ls now (id_of ls row) r ≡ false)
      → DistinctIds (renew ls row until c) now
  distinct_renew row until c alone =
      distinct_new ls (renew ls row until c) now d row (id_of ls row) (id_renewed ls row until c) alone
      (λ r n. (kept-renew {Other = λ r. r ≢ row} ls row until c (λ n. n refl)).at r n)

  pub distinct_extend : (row until : ℕ) → live ls now row ≡ true → DistinctIds (set_expiry ls row until) now
  unfolding id_of
  distinct_extend row until alive = distinct_kept ls (set_expiry ls row until) now d (λ r h. (before r h (ℕ_discrete r row), id r))
    where
      id : (r : ℕ) → number_at (set_expiry ls row until) (id_at r) 4 ≡ number_at ls (id_at r) 4
      id r = number-beside ls (lease_at row) (big_endian 8 until) (id_at r) 4 (λ l. omega (arith, length-big_endian 8 until))

      before : (r : ℕ) → live (set_expiry ls row until) now r ≡ true → Dec (r ≡ row) → live ls now r ≡ true
      before r h (yes e) = rw e alive
      before r h (no n) =
          let stays = (kept-expiry {Other = λ r. r ≢ row} ls row (λ n. n refl) until).at r n in
          sym (live_same ls (set_expiry ls row until) now r (expiry-same ls (set_expiry ls row until) r stays)) ∙ h

-- a released row keeps its expiry and its id
module _ (k : ℕ) where
  abbrev Keeps : List ℕ → List ℕ → Type 0
  Keeps ls ms = (expiry ms k ≡ expiry ls k) × (id_of ms k ≡ id_of ls k)

  holder-beside : (ls : List ℕ) (r c : ℕ) → Keeps ls (set_holder ls r c)
  unfolding expiry id_of
  holder-beside ls r c = (
    number-beside ls (holder_at r) (c ∷ []) (lease_at k) 8 (λ l. omega arith),
    number-beside ls (holder_at r) (c ∷ []) (id_at k) 4 (λ l. omega arith),
  )

  pub release_keeps : (n : ℕ) (ls : List ℕ) (c r : ℕ) → Keeps ls (release_from ls c r n)
  unfolding release_from
  release_keeps zero ls c r = (refl, refl)
  release_keeps (suc n) ls c r =
      let a = by-holder (λ l. Keeps ls l) ls c r _ (holder-beside ls r _) (refl, refl) in
      let b = release_keeps n _ c (suc r) in
      (b.0 ∙ a.0, b.1 ∙ a.1)

pub distinct_release : (ls : List ℕ) (now c : ℕ) → DistinctIds ls now → DistinctIds (release ls c) now
unfolding release
distinct_release ls now c d =
    distinct_kept ls _ now d
    (λ r h.
    let k = release_keeps r rows_per_partner ls c (first_row (partner_of c)) in
    (sym (live_same ls _ now r k.0) ∙ h, k.1))

-- no row of a fresh table is live
pub fresh-expiry : (r : ℕ) → r < row_count → number_at (records row_count fresh_lease) (lease_at r) 8 ≡ 0
unfolding number_at number number_from part
fresh-expiry r r< =
    let z : lease_at r + 0 ≡ lease_at r = omega arith in
    ap number
    (rw (z, append-nil (records row_count fresh_lease)) at (part-records fresh_lease [] 0 8 (lit≤ tt) row_count r r<))

pub distinct_fresh : (t term now : ℕ) → DistinctIds (fresh t term).leases now
unfolding live expiry fresh
distinct_fresh t term now r s r< s< h k e = absurd (omega (arith, ltb-true now _ h, fresh-expiry r r<))
