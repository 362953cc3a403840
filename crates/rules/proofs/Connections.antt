-- Connection records: what each writing leaves in its own record and in the others, and what two joined records hold. Assumes nothing.
use Rattle.std.specs.Prelude.{if◌then◌else◌}
use Prim.Native.Nat.{ℕ, zero, suc, ◌+◌, ◌≤◌, ◌<◌}
use mathlib.Core.Path.{◌≡◌, refl, sym, ap, ◌∙◌}
use mathlib.Core.Logic.{◌≢◌}
use mathlib.Core.Bool.{true, false, not, ◌&&◌}
use mathlib.Core.List.{List, [], ◌∷◌, ◌++◌}
use native.Mathlib.Omega.{arith}
use lib.Dec.{eqb, leb, lit≤}
use lib.ListN.{length, replicate, length-append, get_or-replicate}
use lib.Seq.{take_at, drop_at, take_all, drop-drop}
use borrow.Author.Tests.{eq-eqb, ne_eqb, eqb-true, eqb-false, not-true}
use Rattle.octets.specs.Octets.{byte_at, part}
use Rattle.octets.proofs.Tests.{both_left, both_right}
use Rattle.octets.proofs.Stores.{length-put, part-put}
use Rattle.svsc.specs.Messages.{key_bytes}
use Rattle.rules.specs.Sizes.{connection_count, connection_bytes, connections_size, nobody}
use Rattle.rules.specs.Tables.{partner_of, connection_at, peer_at, keys_at, keys_bytes, opened, closed, awaiting, state, is_open, peer, in_session, has_session, session_id_of, peer_id_of, peer_key_of, set_state, set_peer, fresh_connection}
use Rattle.rules.specs.Sessions.{clear, await, join, leave, end_session}
use Rattle.rules.specs.Bytes.{connection_record}
use Rattle.rules.specs.Effects.{FreshBut, Cleared}
use Rattle.rules.proofs.Records.{Kept, kept_trans, kept_put, length-part-most, part-part, byte_part, field-same, byte_same, byte_beside, byte_put}

-- ---- the fields of a record, from its bytes

module _ (cs ds : List ℕ) (c : ℕ) (e : connection_record ds c ≡ connection_record cs c) where
  pub peer-same : peer ds c ≡ peer cs c
  peer-same = byte_same connection_bytes c cs ds e 1 (lit≤ tt)

  pub state-same : state ds c ≡ state cs c
  unfolding state
  state-same =
      let z : connection_at c + 0 ≡ connection_at c = omega arith in
      ap (λ (s : ℕ). if leb s opened then s else closed) (rw z at (byte_same connection_bytes c cs ds e 0 (lit≤ tt)))

  pub keys_same : part ds (keys_at c) keys_bytes ≡ part cs (keys_at c) keys_bytes
  keys_same = field-same connection_bytes c cs ds e 16 keys_bytes (lit≤ tt)

-- ---- the records that are left

module _ {Other : ℕ → Type 0} (cs : List ℕ) (c : ℕ) (mine : Other c → ⊥) where
  pub kept-clear : Kept connection_bytes Other cs (clear cs c)
  unfolding clear
  kept-clear = kept_put cs c (connection_at c) fresh_connection mine (omega arith) (omega arith)

  pub kept-state : (s : ℕ) → Kept connection_bytes Other cs (set_state cs c s)
  kept-state s = kept_put cs c (connection_at c) (s ∷ []) mine (omega arith) (omega arith)

  pub kept-join : (other : ℕ) (keys : List ℕ) → length keys ≤ keys_bytes → Kept connection_bytes Other cs (join cs c other keys)
  unfolding join
  kept-join other keys l =
      kept_trans
      (kept_put cs c (peer_at c) (other ∷ []) mine (omega arith) (omega arith))
      (kept_put (set_peer cs c other) c (keys_at c) keys mine (omega arith) (omega arith))

pub kept-await : {Other : ℕ → Type 0} (cs : List ℕ) (c : ℕ) → (Other c → ⊥) → Kept connection_bytes Other cs (await cs c)
unfolding await
kept-await cs c mine = kept_trans (kept-clear cs c mine) (kept-state (clear cs c) c mine awaiting)

-- ---- the record that is written

module _ (cs : List ℕ) (c : ℕ) (size : length cs ≡ connections_size) (c< : c < connection_count) where
  peer-join : (other : ℕ) (keys : List ℕ) → peer (join cs c other keys) c ≡ other
  unfolding join
  peer-join other keys =
      byte_beside (set_peer cs c other) (keys_at c) keys (peer_at c) (λ l. absurd (omega arith))
      ∙ byte_put cs (peer_at c) other (omega arith)

  keys_join : (other : ℕ) (keys : List ℕ) → length keys ≡ keys_bytes → part (join cs c other keys) (keys_at c) keys_bytes ≡ keys
  unfolding join
  keys_join other keys l =
      ap (part (join cs c other keys) (keys_at c)) (sym l)
      ∙ part-put (set_peer cs c other) (keys_at c) keys (omega (arith, length-put cs (peer_at c) (other ∷ [])))

  pub cleared_record : connection_record (clear cs c) c ≡ fresh_connection
  unfolding clear
  cleared_record = part-put cs (connection_at c) fresh_connection (omega arith)

-- the bytes of a fresh record, one by one, and of a record that is fresh but for its state
fresh_byte_lem : (i : ℕ) → i < connection_bytes → byte_at fresh_connection i ≡ (if eqb i 0 then 0 else if eqb i 1 then 255 else 0)
fresh_byte_lem zero l = refl
fresh_byte_lem (suc zero) l = refl
fresh_byte_lem (suc (suc i)) l =
    rw (ne_eqb (suc (suc i)) 0 (λ e. omega arith), ne_eqb (suc (suc i)) 1 (λ e. omega arith)) (get_or-replicate 62 i 0 0 (omega arith))

pub fresh_record : (cs : List ℕ) (c : ℕ) → connection_record cs c ≡ fresh_connection → FreshBut 0 cs c
fresh_record cs c e i l =
    sym (byte_part cs (connection_at c) connection_bytes i l) ∙ ap (λ (r : List ℕ). byte_at r i) e ∙ fresh_byte_lem i l

pub await-fresh : (cs : List ℕ) (c : ℕ) → length cs ≡ connections_size → c < connection_count → FreshBut 1 (await cs c) c
unfolding await
await-fresh cs c size c< zero l =
    let z : connection_at c + 0 ≡ connection_at c = omega arith in
    rw z (byte_put (clear cs c) (connection_at c) awaiting (unfold clear in omega (arith, length-put cs (connection_at c) fresh_connection)))
await-fresh cs c size c< (suc i) l =
    let n : eqb (suc i) 0 ≡ false = ne_eqb (suc i) 0 (λ e. omega arith) in
    byte_beside (clear cs c) (connection_at c) (awaiting ∷ []) (connection_at c + suc i) (λ u. omega arith)
    ∙ fresh_record (clear cs c) c (cleared_record cs c size c<) (suc i) l
    ∙ rw n

pub length-join : (cs : List ℕ) (c other : ℕ) (keys : List ℕ) → length (join cs c other keys) ≡ length cs
unfolding join
length-join cs c other keys = length-put (set_peer cs c other) (keys_at c) keys ∙ length-put cs (peer_at c) (other ∷ [])

state-join : (cs : List ℕ) (c other : ℕ) (keys : List ℕ) → state (join cs c other keys) c ≡ state cs c
unfolding state join
state-join cs c other keys =
    ap (λ (s : ℕ). if leb s opened then s else closed)
    (byte_beside (set_peer cs c other) (keys_at c) keys (connection_at c) (λ l. absurd (omega arith))
    ∙ byte_beside cs (peer_at c) (other ∷ []) (connection_at c) (λ l. absurd (omega arith)))

-- ---- two records, joined one after the other: of a session that begins, and of one that ends

pub record Joined (cs ds : List ℕ) (c a : ℕ) (keys : List ℕ) : Type 0 where
  pub state_is : state ds c ≡ state cs c
  pub peer_is : peer ds c ≡ a
  pub keys_are : part ds (keys_at c) keys_bytes ≡ keys

module _
    (cs : List ℕ) (c d a b : ℕ) (k l : List ℕ)
    (size : length cs ≡ connections_size) (c< : c < connection_count) (d< : d < connection_count) (apart : c ≢ d)
    (hk : length k ≡ keys_bytes) (hl : length l ≡ keys_bytes)
  where
    one : List ℕ
    one = join cs c a k

    both : List ℕ
    both = join one d b l

    size-one : length one ≡ connections_size
    unfolding one
    size-one = length-join cs c a k ∙ size

    first-stays : connection_record both c ≡ connection_record one c
    unfolding both
    first-stays = (kept-join {Other = λ x. x ≢ d} one d (λ n. n refl) b l (omega arith)).at c apart

    second-stays : connection_record one d ≡ connection_record cs d
    unfolding one
    second-stays = (kept-join {Other = λ x. x ≢ c} cs c (λ n. n refl) a k (omega arith)).at d (λ e. apart (sym e))

    pub joined-first : Joined cs (join (join cs c a k) d b l) c a k
    unfolding one both
    joined-first = record {
      state_is = state-same one both c first-stays ∙ state-join cs c a k;
      peer_is = peer-same one both c first-stays ∙ peer-join cs c size c< a k;
      keys_are = keys_same one both c first-stays ∙ keys_join cs c size c< a k hk;
    }

    pub joined-second : Joined cs (join (join cs c a k) d b l) d b l
    unfolding one both
    joined-second = record {
      state_is = state-join one d b l ∙ state-same cs one d second-stays;
      peer_is = peer-join one d size-one d< b l;
      keys_are = keys_join one d size-one d< b l hl;
    }

pub joined-others : {Other : ℕ → Type 0} (cs : List ℕ) (c d a b : ℕ) (k l : List ℕ) → (Other c → ⊥) → (Other d → ⊥) → length k ≤ keys_bytes
    → length l ≤ keys_bytes → Kept connection_bytes Other cs (join (join cs c a k) d b l)
joined-others cs c d a b k l nc nd hk hl = kept_trans (kept-join cs c nc a k hk) (kept-join (join cs c a k) d nd b l hl)

-- ---- three keys in a row

pub record ThreeKeys (cs : List ℕ) (c : ℕ) (s p k : List ℕ) : Type 0 where
  pub session : session_id_of cs c ≡ s
  pub peer_id : peer_id_of cs c ≡ p
  pub peer_key : peer_key_of cs c ≡ k

-- of random bytes, however few
pub keys_most : (random : List ℕ) (a b : ℕ)
    → length (part random 0 key_bytes ++ (part random a key_bytes ++ part random b key_bytes)) ≤ keys_bytes
keys_most random a b =
    simp length-append
    (omega (arith, length-part-most random 0 key_bytes, length-part-most random a key_bytes, length-part-most random b key_bytes))

module _ (s p k : List ℕ) (hs : length s ≡ key_bytes) (hp : length p ≡ key_bytes) (hk : length k ≡ key_bytes) where
  pub all_keys : length (s ++ (p ++ k)) ≡ keys_bytes
  all_keys = omega (arith, length-append s (p ++ k), length-append p k)

  first_key : part (s ++ (p ++ k)) 0 key_bytes ≡ s
  unfolding part
  first_key = take_at s (p ++ k) key_bytes hs

  second_key : part (s ++ (p ++ k)) key_bytes key_bytes ≡ p
  unfolding part
  second_key = rw (drop_at s (p ++ k) key_bytes hs) (take_at p k key_bytes hp)

  third_key : part (s ++ (p ++ k)) (key_bytes + key_bytes) key_bytes ≡ k
  unfolding part
  third_key =
      rw (← drop-drop key_bytes key_bytes (s ++ (p ++ k)), drop_at s (p ++ k) key_bytes hs, drop_at p k key_bytes hp)
      (take_all key_bytes k (omega arith))

  -- as they stand in a record
  module _ (cs : List ℕ) (c : ℕ) (e : part cs (keys_at c) keys_bytes ≡ s ++ (p ++ k)) where
    key_at : (i : ℕ) → i + key_bytes ≤ keys_bytes → part cs (keys_at c + i) key_bytes ≡ part (s ++ (p ++ k)) i key_bytes
    key_at i h = sym (part-part cs (keys_at c) keys_bytes i key_bytes h) ∙ ap (λ (l : List ℕ). part l i key_bytes) e

    pub three_keys : ThreeKeys cs c s p k
    three_keys =
        let z : keys_at c + 0 ≡ keys_at c = omega arith in
        let w : keys_at c + (key_bytes + key_bytes) ≡ keys_at c + key_bytes + key_bytes = omega arith in
        record {
          session = (rw z at (key_at 0 (lit≤ tt))) ∙ first_key;
          peer_id = key_at key_bytes (lit≤ tt) ∙ second_key;
          peer_key = (rw w at (key_at (key_bytes + key_bytes) (lit≤ tt))) ∙ third_key;
        }

-- ---- sessions

-- what a session says of the two
pub record Paired (cs : List ℕ) (c d : ℕ) : Type 0 where
  pub of_one : partner_of c ≡ partner_of d
  pub differ : c ≢ d
  pub opened_first : is_open cs c ≡ true
  pub opened_second : is_open cs d ≡ true
  pub names_first : peer cs c ≡ d
  pub names_second : peer cs d ≡ c

pub paired : (cs : List ℕ) (c d : ℕ) → in_session cs c d ≡ true → Paired cs c d
unfolding in_session
paired cs c d h =
    let rest = both_right (eqb (partner_of c) (partner_of d)) _ h in
    let four = both_left _ (eqb (peer cs d) c) rest in
    let three = both_left _ (eqb (peer cs c) d) four in
    let two = both_left _ (is_open cs d) three in
    record {
      of_one = eqb-true _ _ (both_left (eqb (partner_of c) (partner_of d)) _ h);
      differ = eqb-false c d (not-true (eqb c d) (both_left _ (is_open cs c) two));
      opened_first = both_right (not (eqb c d)) (is_open cs c) two;
      opened_second = both_right (not (eqb c d) && is_open cs c) (is_open cs d) three;
      names_first = eqb-true _ _ (both_right (not (eqb c d) && is_open cs c && is_open cs d) (eqb (peer cs c) d) four);
      names_second = eqb-true _ _ (both_right (not (eqb c d) && is_open cs c && is_open cs d && eqb (peer cs c) d) (eqb (peer cs d) c) rest);
    }

pub in_session_lem : (cs : List ℕ) (c d : ℕ) → Paired cs c d → in_session cs c d ≡ true
unfolding in_session
in_session_lem cs c d h =
    rw (
      eq-eqb (partner_of c) (partner_of d) h.of_one,
      ne_eqb c d h.differ,
      h.opened_first,
      h.opened_second,
      eq-eqb (peer cs c) d h.names_first,
      eq-eqb (peer cs d) c h.names_second,
    )

-- a connection's session is with the one that it names
pub session_with : (cs : List ℕ) (c d : ℕ) → in_session cs c d ≡ true → has_session cs c ≡ true
unfolding has_session
session_with cs c d h = rw (paired cs c d h).names_first h

-- ---- a session that ends

module _
    (cs : List ℕ) (c d : ℕ) (size : length cs ≡ connections_size) (c< : c < connection_count) (d< : d < connection_count) (apart : c ≢ d)
  where
    pub end_clears_second : Cleared (end_session cs c d) d
    unfolding end_session leave
    end_clears_second =
        let j = joined-second cs c d nobody nobody (replicate keys_bytes 0) (replicate keys_bytes 0) size c< d< apart refl refl in
        record { peer_none = j.peer_is; keys_zero = j.keys_are }

    pub end_clears_first : Cleared (end_session cs c d) c
    unfolding end_session leave
    end_clears_first =
        let j = joined-first cs c d nobody nobody (replicate keys_bytes 0) (replicate keys_bytes 0) size c< d< apart refl refl in
        record { peer_none = j.peer_is; keys_zero = j.keys_are }

pub length-end : (cs : List ℕ) (c d : ℕ) → length (end_session cs c d) ≡ length cs
unfolding end_session leave
length-end cs c d = length-join (leave cs c) d nobody (replicate keys_bytes 0) ∙ length-join cs c nobody (replicate keys_bytes 0)

pub kept-end : {Other : ℕ → Type 0} (cs : List ℕ) (c d : ℕ) → (Other c → ⊥) → (Other d → ⊥)
    → Kept connection_bytes Other cs (end_session cs c d)
unfolding end_session leave
kept-end cs c d nc nd = joined-others cs c d nobody nobody (replicate keys_bytes 0) (replicate keys_bytes 0) nc nd (lit≤ tt) (lit≤ tt)
