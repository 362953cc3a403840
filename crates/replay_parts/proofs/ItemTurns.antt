-- A turn by what was read is the turn at the place. Assumes nothing.
use Prim.Native.Nat.{ℕ, ◌+◌, ◌-◌, ◌<◌}
use mathlib.Core.Path.{◌≡◌, refl, sym, ap, ◌∙◌}
use mathlib.Core.Bool.{Bool, true, false}
use mathlib.Core.List.{List}
use native.Mathlib.Omega.{arith}
use lib.Dec.{leb, ltb}
use lib.ListN.{length}
use borrow.Author.Tests.{leb-true, leb-false, ltb-true, ltb-false, le-leb, lt-leb}
use Rattle.journal.specs.Records.{record_bytes}
use Rattle.journal.specs.Replays.{Ledger}
use Rattle.journal_records.specs.declared.Item.{Item}
use Rattle.journal_records.specs.Items.{item_at}
use Rattle.replay_parts.specs.ItemTurns.{passes_item, taken_item}
use Rattle.replay_parts.specs.Turns.{passes, taken}

module _ {State : Type 0} (L : Ledger State) (j : List ℕ) (place : ℕ) (s : State) where
  pub record SameTurn : Type 0 where
    pub passing : passes_item L (item_at j place) s ≡ passes L j place s
    pub taking : taken_item L (item_at j place) s ≡ taken L j place s

  pub same_turn : SameTurn
  unfolding item_at passes taken
  same_turn = go (leb (length j) place) (ltb (length j - place) record_bytes) refl refl
    where
      short : length j < place + record_bytes → leb (place + record_bytes) (length j) ≡ false
      short h = lt-leb _ _ h

      go : (a b : Bool) → leb (length j) place ≡ a → ltb (length j - place) record_bytes ≡ b → SameTurn
      go true b p q =
          let none = short (omega (arith, leb-true (length j) place p)) in
          record { passing = rw (p, none); taking = rw (p, none) }
      go false true p q =
          let none = short (omega (arith, leb-false (length j) place p, ltb-true (length j - place) record_bytes q)) in
          record { passing = rw (p, q, none); taking = rw (p, q, none) }
      go false false p q =
          let whole = le-leb (place + record_bytes) (length j) (omega (arith, leb-false (length j) place p, ltb-false (length j - place) record_bytes q)) in
          record { passing = rw (p, q, whole); taking = rw (p, q, whole) }

  -- i was read at the place, and told apart as k
  pub turned : (i k : Item) → i ≡ item_at j place → i ≡ k → (b : Bool) (s' : State) → b ≡ passes_item L k s → s' ≡ taken_item L k s
      → (b ≡ passes L j place s) × (s' ≡ taken L j place s)
  turned i k e h b s' hb hs =
      let told : k ≡ item_at j place = sym h ∙ e in
      (hb ∙ ap (λ (x : Item). passes_item L x s) told ∙ same_turn.passing, hs ∙ ap (λ (x : Item). taken_item L x s) told ∙ same_turn.taking)
