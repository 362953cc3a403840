-- What a call does to the map: to each bit, and that a map that agreed goes on agreeing. Assumes nothing.
use Rattle.std.specs.Prelude.{if◌then◌else◌}
use Prim.Native.Nat.{ℕ, ◌^◌, ◌<◌}
use mathlib.Core.Path.{◌≡◌, refl, sym, ap, ◌∙◌}
use mathlib.Core.Logic.{◌≢◌}
use mathlib.Core.Bool.{Bool, true, false, not, true≢false, false≢true}
use mathlib.Core.List.{List}
use native.Mathlib.Decide.{ℕ_discrete}
use lib.Dec.{eqb}
use borrow.Author.Tests.{eq-eqb, ne_eqb, eqb-true, not-false}
use Rattle.rules.specs.Sizes.{connection_count}
use Rattle.rules.specs.Tables.{Tables, is_closed}
use Rattle.rules.specs.Calls.{Call, opening, message, closing, keepalive, connection_of}
use Rattle.rules.specs.Checks.{wrong_state}
use Rattle.rules.specs.Step.{step}
use Rattle.rules.proofs.Checks.{passed}
use Rattle.rules.proofs.Answers.{refused-leaves-all, done_passed}
use Rattle.connection_map.specs.Bits.{is_set}
use Rattle.connection_map.specs.Maps.{Agrees, map_of_done, map_after}
use Rattle.connection_map.specs.Steps.{MappedOutcome, step_with_map}
use Rattle.connection_map.specs.Claims.{BitAfter, OnlyOpenedOrClosed}
use Rattle.connection_map.proofs.Bits.{with-exactly, without_exactly, with-fits, without_fits}
use Rattle.connection_map.proofs.States.{closed_after, right_state, states_after}

-- a bit that is left alone, and one that is written where the connection was not so before
untouched : (was bit : Bool) → BitAfter was was bit bit
untouched was bit = record {
  opened = λ h k. absurd (true≢false (sym h ∙ k));
  closed = λ h k. absurd (true≢false (sym k ∙ h));
  others = λ e. refl;
}

turned : (x b was bit : Bool) → (x ≡ true → was ≡ not b) → BitAfter was (if x then b else was) bit (if x then not b else bit)
turned false b was bit h = untouched was bit
turned true true was bit h = record {
  opened = λ w k. absurd (true≢false k);
  closed = λ w k. refl;
  others = λ e. absurd (false≢true (sym (h refl) ∙ e));
}
turned true false was bit h = record {
  opened = λ w k. refl;
  closed = λ w k. absurd (false≢true k);
  others = λ e. absurd (true≢false (sym (h refl) ∙ e));
}

-- what check 4 says of the caller, of a call on connection c
module _ (cs : List ℕ) (map c : ℕ) (b : Bool) (h : is_closed cs c ≡ not b) where
  at_caller : (k : ℕ) → eqb k c ≡ true → is_closed cs k ≡ not b
  at_caller k e = ap (is_closed cs) (eqb-true k c e) ∙ h

  turns : (k : ℕ) → BitAfter (is_closed cs k) (if eqb k c then b else is_closed cs k) (is_set map k) (if eqb k c then not b else is_set map k)
  turns k = turned (eqb k c) b (is_closed cs k) (is_set map k) (at_caller k)

done-bits : (cs : List ℕ) (call : Call) (d : Bool) (map k : ℕ) → wrong_state cs call ≡ false
    → BitAfter (is_closed cs k) (closed_after call d cs k) (is_set map k) (is_set (map_of_done call d map) k)
unfolding map_of_done wrong_state
done-bits cs (opening now c reply) d map k h = rw (with-exactly c map k) (turns cs map c false (not-false (is_closed cs c) h) k)
done-bits cs (message now c m random reply relay) true map k h = rw (without_exactly c map k) (turns cs map c true h k)
done-bits cs (message now c m random reply relay) false map k h = untouched (is_closed cs k) (is_set map k)
done-bits cs (closing now c relay) d map k h = rw (without_exactly c map k) (turns cs map c true h k)
done-bits cs (keepalive now c reply relay) true map k h = rw (without_exactly c map k) (turns cs map c true h k)
done-bits cs (keepalive now c reply relay) false map k h = untouched (is_closed cs k) (is_set map k)

-- and the map has no more bits than before
done-fits : (call : Call) (d : Bool) (map : ℕ) → connection_of call < connection_count → map < 2 ^ connection_count
    → map_of_done call d map < 2 ^ connection_count
unfolding map_of_done
done-fits (opening now c reply) d map c< h = with-fits connection_count c map c< h
done-fits (message now c m random reply relay) true map c< h = without_fits connection_count c map h
done-fits (message now c m random reply relay) false map c< h = h
done-fits (closing now c relay) d map c< h = without_fits connection_count c map h
done-fits (keepalive now c reply relay) true map c< h = without_fits connection_count c map h
done-fits (keepalive now c reply relay) false map c< h = h

-- a bit that told whether its connection is closed goes on telling
tells : (was is bit next : Bool) → BitAfter was is bit next → bit ≡ not was → next ≡ not is
tells true true bit next x h = x.others refl ∙ h
tells true false bit next x h = x.opened refl refl
tells false true bit next x h = x.closed refl refl
tells false false bit next x h = x.others refl ∙ h

module _ (tables : Tables) (map : ℕ) (call : Call) where
  abbrev o : MappedOutcome
  o = step_with_map tables map call

  -- What is answered and done is as without the map.
  pub as_without_map : o.outcome ≡ step tables call
  unfolding step_with_map
  as_without_map = refl

  -- A refused call gives back the map that it was lent;
  pub refused-leaves-map : (step tables call).answer.number ≢ 0 → o.map ≡ map
  unfolding step_with_map map_after
  refused-leaves-map n = rw (ne_eqb (step tables call).answer.number 0 n)

  -- one that is done does what its kind and its answer say.
  pub done-map : (step tables call).answer.number ≡ 0 → o.map ≡ map_of_done call (step tables call).answer.disconnect map
  unfolding step_with_map map_after
  done-map e = rw (eq-eqb (step tables call).answer.number 0 e)

  -- "A call changes only the bits of connections that it opens or closes": of every call and every map
  pub only-opened-or-closed : OnlyOpenedOrClosed tables.connections o.outcome.tables.connections map o.map
  only-opened-or-closed k = go (ℕ_discrete (step tables call).answer.number 0)
    where
      go : Dec ((step tables call).answer.number ≡ 0)
          → BitAfter (is_closed tables.connections k) (is_closed o.outcome.tables.connections k) (is_set map k) (is_set o.map k)
      go (yes e) =
          rw (done-map e, as_without_map, states_after tables call e k)
          (done-bits tables.connections call _ map k (right_state tables call (done_passed tables call e)))
      go (no n) = rw (refused-leaves-map n, as_without_map, refused-leaves-all tables call n) (untouched _ _)

  -- "if the map agreed before, it agrees after": of every call, refused or done
  pub agrees_after : Agrees map tables.connections → Agrees o.map o.outcome.tables.connections
  agrees_after a = record {
    bits = λ k l. tells _ _ _ _ (only-opened-or-closed k) (a.bits k l);
    no_others = fits (ℕ_discrete (step tables call).answer.number 0);
  }
    where
      fits : Dec ((step tables call).answer.number ≡ 0) → o.map < 2 ^ connection_count
      fits (yes e) = rw (done-map e) (done-fits call _ map (passed tables call (done_passed tables call e)).known a.no_others)
      fits (no n) = rw (refused-leaves-map n) a.no_others
