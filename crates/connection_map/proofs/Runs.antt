-- Runs with the map: the map agrees at every moment, the tables are those of the run without it, and demand 3 holds. Assumes nothing.
use Rattle.std.specs.Prelude.{if◌then◌else◌}
use Prim.Native.Nat.{ℕ, zero, suc, ◌+◌, ◌<◌}
use mathlib.Core.Path.{◌≡◌, refl, sym, ap, ap₂, ◌∙◌}
use mathlib.Core.Logic.{◌≢◌}
use mathlib.Core.Bool.{true, not}
use mathlib.Core.List.{List, [], ◌∷◌}
use native.Mathlib.Omega.{arith}
use lib.Dec.{eqb, eqb-suc-zero, lit≤}
use lib.Pow.{pow_pos}
use borrow.Author.Tests.{eq-eqb, ne_eqb}
use Rattle.allowance.specs.History.{Entry}
use Rattle.allowance.specs.Meter.{Metered, Demand3, Fresh}
use Rattle.allowance.specs.Meter as meter
use Rattle.allowance.proofs.Demand3.{demand3}
use Rattle.rules.specs.Sizes.{connection_count}
use Rattle.rules.specs.Tables.{Tables, connection_at, state, is_closed, fresh}
use Rattle.rules.specs.Calls.{Call}
use Rattle.rules.specs.Checks.{check_start}
use Rattle.rules.specs.Step.{step, started, start}
use Rattle.rules.specs.Runs as unmapped
use Rattle.rules.proofs.Fresh.{fresh-connection}
use Rattle.rules.proofs.Metered.{relay_metered}
use Rattle.rules.proofs.Demand3.{started-fresh, start-is-fresh, relay_demand3}
use Rattle.connection_map.specs.Maps.{Agrees, map_of}
use Rattle.connection_map.specs.Steps.{Relay, left, step_with_map, start_with_map, mapped_meter, after}
use Rattle.connection_map.specs.Claims.{MappedDemand3}
use Rattle.connection_map.proofs.Bits.{past_clear}
use Rattle.connection_map.proofs.Calls.{refused-leaves-map, agrees_after}
use Rattle.connection_map.proofs.Rebuilding.{agrees-exactly}

-- ---- any relay

-- The tables are those of the same calls without a map.
pub run_tables : (calls : List Call) (relay : Relay) → (after relay calls).tables ≡ unmapped.after relay.tables calls
unfolding meter.after step_with_map
run_tables [] relay = refl
run_tables (call ∷ calls) relay = run_tables calls (left (step_with_map relay.tables relay.map call))

-- So is the history: what is answered doesn't depend on the map.
pub run_history : (calls : List Call) (relay : Relay) → meter.history mapped_meter relay calls ≡ unmapped.history relay.tables calls
unfolding meter.history meter.entry step_with_map
run_history [] relay = refl
run_history (call ∷ calls) relay =
    ap (λ (h : List Entry). meter.entry mapped_meter call (step relay.tables call).answer ∷ h)
    (run_history calls (left (step_with_map relay.tables relay.map call)))

-- A map that agreed before the calls agrees after them.
pub run_agrees : (calls : List Call) (relay : Relay) → Agrees relay.map relay.tables.connections
    → Agrees (after relay calls).map (after relay calls).tables.connections
unfolding meter.after
run_agrees [] relay a = a
run_agrees (call ∷ calls) relay a =
    run_agrees calls (left (step_with_map relay.tables relay.map call)) (agrees_after relay.tables relay.map call a)

-- ---- demand 3

-- what 01 says of one call, as of the relay without a map; a refused one leaves the map too
metered : Metered mapped_meter
unfolding step_with_map
metered = record {
  eight = λ r call. relay_metered.eight r.tables call;
  decided = λ r call. relay_metered.decided r.tables call;
  in_order = λ r call. relay_metered.in_order r.tables call;
  of_partner = λ r call. relay_metered.of_partner r.tables call;
  payable = λ r call. relay_metered.payable r.tables call;
  price_cost = λ r call. relay_metered.price_cost r.tables call;
  refused = λ r call n.
      ap₂ (λ (t : Tables) (m : ℕ). record { tables = t; map = m })
      (relay_metered.refused r.tables call n)
      (refused-leaves-map r.tables r.map call n);
  clocked = λ r call. relay_metered.clocked r.tables call;
  stored = λ r call. relay_metered.stored r.tables call;
}

all : Demand3 mapped_meter
all = demand3 mapped_meter metered

-- ---- from a fresh start

fresh-closed : (now term c : ℕ) → c < connection_count → is_closed (fresh now term).connections c ≡ true
unfolding state
fresh-closed now term c c< =
    let z : connection_at c + 0 ≡ connection_at c = omega arith in
    rw (rw z at (fresh-connection now term c c< 0 (lit≤ tt)))

-- "A fresh relay's map is 0"
pub fresh-agrees : (now term : ℕ) → Agrees 0 (fresh now term).connections
fresh-agrees now term = record {
  bits = λ c l. past_clear c 0 (pow_pos c) ∙ ap not (sym (fresh-closed now term c l));
  no_others = lit≤ tt;
}

module _ (lent : Tables) (map now term : ℕ) where
  -- A start is as without a map; one that is refused gives back the map that it was lent,
  pub start_as_without_map : (start_with_map lent map now term).outcome ≡ start lent now term
  unfolding start_with_map
  start_as_without_map = refl

  pub refused-start-leaves-map : (start lent now term).answer.number ≢ 0 → (start_with_map lent map now term).map ≡ map
  unfolding start_with_map
  refused-start-leaves-map n = rw (ne_eqb (start lent now term).answer.number 0 n)

  module _ (e : (start lent now term).answer.number ≡ 0) where
    -- one that is done gives 0,
    pub started-map : (start_with_map lent map now term).map ≡ 0
    unfolding start_with_map
    started-map = rw (eq-eqb (start lent now term).answer.number 0 e)

    abbrev made : Relay
    made = left (start_with_map lent map now term)

    -- and the map agrees after every run: it is the map that would be rebuilt.
    pub run_map-agrees : (calls : List Call) → Agrees (after made calls).map (after made calls).tables.connections
    run_map-agrees calls =
        run_agrees calls made (rw (started-map, start_as_without_map, started-fresh lent now term e) (fresh-agrees now term))

    pub run_map-is : (calls : List Call) → (after made calls).map ≡ map_of (after made calls).tables.connections
    run_map-is calls = (agrees-exactly _ _).0 (run_map-agrees calls)

-- "if the map agreed before, it agrees after": of every start too, refused or done
pub start-agrees : (lent : Tables) (map now term : ℕ) → Agrees map lent.connections
    → Agrees (start_with_map lent map now term).map (start_with_map lent map now term).outcome.tables.connections
unfolding start_with_map start
start-agrees lent map now term a = go (check_start lent now term)
  where
    go : (n : ℕ) → Agrees (if eqb (started n lent now term).answer.number 0 then 0 else map) (started n lent now term).tables.connections
    go zero = fresh-agrees now term
    go (suc n) = rw (eqb-suc-zero n) a

pub mapped_demand3 : MappedDemand3
unfolding start_with_map step_with_map
mapped_demand3 = record {
  price_if_done = λ relay call. relay_demand3.price_if_done relay.tables call;
  price_is_cost = λ relay call. relay_demand3.price_is_cost relay.tables call;
  every_run = λ lent map now term e calls. all.fresh_runs (left (start_with_map lent map now term)) now (made_fresh lent map now term e) calls;
  any_tables = all.all_runs;
}
  where
    made_fresh : (lent : Tables) (map now term : ℕ) → (start lent now term).answer.number ≡ 0
        → Fresh mapped_meter (left (start_with_map lent map now term)) now
    made_fresh lent map now term e =
        let f = start-is-fresh lent now term e in
        record { filled = f.filled; clocked = f.clocked }
