-- The reason that is named is the true one (02, Item 1): the check that stops a call, what decided it, and its headroom. Assumes nothing.
use Rattle.std.specs.Prelude.{if◌then◌else◌}
use Prim.Native.Nat.{ℕ, zero, suc, ◌+◌, ◌-◌, ◌*◌, ◌≤◌, ◌<◌, min, ◌^◌}
use mathlib.Core.Path.{◌≡◌, refl, sym, ap, ap₂, ◌∙◌}
use mathlib.Core.Logic.{◌≢◌, ◌⊎◌, inl, inr, ⊎_elim, ◌↔◌}
use mathlib.Core.Bool.{Bool, true, false, ◌&&◌, false≢true}
use mathlib.Core.Option.{none, some}
use mathlib.Core.List.{List, [], ◌∷◌}
use native.Mathlib.Nat.{zero-add}
use native.Mathlib.Omega.{arith}
use native.Mathlib.Decide.{ℕ_discrete, dec_lt}
use lib.Dec.{eqb, lit<}
use lib.ListN.{length, get_or, get_or-append, get_or-eq_default}
use lib.IntN.{ℤ, pos, negsuc, ◌-ℤ◌}
use borrow.Author.Tests.{eq-eqb, ne_eqb, eqb-true, lt-ltb, le-ltb}
use Rattle.octets.specs.Octets.{byte_at, part, number_at, big_endian, put}
use Rattle.octets.proofs.Tests.{both_left, both_right}
use Rattle.octets.proofs.Numbers.{length-big_endian}
use Rattle.octets.proofs.Stores.{length-put, part-put, number_at-put, number_at-behind}
use Rattle.svsc.specs.Messages.{type_of, encode}
use Rattle.allowance.specs.Bucket.{capacity, refill_rate, level_now}
use Rattle.allowance.specs.Meter.{verdict}
use Rattle.allowance.proofs.Numbers.{verdict-nine, nine-verdict, zero-verdict}
use Rattle.rules.specs.Sizes.{partners, allowances_size}
use Rattle.rules.specs.Tables.{Tables, lent, allowance_at, updated_at, bucket_of, clock, sized}
use Rattle.rules.specs.Leases.{LeaseDecision, holds_lease, no_spare_row, cookie_in_use, no_free_id, renewed, granted, decide_lease}
use Rattle.rules.specs.Sessions.{EstablishDecision, refused_with, established_with, decide_establish}
use Rattle.rules.specs.Decisions.{decide_message}
use Rattle.rules.specs.Calls.{Call, opening, message, closing, keepalive, time_of, caller_of, reply_buffer}
use Rattle.rules.specs.Plans.{plan_lease, plan_establish, plan_decided, plan_message, plan_call, plan}
use Rattle.rules.specs.Charges.{charged, price, caller_level}
use Rattle.rules.specs.Checks.{wrong_time, wrong_state, wrong_lengths, not_from_peer, not_permitted, no_session, above_level, first_eight, checks, precheck, check}
use Rattle.rules.specs.Step.{step, done}
use Rattle.rules.specs.Reasons.{condition_of, status_of, Decided, undecided, of_lease, of_establish, asked, decided, headroom, explain}
use Rattle.rules.specs.Refusals.{Applies}
use Rattle.rules.specs.Laws.{Accepted}
use Rattle.rules.specs.Explained.{AsksDecision, LeaseNamed, EstablishNamed, LengthsOnly, credited, Credited, ShortBy, HeadroomExactly}
use Rattle.rules.proofs.Records.{byte_part}
use Rattle.rules.proofs.Messages.{by_type}
use Rattle.rules.proofs.Plans.{lease-plan}
use Rattle.rules.proofs.Checks.{none_applies, all_pass, at_most, check-verdict, Passed, passed, from-peer}
use Rattle.rules.proofs.Answers.{answer-is-check, is-done, done_passed}
use Rattle.rules.proofs.Leases.{first_failing, statuses}
use Rattle.rules.proofs.Room.{messages_fit}
use Rattle.rules.proofs.Prices.{message-price, prices}
use Rattle.rules.proofs.Metered.{bucket-stored}
use Rattle.rules.proofs.Refusals.{fails}
use Rattle.rules.proofs.Changes.{changed_at}

-- ---- the check

-- "names the first check that stops the call": the number that the call is answered with
pub check-named : (tables : Tables) (call : Call) → (explain tables call).check ≡ (step tables call).answer.number
unfolding explain
check-named tables call = sym (answer-is-check tables call)

-- ---- what decided

module _ (tables : Tables) (call : Call) where
  named : (explain tables call).decided ≡ (if eqb (step tables call).answer.number 0 then asked tables call else undecided)
  unfolding explain decided
  named = rw (answer-is-check tables call)

  named-done : Accepted tables call → (explain tables call).decided ≡ asked tables call
  named-done e = named ∙ rw (eq-eqb _ 0 e)

  named-refused : (step tables call).answer.number ≢ 0 → (explain tables call).decided ≡ undecided
  named-refused n = named ∙ rw (ne_eqb _ 0 n)

  -- a byte of the reply of a call that is done
  reply_byte : Accepted tables call → (i : ℕ) → i < length (plan_call tables call).reply
      → byte_at (step tables call).reply i ≡ byte_at (plan_call tables call).reply i
  unfolding done plan
  reply_byte e i l =
      let bytes = (plan_call tables call).reply in
      let fits : length bytes ≤ length (reply_buffer call) = rw (is-done tables call e) at (messages_fit tables call e).0 in
      rw (is-done tables call e)
      (ap (byte_at (put (reply_buffer call) 0 bytes)) (sym (zero-add i))
      ∙ sym (byte_part (put (reply_buffer call) 0 bytes) 0 (length bytes) i l)
      ∙ rw (part-put (reply_buffer call) 0 bytes (omega arith)))

-- what a message asks to be decided, by its type
abbrev chosen : (t u : Bool) → LeaseDecision → EstablishDecision → Decided
chosen t u a b = if t then of_lease a else if u then of_establish b else undecided

chosen_lease : (t u : Bool) (a : LeaseDecision) (b : EstablishDecision) (d : LeaseDecision) → chosen t u a b ≡ of_lease d → (t ≡ true) × (d ≡ a)
chosen_lease true u a b d e = (refl, cc)
chosen_lease false true a b d e = (cc, cc)
chosen_lease false false a b d e = (cc, cc)

chosen_establish : (t u : Bool) (a : LeaseDecision) (b : EstablishDecision) (d : EstablishDecision) → chosen t u a b ≡ of_establish d
    → (u ≡ true) × (d ≡ b)
chosen_establish true u a b d e = (cc, cc)
chosen_establish false true a b d e = (refl, cc)
chosen_establish false false a b d e = (cc, cc)

chosen_none : (t u : Bool) (a : LeaseDecision) (b : EstablishDecision) → chosen t u a b ≡ undecided → (t ≡ false) × (u ≡ false)
chosen_none true u a b e = (cc, cc)
chosen_none false true a b e = (cc, cc)
chosen_none false false a b e = (refl, refl)

module _ (tables : Tables) (now c : ℕ) (m random reply relay : List ℕ) where
  open tables use {connections as cs, leases as ls}

  abbrev sent : Call
  sent = message now c m random reply relay

  -- A decision x of either kind, on messages of a type: it is named exactly of those that are done.
  module _ {D : Type 0} (name : D → Decided) (type : ℕ) (x : D) (some-name : (d : D) → name d ≢ undecided)
      (Asked-is : type_of m ≡ type → asked tables sent ≡ name x)
      (is-asked : (d : D) → asked tables sent ≡ name d → (eqb (type_of m) type ≡ true) × (d ≡ x))
    where
      named-exactly : (d : D) → ((explain tables sent).decided ≡ name d) ↔ (Accepted tables sent × ((type_of m ≡ type) × (d ≡ x)))
      named-exactly d = (
        (λ h. go h (ℕ_discrete (step tables sent).answer.number 0)),
        (λ q. named-done tables sent q.0 ∙ Asked-is q.1.0 ∙ ap name (sym q.1.1)),
      )
        where
          go : (explain tables sent).decided ≡ name d → Dec (Accepted tables sent)
              → Accepted tables sent × ((type_of m ≡ type) × (d ≡ x))
          go h (yes e) = let by = is-asked d (sym (named-done tables sent e) ∙ h) in (e, (eqb-true (type_of m) type by.0, by.1))
          go h (no r) = absurd (some-name d (sym h ∙ named-refused tables sent r))

  -- ---- a lease

  abbrev lease-decision : LeaseDecision
  lease-decision = decide_lease cs ls now c random (part m 2 24)

  lease-exactly : (d : LeaseDecision)
      → ((explain tables sent).decided ≡ of_lease d) ↔ (Accepted tables sent × ((type_of m ≡ 2) × (d ≡ lease-decision)))
  unfolding asked
  lease-exactly =
      named-exactly of_lease 2 lease-decision
      (λ d e. let z : ◌≡◌ {A = ℕ} 0 1 = cc in omega arith)
      (λ t. rw (eq-eqb (type_of m) 2 t))
      (chosen_lease (eqb (type_of m) 2) (eqb (type_of m) 6) _ _)

  plan-lease : Accepted tables sent → type_of m ≡ 2 → plan_call tables sent ≡ plan_lease tables now c lease-decision
  unfolding plan_call
  plan-lease e t = lease-plan tables now c m random (from-peer tables now c m random reply relay (done_passed tables sent e)) t

  -- byte 1 of the reply, by what was decided
  told-lease : (d : LeaseDecision) → (1 < length (plan_lease tables now c d).reply)
      × ((condition_of d ≡ 0) ↔ (byte_at (plan_lease tables now c d).reply 1 ≡ 1))
  unfolding plan_lease encode
  told-lease holds_lease = (lit< tt, ((λ e. absurd (omega arith)), (λ e. absurd (omega arith))))
  told-lease no_spare_row = (lit< tt, ((λ e. absurd (omega arith)), (λ e. absurd (omega arith))))
  told-lease cookie_in_use = (lit< tt, ((λ e. absurd (omega arith)), (λ e. absurd (omega arith))))
  told-lease no_free_id = (lit< tt, ((λ e. absurd (omega arith)), (λ e. absurd (omega arith))))
  told-lease (renewed row) = (omega arith, ((λ e. refl), (λ e. refl)))
  told-lease (granted row id cookie) = (omega arith, ((λ e. refl), (λ e. refl)))

  pub lease-named : (d : LeaseDecision) → LeaseNamed tables sent now c m random d
  lease-named d = record {
    exactly = lease-exactly d;
    first = λ h. rw ((lease-exactly d).0 h).1.1 (first_failing ls now c random cs (part m 2 24));
    acted = λ h. unfold plan in rw (acted h);
    told = λ h. rw (reply_byte tables sent ((lease-exactly d).0 h).0 1 (rw (acted h) (told-lease d).0), acted h) (told-lease d).1;
  }
    where
      acted : (explain tables sent).decided ≡ of_lease d → plan_call tables sent ≡ plan_lease tables now c d
      acted h = let is = (lease-exactly d).0 h in plan-lease is.0 is.1.0 ∙ rw is.1.1

  -- ---- a session

  abbrev id : ℕ
  id = number_at m 1 4

  establish-exactly : (d : EstablishDecision)
      → ((explain tables sent).decided ≡ of_establish d) ↔ (Accepted tables sent × ((type_of m ≡ 6) × (d ≡ decide_establish cs ls now c id)))
  unfolding asked
  establish-exactly =
      named-exactly of_establish 6 (decide_establish cs ls now c id)
      (λ d e. let z : ◌≡◌ {A = ℕ} 0 1 = cc in omega arith)
      (λ t. rw (ne_eqb (type_of m) 2 (λ e. omega arith), eq-eqb (type_of m) 6 t))
      (chosen_establish (eqb (type_of m) 2) (eqb (type_of m) 6) _ _)

  plan-establish : Accepted tables sent → type_of m ≡ 6 → plan_call tables sent ≡ plan_establish tables c id random (decide_establish cs ls now c id)
  unfolding plan_call plan_message plan_decided decide_message
  plan-establish e t = rw ((by_type m (from-peer tables now c m random reply relay (done_passed tables sent e))).six t)

  -- byte 5 of the reply is the status
  told_status : (d : EstablishDecision) → (5 < length (plan_establish tables c id random d).reply)
      × (status_of d ≡ byte_at (plan_establish tables c id random d).reply 5)
  unfolding plan_establish encode big_endian
  told_status (refused_with status) = (lit< tt, refl)
  told_status (established_with h) = (omega arith, refl)

  pub establish-named : (d : EstablishDecision) → EstablishNamed tables sent now c m random d
  establish-named d = record {
    exactly = establish-exactly d;
    first = λ h. rw ((establish-exactly d).0 h).1.1 (statuses cs ls now c id);
    acted = λ h. unfold plan in rw (acted h);
    told = λ h. rw (reply_byte tables sent ((establish-exactly d).0 h).0 5 (rw (acted h) (told_status d).0), acted h) (told_status d).1;
  }
    where
      acted : (explain tables sent).decided ≡ of_establish d → plan_call tables sent ≡ plan_establish tables c id random d
      acted h = let is = (establish-exactly d).0 h in plan-establish is.0 is.1.0 ∙ rw is.1.1

-- Nothing is named of any other call, and of one that a check stops.
asking : (tables : Tables) (call : Call) → AsksDecision call → asked tables call ≡ undecided → ⊥
unfolding asked
asking tables (opening now c reply) q h = q
asking tables (message now c m random reply relay) q h =
    let no = chosen_none (eqb (type_of m) 2) (eqb (type_of m) 6) _ _ h in
    ⊎_elim (λ t. false≢true (sym no.0 ∙ eq-eqb (type_of m) 2 t)) (λ t. false≢true (sym no.1 ∙ eq-eqb (type_of m) 6 t)) q
asking tables (closing now c relay) q h = q
asking tables (keepalive now c reply relay) q h = q

not_asking : (tables : Tables) (call : Call) → (AsksDecision call → ⊥) → asked tables call ≡ undecided
unfolding asked
not_asking tables (opening now c reply) n = refl
not_asking tables (message now c m random reply relay) n =
    rw (ne_eqb (type_of m) 2 (λ t. n (inl t)), ne_eqb (type_of m) 6 (λ t. n (inr t)))
not_asking tables (closing now c relay) n = refl
not_asking tables (keepalive now c reply relay) n = refl

pub nothing-named : (tables : Tables) (call : Call)
    → ((explain tables call).decided ≡ undecided) ↔ ((Accepted tables call × AsksDecision call) → ⊥)
nothing-named tables call = (
  (λ h q. asking tables call q.1 (sym (named-done tables call q.0) ∙ h)),
  (λ n. go n (ℕ_discrete (step tables call).answer.number 0)),
)
  where
    go : ((Accepted tables call × AsksDecision call) → ⊥) → Dec (Accepted tables call) → (explain tables call).decided ≡ undecided
    go n (yes e) = named-done tables call e ∙ not_asking tables call (λ q. n (e, q))
    go n (no r) = named-refused tables call r

-- Of the buffers only the lengths count.
pub lengths_only : (tables : Tables) (now c : ℕ) (m random : List ℕ) → LengthsOnly tables now c m random
unfolding explain decided asked headroom price plan plan_call caller_level check checks precheck first_eight wrong_time wrong_state wrong_lengths not_from_peer not_permitted no_session above_level
lengths_only tables now c m random = record {
  open_alike = λ reply other e. rw e;
  message_alike = λ reply relay other_reply other_relay e f. rw (e, f);
  close_alike = λ relay other e. rw e;
  keepalive_alike = λ reply relay other_reply other_relay e f. rw (e, f);
}

-- ---- the headroom

-- a difference of two numbers
below-zero : (a b : ℕ) → a < b → pos a -ℤ pos b ≡ negsuc (b - suc a)
below-zero a zero h = absurd (omega arith)
below-zero a (suc b) h = rw (lt-ltb a (suc b) h)

not-below : (a b : ℕ) → b ≤ a → pos a -ℤ pos b ≡ pos (a - b)
not-below a zero h = ap pos (omega arith)
not-below a (suc b) h = rw (le-ltb a (suc b) h)

-- what is known where it is the one, or the other
is_below : (a b n : ℕ) → pos a -ℤ pos b ≡ negsuc n → b ≡ a + (n + 1)
is_below a b n e = go (dec_lt a b)
  where
    go : Dec (a < b) → b ≡ a + (n + 1)
    go (yes l) = let f : b - suc a ≡ n = cc (below-zero a b l) in omega arith
    go (no l) = cc (not-below a b (omega arith))

is-rest : (a b n : ℕ) → pos a -ℤ pos b ≡ pos n → a ≡ b + n
is-rest a b n e = go (dec_lt a b)
  where
    go : Dec (a < b) → a ≡ b + n
    go (yes l) = cc (below-zero a b l)
    go (no l) = let f : a - b ≡ n = cc (not-below a b (omega arith)) in omega arith

given : {A : Type 0} {x z : A} (t : Bool) → (if t then some x else none) ≡ some z → (t ≡ true) × (x ≡ z)
given true e = (refl, cc)
given false e = (cc, cc)

module _ (tables : Tables) (call : Call) where
  open tables use {allowances as al}

  abbrev level : ℕ
  level = caller_level al call

  headroom-is : precheck tables call ≡ 0 → charged call ≡ true → (explain tables call).headroom ≡ some (pos level -ℤ pos (price tables call))
  unfolding explain headroom
  headroom-is h k = rw (eq-eqb (precheck tables call) 0 h, k)

  known : (z : ℤ) → (explain tables call).headroom ≡ some z
      → (precheck tables call ≡ 0) × ((charged call ≡ true) × (pos level -ℤ pos (price tables call) ≡ z))
  unfolding explain headroom
  known z h =
      let both = given (eqb (precheck tables call) 0 && charged call) h in (
        eqb-true (precheck tables call) 0 (both_left (eqb (precheck tables call) 0) (charged call) both.0),
        (both_right (eqb (precheck tables call) 0) (charged call) both.0, both.1),
      )

  -- "checks 1 to 8 pass"
  eight_pass : (precheck tables call ≡ 0) ↔ ((n : ℕ) → 1 ≤ n → n ≤ 8 → Applies n tables call → ⊥)
  unfolding precheck checks first_eight
  eight_pass = (
    (λ h n l u a. false≢true (sym (none_applies 0 eight h (n - 1)) ∙ sym (among (n - 1) (omega arith)) ∙ a)),
    (λ f. all_pass 1 eight (λ i. go f i (dec_lt i 8))),
  )
    where
      eight : List Bool
      eight = first_eight tables call

      among : (i : ℕ) → i < 8 → get_or (checks tables call) i false ≡ get_or eight i false
      among i l = get_or-append eight (above_level tables call ∷ []) false i l

      go : ((n : ℕ) → 1 ≤ n → n ≤ 8 → Applies n tables call → ⊥) → (i : ℕ) → Dec (i < 8) → get_or eight i false ≡ false
      go f i (yes l) = sym (among i l) ∙ fails tables call i (f (suc i) (omega arith) (omega arith))
      go f i (no l) = let past : 8 ≤ i = omega arith in get_or-eq_default eight false past

  verdict-is : (step tables call).answer.number ≡ verdict (precheck tables call) (charged call) level (price tables call)
  verdict-is = answer-is-check tables call ∙ check-verdict tables call

  negative-exactly : ((n : ℕ) × ((explain tables call).headroom ≡ some (negsuc n))) ↔ ((step tables call).answer.number ≡ 9)
  unfolding precheck first_eight
  negative-exactly = (
    (λ q.
        let is = known (negsuc q.0) q.1 in
        let short = is_below level (price tables call) q.0 is.1.1 in
        verdict-is ∙ nine-verdict _ _ _ _ is.0 is.1.0 (omega arith)),
    (λ e.
        let is = verdict-nine _ _ _ _ (at_most 0 (first_eight tables call)) (sym verdict-is ∙ e) in
        (price tables call - suc level, headroom-is is.0 is.1 ∙ ap some (below-zero level (price tables call) is.2))),
  )

  left_is : (n : ℕ) → (explain tables call).headroom ≡ some (pos n)
      → Accepted tables call
      × (bucket_of (step tables call).tables.allowances (caller_of call) ≡ record { level = n; updated = time_of call })
  unfolding caller_level
  left_is n h =
      let is = known (pos n) h in
      let rest = is-rest level (price tables call) n is.1.1 in
      let e : Accepted tables call = verdict-is ∙ zero-verdict _ _ _ _ is.0 (λ k. omega arith) in
      let p< = (passed tables call is.0).of_partner in
      let left : level_now (bucket_of al (caller_of call)) (time_of call) - price tables call ≡ n = omega arith in
      (e, bucket-stored tables call e (caller_of call) p< ∙ rw (is.1.0, eq-eqb (caller_of call) (caller_of call) refl, left))

-- ---- the shortfall

-- What is meant by so many units more in an allowance: where a cell holds them, they are in the stored level, and nowhere else.
pub credited-only : (tables : Tables) (p k : ℕ) → length tables.allowances ≡ allowances_size → p < partners
    → number_at tables.allowances (16 * p) 8 + k < 256 ^ 8
    → Credited tables p k (credited tables p k)
unfolding credited bucket_of big_endian
credited-only tables p k size p< cell = record {
  level = number_at-put tables.allowances (allowance_at p) 8 _ (omega arith) cell;
  others = changed_at tables.allowances (allowance_at p) (big_endian 8 _) (λ i l u. (omega arith, omega arith));
  connections = refl;
  leases = refl;
}

-- k units more in a bucket are k units more of its level, up to the capacity
more_level : (stored refill k : ℕ) → min capacity (min capacity stored + refill) + k ≤ capacity
    → min capacity (min capacity (stored + k) + refill) ≡ min capacity (min capacity stored + refill) + k
more_level stored refill k h = omega arith

stored-most : (stored refill : ℕ) → min capacity (min capacity stored + refill) < capacity
    → stored ≤ min capacity (min capacity stored + refill)
stored-most stored refill h = omega arith

-- What a call sends is decided by the other two tables.
price_alike : (tables : Tables) (al : List ℕ) (call : Call) → precheck tables call ≡ 0
    → precheck (lent tables.connections tables.leases al) call ≡ 0
    → price (lent tables.connections tables.leases al) call ≡ price tables call
price_alike tables al (opening now c reply) h k = (prices _).open_price now c reply ∙ sym ((prices tables).open_price now c reply)
price_alike tables al (message now c m random reply relay) h k = go (ℕ_discrete (type_of m) 9)
  where
    other : Tables
    other = lent tables.connections tables.leases al

    go : Dec (type_of m ≡ 9) → price other (message now c m random reply relay) ≡ price tables (message now c m random reply relay)
    go (yes t) =
        ((prices other).message_prices now c m random reply relay k).session_end_lem t
        ∙ sym (((prices tables).message_prices now c m random reply relay h).session_end_lem t)
    go (no n) = message-price other now c m random reply relay k n ∙ sym (message-price tables now c m random reply relay h n)
price_alike tables al (closing now c relay) h k = (prices _).close_price now c relay ∙ sym ((prices tables).close_price now c relay)
price_alike tables al (keepalive now c reply relay) h k =
    (prices _).keepalive_price now c reply relay ∙ sym ((prices tables).keepalive_price now c reply relay)

module _ (tables : Tables) (call : Call) (h : precheck tables call ≡ 0) (k : ℕ) where
  open tables use {allowances as al}

  abbrev p : ℕ
  p = caller_of call

  abbrev units : List ℕ
  units = big_endian 8 ((bucket_of al p).level + k)

  abbrev richer : Tables
  richer = credited tables p k

  ok : Passed tables call
  ok = passed tables call h

  clock-credited : clock (put al (allowance_at p) units) ≡ clock al
  unfolding clock
  clock-credited =
      number_at-behind al (allowance_at p) units (updated_at partners) 8
      (rw (length-big_endian 8 ((bucket_of al p).level + k)) (omega (arith, ok.of_partner)))

  pub precheck-credited : precheck richer call ≡ 0
  unfolding precheck first_eight credited sized wrong_time
  precheck-credited = rw (length-put al (allowance_at p) units, clock-credited) h

  module _ (l : caller_level al call < capacity) (u : caller_level al call + k ≤ capacity) where
    bucket-credited : bucket_of (put al (allowance_at p) units) p ≡ record { level = (bucket_of al p).level + k; updated = (bucket_of al p).updated }
    unfolding bucket_of caller_level level_now
    bucket-credited =
        let most = stored-most (number_at al (allowance_at p) 8) (refill_rate * (time_of call - number_at al (updated_at p) 8)) l in
        ap₂ (λ (l u : ℕ). record { level = l; updated = u })
        (number_at-put al (allowance_at p) 8 (number_at al (allowance_at p) 8 + k) (omega (arith, ok.allowances, ok.of_partner)) (omega arith))
        (number_at-behind al (allowance_at p) units (updated_at p) 8 (rw (length-big_endian 8 (number_at al (allowance_at p) 8 + k)) (omega arith)))

    level-credited : caller_level richer.allowances call ≡ caller_level al call + k
    unfolding credited caller_level level_now
    level-credited =
        rw bucket-credited (more_level (bucket_of al p).level (refill_rate * (time_of call - (bucket_of al p).updated)) k u)

    pub credited-answer : (step richer call).answer.number
        ≡ verdict (precheck richer call) (charged call) (caller_level al call + k) (price tables call)
    unfolding credited
    credited-answer = answer-is-check richer call ∙ check-verdict richer call ∙ rw (level-credited, price_alike tables _ call h precheck-credited)

module _ (tables : Tables) (call : Call) where
  short-is : (n : ℕ) → (explain tables call).headroom ≡ some (negsuc n) → ShortBy tables call (n + 1)
  short-is n e = record { enough = enough; fewer = fewer }
    where
      has : ℕ
      has = caller_level tables.allowances call

      is : (precheck tables call ≡ 0) × ((charged call ≡ true) × (pos has -ℤ pos (price tables call) ≡ negsuc n))
      is = known tables call (negsuc n) e

      short : price tables call ≡ has + (n + 1)
      short = is_below has (price tables call) n is.1.1

      most : price tables call ≤ capacity
      most = omega (arith, (prices tables).most call is.0)

      answer : (k : ℕ) → k ≤ n + 1
          → (step (credited tables (caller_of call) k) call).answer.number
          ≡ verdict (precheck (credited tables (caller_of call) k) call) (charged call) (has + k) (price tables call)
      answer k l = credited-answer tables call is.0 k (omega (arith, short, most)) (omega (arith, short, most))

      enough : (step (credited tables (caller_of call) (n + 1)) call).answer.number ≡ 0
      enough =
          answer (n + 1) (omega arith)
          ∙ zero-verdict _ _ _ _ (precheck-credited tables call is.0 (n + 1)) (λ _. omega (arith, short))

      fewer : (k : ℕ) → k < n + 1 → (step (credited tables (caller_of call) k) call).answer.number ≡ 9
      fewer k l =
          answer k (omega arith)
          ∙ nine-verdict _ _ _ _ (precheck-credited tables call is.0 k) is.1.0 (omega (arith, short))

  pub headroom-exactly : HeadroomExactly tables call
  unfolding caller_level
  headroom-exactly = record {
    there = (
      (λ q. let is = known tables call q.0 q.1 in ((eight_pass tables call).0 is.0, is.1.0)),
      (λ q. (pos (level tables call) -ℤ pos (price tables call), headroom-is tables call ((eight_pass tables call).1 q.0) q.1)),
    );
    difference = λ z h. sym (known tables call z h).1.1;
    negative = negative-exactly tables call;
    short = short-is;
    left = left_is tables call;
  }
