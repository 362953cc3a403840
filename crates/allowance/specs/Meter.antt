-- Demand 3 for any system that is metered as 01 says, whatever its tables are; and what "as 01 says" is.
use Rattle.std.specs.Prelude.{ℕ, zero, suc, ◌+◌, ◌*◌, ◌-◌, ◌≤◌, ◌<◌, min, ◌≡◌, ◌↔◌, ◌≢◌, Bool, true, cond, ◌&&◌, eqb, ltb}
use mathlib.Core.List.{List, [], ◌∷◌, ◌++◌, foldl}
use Rattle.allowance.specs.Bucket.{capacity, refill_rate, Bucket, full, level_now, spend}
use Rattle.allowance.specs.History.{Entry, paid, charges, level_from_history, latest, own, NonePaid, Bounded}

-- What is metered: calls on a state, and what demand 3 has to know of them.
pub record Meter (State Call Answer : Type 0) : Type 0 where
  -- how many partners there are, and after how many seconds of clock any call can be paid
  pub partners : ℕ
  pub retry_after : ℕ
  -- a state: each partner's allowance record, and the latest reading that it keeps
  pub bucket : State → ℕ → Bucket
  pub clock : State → ℕ
  -- a call: whose it is (a number of `partners` or more is nobody's), its reading, and whether it is charged
  pub partner : Call → ℕ
  pub time : Call → ℕ
  pub charged : Call → Bool
  -- checks 1 to 8: the number of the first that applies, and 0 where none does
  pub precheck : State → Call → ℕ
  -- what the call costs if it is done, which check 9 compares with the level
  pub price : State → Call → ℕ
  -- the call's answer, and the state that it leaves
  pub answer : State → Call → Answer
  pub next : State → Call → State
  -- an answer's number; and the charge of an accepted call, from the call and its answer. Neither sees the state
  pub number : Answer → ℕ
  pub cost : Call → Answer → ℕ

-- "Checks run in this order; the first that applies decides": one of 1 to 8, else 9, "the charge exceeds the partner's level", else 0.
unfoldable pub verdict : ℕ → Bool → ℕ → ℕ → ℕ
verdict zero charged level price = cond (charged && ltb level price) 9 0
verdict (suc n) charged level price = suc n

module _ {State Call Answer : Type 0} (M : Meter State Call Answer) where
  open M use {partners, retry_after, bucket, clock, partner, time, charged, precheck, price, answer, next, number, cost}

  -- The number that a call is answered with.
  abbrev pub result : State → Call → ℕ
  result s c = number (answer s c)

  -- What 01 says of one call.
  pub record Metered : Type 0 where
    pub eight : (s : State) (c : Call) → precheck s c ≤ 8
    pub decided : (s : State) (c : Call)
        → result s c ≡ verdict (precheck s c) (charged c) (level_now (bucket s (partner c)) (time c)) (price s c)
    -- check 2: no reading below the latest passes
    pub in_order : (s : State) (c : Call) → precheck s c ≡ 0 → clock s ≤ time c
    -- check 3: no call that is nobody's passes
    pub of_partner : (s : State) (c : Call) → precheck s c ≡ 0 → partner c < partners
    -- the dearest call can be paid after so many seconds
    pub payable : (s : State) (c : Call) → precheck s c ≡ 0 → charged c ≡ true → price s c ≤ min capacity (refill_rate * retry_after)
    -- the charge in history is the price that was compared with the level
    pub price_cost : (s : State) (c : Call) → result s c ≡ 0 → cost c (answer s c) ≡ price s c
    -- "Refusals 1 to 9 .. alter no byte, the clock included."
    pub refused : (s : State) (c : Call) → result s c ≢ 0 → next s c ≡ s
    -- "On 0 the clock cell takes the reading."
    pub clocked : (s : State) (c : Call) → result s c ≡ 0 → clock (next s c) ≡ time c
    -- "A done charged call stores the level left and its reading as moment", and no other allowance record changes.
    pub stored : (s : State) (c : Call) → result s c ≡ 0 → (p : ℕ) → p < partners
        → bucket (next s c) p ≡ cond (charged c && eqb (partner c) p) (spend (bucket s p) (time c) (price s c)) (bucket s p)

  -- "Fresh, at a reading t: .. the eight partners' levels 262,144, .. every moment t." The ninth moment is the clock.
  pub record Fresh (s : State) (t : ℕ) : Type 0 where
    pub filled : (p : ℕ) → p < partners → bucket s p ≡ full t
    pub clocked : clock s ≡ t

  -- A run: "Each call is lent the three tables as the one before left them." The state after it,
  unfoldable pub after : State → List Call → State
  after s run = foldl next s run

  -- and its history: "the run's calls with their answers, and nothing from the tables". "A call is accepted exactly if its answer is 0."
  unfoldable pub entry : Call → Answer → Entry
  entry c a =
      record {
        partner = partner c;
        time = time c;
        accepted = eqb (number a) 0;
        charged = charged c;
        cost = cost c a;
      }

  unfoldable pub history : State → List Call → List Entry
  history s [] = []
  history s (c ∷ run) = entry c (answer s c) ∷ history (next s c) run

  -- "What a partner has left, in demand 3, is this figure over the calls before the one judged, at the reading of the one judged."
  abbrev pub left : State → List Call → Call → ℕ
  left s before c = level_from_history (partner c) (time c) (history s before)

  -- Demand 3 and the paragraph "Charges" of 01, of a run from a fresh state at t₀: "a single claim about the whole run".
  pub record Claim (s : State) (t₀ : ℕ) (run : List Call) : Type 0 where
    -- "After every run the level a partner has, at any reading not below the latest, must equal a figure taken from history."
    pub level : (p : ℕ) → p < partners → (t : ℕ) → latest t₀ (history s run) ≤ t
        → level_now (bucket (after s run) p) t ≡ level_from_history p t (history s run)
    -- No difference in that figure is below 0, so that none is cut off there.
    pub none_below_zero : (p t : ℕ) → latest t₀ (history s run) ≤ t
        → (earlier : List Entry) (e : Entry) (later : List Entry) → history s run ≡ earlier ++ (e ∷ later) → paid p e ≡ true
        → (e.time ≤ t) × (charges p (e ∷ later) ≤ capacity + refill_rate * (t - e.time))
    -- "A call is refused for allowance exactly when it passed every earlier check, is charged, and costs more than its partner has left."
    pub refused_exactly : (before : List Call) (c : Call) (later : List Call) → run ≡ before ++ (c ∷ later)
        → (result (after s before) c ≡ 9)
        ↔ ((precheck (after s before) c ≡ 0) × (charged c ≡ true) × (left s before c < price (after s before) c))
    -- It is accepted exactly when it passed every earlier check and, if it is charged, costs no more than that.
    pub accepted_exactly : (before : List Call) (c : Call) (later : List Call) → run ≡ before ++ (c ∷ later)
        → (result (after s before) c ≡ 0)
        ↔ ((precheck (after s before) c ≡ 0) × (charged c ≡ true → price (after s before) c ≤ left s before c))
    -- "from any accepted charged call of a partner to the same or a later one of that partner, both counted, the charges of its
    -- accepted calls come to at most 262,144 plus 65,536 for each second of clock between the two"
    pub bounded : Bounded (history s run)
    -- "a partner refused with 9 that then makes no accepted charged call is not refused with 9 for the same bytes" so many "seconds of
    -- clock later": nor for any others.
    pub retry : (before : List Call) (c : Call) (between : List Call) (again : Call) (later : List Call)
        → run ≡ before ++ (c ∷ (between ++ (again ∷ later)))
        → result (after s before) c ≡ 9
        → NonePaid (partner c) (history (after s before) (c ∷ between))
        → partner again ≡ partner c
        → time c + retry_after ≤ time again
        → result (after s (before ++ (c ∷ between))) again ≢ 9
    -- "What is left is worked out .. from that partner's own accepted charged calls before it and the clock alone":
    -- any history with the same own entries gives the same figure,
    pub own_alone : (p t : ℕ) (other : List Entry) → own p other ≡ own p (history s run)
        → level_from_history p t other ≡ level_from_history p t (history s run)
    -- "whatever its neighbours sent": the own entries are the same without an entry of a neighbour.
    pub own_only : (p : ℕ) (earlier : List Entry) (e : Entry) (later : List Entry) → history s run ≡ earlier ++ (e ∷ later)
        → e.partner ≢ p → own p (history s run) ≡ own p (earlier ++ later)

  -- Demand 3: the claim of every run from a fresh state; and the bound of every run from any state at all.
  pub record Demand3 : Type 0 where
    pub fresh_runs : (s : State) (t₀ : ℕ) → Fresh s t₀ → (run : List Call) → Claim s t₀ run
    pub all_runs : (s : State) (run : List Call) → Bounded (history s run)
