-- A message by its type, over plain values: what its arm decides is what the rules decide; and what is sent by a decision. Assumes nothing.
use Prim.Native.Nat.{ℕ, suc, ◌+◌, ◌≤◌, ◌<◌}
use mathlib.Core.Path.{◌≡◌, refl, sym, ap, ◌∙◌}
use mathlib.Core.Bool.{true, false}
use mathlib.Core.Option.{none, some}
use mathlib.Core.Option as math
use mathlib.Core.List.{List, [], ◌∷◌}
use types.Run.{OneOf, miss}
use denote.Enum.Declared.{tag_of}
use native.Mathlib.Omega.{arith}
use lib.Dec.{ltb, lit≤}
use lib.ListN.{length, drop, length-drop}
use borrow.Author.Tests.{eq-eqb, ne_eqb, lt-ltb, le-ltb}
use Rattle.octets.specs.Octets.{byte_at, part}
use Rattle.svsc.specs.Messages.{Message, decode, longest_message}
use Rattle.svsc_decoded.specs.Reading.{Answer, answer, message_of}
use Rattle.svsc_decoded.specs.declared.Decoded.{Decoded}
use Rattle.svsc_decoded.specs.declared.Decoded.TheVariants as case
use Rattle.svsc_decoded.specs.contracts.Decoded.{the_type}
use Rattle.svsc_decoded.proofs.Cases.{of_read, of_case}
use Rattle.rules.specs.Sizes.{call_cost}
use Rattle.rules.specs.Searches.{end_row}
use Rattle.rules.specs.Tables.{partner_of}
use Rattle.rules.specs.Leases.{LeaseDecision, decide_lease}
use Rattle.rules.specs.Effects.{is_accepted}
use Rattle.rules.specs.Decisions.{lease_decided, nothing_asked, decide_message}
use Rattle.rules.specs.Decisions as rules
use Rattle.rules.specs.Prices.{sent_bytes}
use Rattle.rules.proofs.Messages.{no_cookie}
use Rattle.rules.proofs.Plans.{by_test}
use Rattle.checks.proofs.MessageChecks.{ends}
use Rattle.leases.specs.Leases as leases
use Rattle.std.specs.Prelude.{Result, Ok, Err, MatchResult, IsErrAnd}
use Rattle.statuses.specs.declared.Status.{Status}
use Rattle.statuses.specs.Decisions.{status_number, decided_as, numbered_as}
use Rattle.decisions.specs.declared.Decision.{Decision}
use Rattle.decisions.specs.declared.Decision.TheVariants as decision
use Rattle.decisions.specs.Decided.{meaning as decided, naming, price_of}

-- ---- what is decided

-- the cases that ask for nothing: a keepalive, and what peers do not send
abbrev pub quiet : List ℕ
quiet = 0 ∷ 4 ∷ 5 ∷ 7 ∷ 8 ∷ 10 ∷ 11 ∷ 12 ∷ 14 ∷ 16 ∷ 17 ∷ []

-- the two cases of a lease request; one without a cookie is decided as one whose cookie has no bytes
abbrev pub requests : List ℕ
requests = 2 ∷ 3 ∷ []

module _ (cs ls : List ℕ) (time c other : ℕ) (random m : List ℕ) where
  -- what the rules decide of it, naming this other connection
  abbrev asked : math.Option Message → rules.Decision
  asked o = naming other (decide_message cs ls time c random o)

  asks_nothing : (d : Decoded) → OneOf quiet (tag_of the_type d) → nothing_asked ≡ asked (some (message_of d m))
  unfolding decide_message
  asks_nothing (case.Version major minor) h = refl
  asks_nothing (case.VersionAnswer ok) h = absurd (miss quiet 1 tt h)
  asks_nothing case.LeaseRequest h = absurd (miss quiet 2 tt h)
  asks_nothing case.LeaseRequestWithCookie h = absurd (miss quiet 3 tt h)
  asks_nothing case.LeaseRefused h = refl
  asks_nothing (case.LeaseGranted id expiration) h = refl
  asks_nothing case.ExtensionRequest h = absurd (miss quiet 6 tt h)
  asks_nothing case.ExtensionRefused h = refl
  asks_nothing (case.ExtensionGranted expiration) h = refl
  asks_nothing (case.EstablishRequest id) h = absurd (miss quiet 9 tt h)
  asks_nothing (case.EstablishRefused id status) h = refl
  asks_nothing (case.Established id) h = refl
  asks_nothing case.EstablishNotification h = refl
  asks_nothing case.SessionEnd h = absurd (miss quiet 13 tt h)
  asks_nothing case.SessionEndNotification h = refl
  asks_nothing case.DataSend h = absurd (miss quiet 15 tt h)
  asks_nothing case.DataReceive h = refl
  asks_nothing case.Keepalive h = refl

  asks-lease : (d : Decoded) → some (message_of d m) ≡ decode m → OneOf requests (tag_of the_type d)
      → lease_decided (decide_lease cs ls time c random (part m 2 24)) ≡ asked (some (message_of d m))
  unfolding decide_message
  asks-lease (case.Version major minor) h o = absurd (miss requests 0 tt o)
  asks-lease (case.VersionAnswer ok) h o = absurd (miss requests 1 tt o)
  asks-lease case.LeaseRequest h o = rw (no_cookie m (sym h))
  asks-lease case.LeaseRequestWithCookie h o = refl
  asks-lease case.LeaseRefused h o = absurd (miss requests 4 tt o)
  asks-lease (case.LeaseGranted id expiration) h o = absurd (miss requests 5 tt o)
  asks-lease case.ExtensionRequest h o = absurd (miss requests 6 tt o)
  asks-lease case.ExtensionRefused h o = absurd (miss requests 7 tt o)
  asks-lease (case.ExtensionGranted expiration) h o = absurd (miss requests 8 tt o)
  asks-lease (case.EstablishRequest id) h o = absurd (miss requests 9 tt o)
  asks-lease (case.EstablishRefused id status) h o = absurd (miss requests 10 tt o)
  asks-lease (case.Established id) h o = absurd (miss requests 11 tt o)
  asks-lease case.EstablishNotification h o = absurd (miss requests 12 tt o)
  asks-lease case.SessionEnd h o = absurd (miss requests 13 tt o)
  asks-lease case.SessionEndNotification h o = absurd (miss requests 14 tt o)
  asks-lease case.DataSend h o = absurd (miss requests 15 tt o)
  asks-lease case.DataReceive h o = absurd (miss requests 16 tt o)
  asks-lease case.Keepalive h o = absurd (miss requests 17 tt o)

  pub none-decides : answer none ≡ answer (decode m) → nothing_asked ≡ asked (decode m)
  unfolding decide_message
  none-decides h = of_read asked none m h nothing_asked refl

  -- of a message that was read
  module _ (d : Decoded) (h : answer (some (message_of d m)) ≡ answer (decode m)) where
    -- in the arm of the case e
    pub arm_decides : (e : Decoded) (x : rules.Decision) → d ≡ e → x ≡ asked (some (message_of e m)) → x ≡ asked (decode m)
    arm_decides e x told made = of_read asked _ m h x (of_case (λ (y : Message). asked (some y)) d m e x told made)

    pub rest-decides : OneOf quiet (tag_of the_type d) → nothing_asked ≡ asked (decode m)
    rest-decides rest = of_read asked _ m h nothing_asked (asks_nothing d rest)

    pub lease-decides : OneOf requests (tag_of the_type d) → (x : LeaseDecision) → x ≡ decide_lease cs ls time c random (part m 2 24)
        → lease_decided x ≡ asked (decode m)
    lease-decides either x e =
        of_read asked _ m h (lease_decided x)
        (ap lease_decided e ∙ asks-lease d (ap (λ (a : Answer). a.message) h) either)

-- the decision on a session, by the number of its status
pub numbered : {post : Status → ℕ → Type 0} (s : Result ℕ Status) (r : Result ℕ ℕ)
    → MatchResult s (λ holder. r ≡ Ok holder) (λ why. IsErrAnd r (post why))
    → ((why : Status) (n : ℕ) → post why n → n ≡ status_number why) → numbered_as r ≡ decided_as s
numbered (Ok holder) r h f = rw h
numbered (Err why) (Ok holder) h f = absurd h
numbered (Err why) (Err n) h f = rw (f why n h)

-- ---- what is sent

-- data is all of a message but its type
pub data_bytes : (m : List ℕ) → 1 ≤ length m → length m ≡ suc (length (drop 1 m))
data_bytes m h = rw (length-drop 1 m) (omega arith)

module _ (c : ℕ) {p row end : ℕ} (hp : p ≡ partner_of c) (he : end ≡ end_row p) where
  pub extended_low : row < end → ltb row (end_row (partner_of c)) ≡ true
  extended_low h = lt-ltb row (end_row (partner_of c)) (rw (← hp, ← he) h)

  pub extended_past : end ≤ row → ltb row (end_row (partner_of c)) ≡ false
  extended_past h = le-ltb row (end_row (partner_of c)) (rw (← hp, ← he) h)

-- at most as much as came, or as the longest message is
pub sent-most : (c : ℕ) (m random : List ℕ) (d : Decision) → 1 ≤ length m → length m ≤ longest_message
    → sent_bytes c (decided d m random) ≤ longest_message
sent-most c m random (decision.AnswerVersion ok) h l = lit≤ tt
sent-most c m random (decision.Lease d) h l = by_test (λ n. n ≤ longest_message) (is_accepted (leases.meaning d random)) (λ _. lit≤ tt) (λ _. lit≤ tt)
sent-most c m random (decision.Extend row) h l = by_test (λ n. n ≤ longest_message) (ltb row (end_row (partner_of c))) (λ _. lit≤ tt) (λ _. lit≤ tt)
sent-most c m random (decision.Establish id (Err why)) h l = lit≤ tt
sent-most c m random (decision.Establish id (Ok holder)) h l = lit≤ tt
sent-most c m random (decision.EndSession other) h l = lit≤ tt
sent-most c m random (decision.SendData other) h l = omega (arith, data_bytes m h)
sent-most c m random decision.Nothing h l = lit≤ tt

-- ---- the price

module _ (c : ℕ) (m random : List ℕ) (d : Decision) (k : ℕ) (e : k ≡ byte_at m 0) where
  pub end-price : k ≡ 9 → 0 ≡ price_of c m (decided d m random)
  end-price h = rw (ends m, ← e, eq-eqb k 9 h)

  pub sum-price : (k ≡ 9 → ⊥) → (n : ℕ) → n ≡ sent_bytes c (decided d m random) → call_cost + length m + n ≡ price_of c m (decided d m random)
  sum-price h n s = rw (ends m, ← e, ne_eqb k 9 h, s)
