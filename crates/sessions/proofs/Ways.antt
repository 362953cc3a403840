-- The ways out of the version answer, the end of a session and data, over plain values. Assumes nothing.
use Rattle.std.specs.Prelude.{if◌then◌else◌, Option, Some, IsSome}
use Prim.Native.Nat.{ℕ, suc, ◌≤◌, ◌<◌}
use mathlib.Core.Path.{◌≡◌, refl, ◌∙◌}
use mathlib.Core.Bool.{Bool, true, false}
use mathlib.Core.List.{List, [], ◌∷◌}
use native.Mathlib.Omega.{arith}
use lib.ListN.{length, drop}
use borrow.Author.Tests.{ne_eqb}
use Rattle.octets.specs.Octets.{put}
use Rattle.svsc.specs.Messages.{session_end_notification, data_receive, encode, longest_message}
use Rattle.svsc.specs.Copying.{copied, copy_data}
use Rattle.svsc.proofs.Copying.{copied_all}
use Rattle.rules.specs.Tables.{lent, opened, peer, in_session, has_session, set_state}
use Rattle.rules.specs.Sessions.{clear, end_session}
use Rattle.rules.specs.Calls.{sent_nothing}
use Rattle.rules.specs.Plans.{plan_version_answer, plan_end, plan_data, do_nothing}
use Rattle.answers.specs.declared.Answer.{Answer}
use Rattle.answers.specs.Applied.{Handled, handled, applied, coded, relayed, disconnected}
use Rattle.answers.proofs.Ways.{nothing-done}
use Rattle.sessions.specs.Asked.{Sendable}

module _ (cs ls al reply relay : List ℕ) (c : ℕ) where
  -- ---- the version answer

  pub version_taken : (ok : ℕ) (r : Answer) (cs' : List ℕ) → ok ≡ 1 → r ≡ coded (sent_nothing 0) → cs' ≡ set_state cs c opened
      → handled r cs' ls reply relay ≡ applied (plan_version_answer (lent cs ls al) c ok) reply relay
  unfolding applied plan_version_answer put
  version_taken ok r cs' h a e = rw (a, e, h)

  pub version_refused : (ok : ℕ) (r : Answer) (cs' : List ℕ) → (ok ≡ 1 → ⊥) → r ≡ coded disconnected → cs' ≡ clear cs c
      → handled r cs' ls reply relay ≡ applied (plan_version_answer (lent cs ls al) c ok) reply relay
  unfolding applied plan_version_answer put
  version_refused ok r cs' h a e = rw (a, e, ne_eqb ok 1 h)

  -- ---- the end of a session, and data

  pub ended : (d n : ℕ) (r : Answer) (cs' relay' : List ℕ) → cs' ≡ end_session cs c d → n ≡ length (encode session_end_notification)
      → relay' ≡ put relay 0 (encode session_end_notification) → r ≡ coded (relayed n d) → handled r cs' ls reply relay' ≡ applied (plan_end (lent cs ls al) c d) reply relay
  unfolding applied plan_end put
  ended d n r cs' relay' e hn hr a = rw (a, e, hr, hn)

  -- d, the peer that the connection names, being in session with it or not
  module _ (d : ℕ) (hd : d ≡ peer cs c) (s : Bool) (e : s ≡ in_session cs c d) where
    in_session_lem : s ≡ has_session cs c
    unfolding has_session
    in_session_lem = e ∙ rw hd

    pub ended_if_any : (x : Handled) → s ≡ true → x ≡ applied (plan_end (lent cs ls al) c d) reply relay
        → x ≡ applied (if has_session cs c then plan_end (lent cs ls al) c (peer cs c) else do_nothing (lent cs ls al)) reply relay
    ended_if_any x h f = rw (← in_session_lem, h, ← hd) f

    pub ended_if_none : (r : Answer) → s ≡ false → r ≡ coded (sent_nothing 0)
        → handled r cs ls reply relay
        ≡ applied (if has_session cs c then plan_end (lent cs ls al) c (peer cs c) else do_nothing (lent cs ls al)) reply relay
    ended_if_none r h a = rw (← in_session_lem, h) (nothing-done cs ls al reply relay r a)

-- ---- data

-- The data of a message that may be sent is all of it but the type. It was copied whole.
module _ (m relay bytes : List ℕ) (ok : Sendable m relay) (hd : bytes ≡ drop 1 m) (r : Option ℕ) (relay' : List ℕ) (e : copied r relay' ≡ copy_data bytes relay) where
  size : suc (length (drop 1 m)) ≡ length m
  size = by m ok.some
    where
      by : (m : List ℕ) → 0 < length m → suc (length (drop 1 m)) ≡ length m
      by [] h = absurd (omega arith)
      by (x ∷ xs) h = refl

  all : (r ≡ Some (length (encode (data_receive (drop 1 m))))) × (relay' ≡ put relay 0 (encode (data_receive (drop 1 m))))
  all = copied_all (drop 1 m) relay r relay' (rw (← hd) e) (omega (arith, size, ok.room))

  pub was-copied : IsSome r
  was-copied = rw all.0

  module _ (n : ℕ) (told : r ≡ Some n) where
    pub copied-whole : (n ≡ length (encode (data_receive (drop 1 m)))) × (relay' ≡ put relay 0 (encode (data_receive (drop 1 m))))
    copied-whole = let same = all.0 in (cc, all.1)

    pub copied-short : n ≤ longest_message
    unfolding encode
    copied-short = omega (arith, copied-whole.0, size, ok.short)

-- the data was copied, and goes to d
pub sent_on : (cs ls al reply relay bytes : List ℕ) (d n : ℕ) (r : Answer) (relay' : List ℕ)
    → (n ≡ length (encode (data_receive bytes))) × (relay' ≡ put relay 0 (encode (data_receive bytes))) → r ≡ coded (relayed n d)
    → handled r cs ls reply relay' ≡ applied (plan_data (lent cs ls al) d bytes) reply relay
unfolding applied plan_data put
sent_on cs ls al reply relay bytes d n r relay' h a = rw (a, h.1, h.0)
