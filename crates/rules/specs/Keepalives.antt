-- Dead connections (02, Item 3): when a connection is dead and when it is asked, and what is written of what it is sent and of its answers.
use Rattle.std.specs.Prelude.{ℕ, ◌-◌, Bool, not, ◌&&◌, List, eqb, leb, if◌then◌else◌}
use Rattle.rules.specs.Sizes.{keepalive_timeout, answer_timeout}
use Rattle.rules.specs.Tables.{is_unanswered, last_sent, keepalive_sent, set_unanswered, set_last_sent, set_keepalive_sent}

-- "A stored reading after the present one counts as no time passed": a difference that would be negative is 0
abbrev pub elapsed : ℕ → ℕ → ℕ
elapsed now since = now - since

-- "unanswered for 60 seconds or more"
unfoldable pub is_dead : List ℕ → ℕ → ℕ → Bool
is_dead cs now c = is_unanswered cs c && leb answer_timeout (elapsed now (keepalive_sent cs c))

-- "none unanswered and nothing sent for 30 seconds or more"
unfoldable pub is_due : List ℕ → ℕ → ℕ → Bool
is_due cs now c = not (is_unanswered cs c) && leb keepalive_timeout (elapsed now (last_sent cs c))

-- "The Keepalive .. sets byte 2 and both readings": 4-8 as every message sent does, here the others
unfoldable pub ask : List ℕ → ℕ → ℕ → List ℕ
ask cs now c = set_keepalive_sent (set_unanswered cs c 1) c now

-- "Any done message from the connection clears byte 2."
unfoldable pub answered : List ℕ → ℕ → List ℕ
answered cs c = set_unanswered cs c 0

-- "4-8 the reading of the last message sent to it": a message of n bytes for connection c. One of none is not sent.
unfoldable pub stamp : List ℕ → ℕ → ℕ → ℕ → List ℕ
stamp cs now n c = if eqb n 0 then cs else set_last_sent cs c now
