-- What the checks of a message find, but for the last, as the code has it.
use Rattle.std.specs.Prelude.{ℕ, List, [], ◌∷◌, Option, Some, None, Result, Ok, Err, if◌then◌else◌}
use Rattle.svsc.specs.Messages.{type_of}
use Rattle.rules.specs.Tables.{peer, has_session}
use Rattle.rules.specs.Calls.{Call}
use Rattle.rules.specs.Checks.{wrong_state, wrong_lengths, not_from_peer, not_permitted, needs_session, first_applying}
use Rattle.refusal_numbers.specs.declared.Refusal.{Refusal}
use Rattle.refusal_numbers.specs.declared.Refusal.TheVariants.{NoSession}

-- checks 4 to 7
unfoldable pub own_checks : List ℕ → Call → ℕ
own_checks cs call = first_applying 4 (wrong_state cs call ∷ wrong_lengths call ∷ not_from_peer call ∷ not_permitted cs call ∷ [])

-- check 8 of a message of this type
unfoldable pub session_check : List ℕ → ℕ → ℕ → Result (Option ℕ) Refusal
session_check cs c type = if needs_session type then (if has_session cs c then Ok (Some (peer cs c)) else Err NoSession) else Ok None

-- What check 8 finds of a message that passes it: the other connection, if it looks the session up.
unfoldable pub found : List ℕ → ℕ → List ℕ → Option ℕ
found cs c m = if needs_session (type_of m) then Some (peer cs c) else None
