-- What a writer leaves. 01 'Messages, by first byte', 'Answer numbers and their order'.
use Rattle.std.specs.Prelude.{ℕ, Bool, not, List, length, ltb, if◌then◌else◌, Result, Ok, Err}
use Rattle.octets.specs.Octets.{put}
use Rattle.svsc.specs.Messages.{Message, encode, well_formed}
use Rattle.svsc.specs.declared.Written.{Written}
use Rattle.svsc.specs.declared.Refused.{Refused}
use Rattle.svsc.specs.declared.Refused.TheVariants as case

-- the number, how many bytes were written, and the buffer afterwards
pub record WriteOutcome : Type 0 where
  pub number : ℕ
  pub length : ℕ
  pub buffer : List ℕ

-- "its writer refuses a field outside its range (6) before a tray too short for the message (5)"; a refusal alters no byte; on 0 "each tray starts
-- with its message, and its further bytes stay"
unfoldable pub emit : Bool → List ℕ → List ℕ → WriteOutcome
emit fits bytes buffer =
    if not fits then record { number = 6; length = 0; buffer = buffer }
    else if ltb (length buffer) (length bytes) then record { number = 5; length = 0; buffer = buffer }
    else record { number = 0; length = length bytes; buffer = put buffer 0 bytes }

unfoldable pub write : Message → List ℕ → WriteOutcome
write m buffer = emit (well_formed m) (encode m) buffer

-- a writer's answer, with the buffer that it leaves
abbrev pub written : Written → List ℕ → WriteOutcome
written w buffer = record { number = w.number; length = w.length; buffer = buffer }

-- "its reader refuses with 6 whatever the table hasn't got", "its writer refuses a field outside its range (6) before a tray too short for the message (5)"
abbrev pub number_of : Refused → ℕ
number_of case.Malformed = 6
number_of case.NoRoom = 5

-- what a writer answers, as C has it: how many bytes were written, or the number of what refuses it
abbrev pub as_written : Result ℕ Refused → Written
as_written (Ok n) = record { number = 0; length = n }
as_written (Err r) = record { number = number_of r; length = 0 }
