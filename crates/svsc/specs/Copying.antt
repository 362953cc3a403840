-- The copying of sent data into the message that its receiver gets. 02, Item 4.
use Rattle.std.specs.Prelude.{ℕ, suc, List, ◌∷◌, ◌++◌, length, drop, ltb, if◌then◌else◌, Option, Some, None}

-- how many bytes were written, if they were, and the buffer afterwards
pub record Copied : Type 0 where
  pub length : Option ℕ
  pub buffer : List ℕ

abbrev pub copied : Option ℕ → List ℕ → Copied
copied n buffer = record { length = n; buffer = buffer }

-- "The copying is given the data and the tray, and no table: the tray then starts with 12 and the data and keeps the rest, or, too short,
-- all it held."
unfoldable pub copy_data : List ℕ → List ℕ → Copied
copy_data bytes buffer =
    if ltb (length buffer) (suc (length bytes)) then copied None buffer
    else copied (Some (suc (length bytes))) (12 ∷ (bytes ++ drop (suc (length bytes)) buffer))
