-- The cases of the reader's answer that have no field of bytes. Assumes nothing.
use Prim.Native.Nat.{ℕ}
use mathlib.Core.Path.{◌≡◌, refl}
use mathlib.Core.Option.{some}
use mathlib.Core.List.{List, [], ◌∷◌}
use types.Run.{OneOf, miss}
use denote.Enum.Declared.{tag_of}
use Rattle.svsc_decoded.specs.Reading.{message_of}
use Rattle.svsc_decoded.specs.declared.Decoded.{Decoded}
use Rattle.svsc_decoded.specs.declared.Decoded.TheVariants as case
use Rattle.svsc_decoded.specs.contracts.Decoded.{the_type}
use Rattle.svsc_boundary.specs.Boundary.{fields, field_of}

-- the cases that have no field of bytes
abbrev pub fieldless : List ℕ
fieldless = 0 ∷ 1 ∷ 2 ∷ 4 ∷ 7 ∷ 8 ∷ 9 ∷ 10 ∷ 13 ∷ 14 ∷ 17 ∷ []

pub no_field : (d : Decoded) (m : List ℕ) (f : ℕ) → OneOf fieldless (tag_of the_type d) → [] ≡ field_of f (some (message_of d m))
unfolding fields
no_field (case.Version major minor) m f h = refl
no_field (case.VersionAnswer ok) m f h = refl
no_field case.LeaseRequest m f h = refl
no_field case.LeaseRequestWithCookie m f h = absurd (miss fieldless 3 tt h)
no_field case.LeaseRefused m f h = refl
no_field (case.LeaseGranted id expiration) m f h = absurd (miss fieldless 5 tt h)
no_field case.ExtensionRequest m f h = absurd (miss fieldless 6 tt h)
no_field case.ExtensionRefused m f h = refl
no_field (case.ExtensionGranted expiration) m f h = refl
no_field (case.EstablishRequest id) m f h = refl
no_field (case.EstablishRefused id status) m f h = refl
no_field (case.Established id) m f h = absurd (miss fieldless 11 tt h)
no_field case.EstablishNotification m f h = absurd (miss fieldless 12 tt h)
no_field case.SessionEnd m f h = refl
no_field case.SessionEndNotification m f h = refl
no_field case.DataSend m f h = absurd (miss fieldless 15 tt h)
no_field case.DataReceive m f h = absurd (miss fieldless 16 tt h)
no_field case.Keepalive m f h = refl
