-- How a caller uses the reader's answer: what it says of the bytes. Assumes nothing.
use Prim.Native.Nat.{ℕ}
use mathlib.Core.Path.{◌≡◌, sym, ap, ◌∙◌}
use mathlib.Core.Option as math
use mathlib.Core.List.{List}
use Rattle.std.specs.Prelude.{Option, Some, None, is_some}
use Rattle.svsc.specs.Messages.{Message, decode}
use Rattle.svsc.specs.Messages as svsc
use Rattle.svsc_decoded.specs.Reading.{Answer, answer, meaning, message_of}
use Rattle.svsc_decoded.specs.declared.Decoded.{Decoded}

-- what is so of the message that was read, or of none, is so of what the bytes are
pub of_read : {A : Type 0} (f : math.Option Message → A) (x : math.Option Message) (m : List ℕ) → answer x ≡ answer (decode m) → (r : A) → r ≡ f x → r ≡ f (decode m)
of_read f x m h r made = made ∙ ap (λ (a : Answer). f a.message) h

-- in the arm of the case e, the message is the one that `message_of` lists for it
pub of_case : {A : Type 0} (f : Message → A) (d : Decoded) (m : List ℕ) (e : Decoded) (r : A) → d ≡ e → r ≡ f (message_of e m) → r ≡ f (message_of d m)
of_case f d m e r told made = made ∙ ap (λ (x : Decoded). f (message_of x m)) (sym told)

pub is_read : (o : Option Decoded) (m : List ℕ) → meaning o m ≡ answer (decode m) → is_some o ≡ svsc.is_some (decode m)
is_read None m h = ap (λ (a : Answer). svsc.is_some a.message) h
is_read (Some d) m h = ap (λ (a : Answer). svsc.is_some a.message) h
