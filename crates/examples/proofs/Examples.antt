-- The twelve worked examples of 01: "a single table carried by a single statement about the definitions". Assumes nothing.
use mathlib.Core.Path.{◌≡◌, refl}
use mathlib.Core.List.{[], ◌∷◌}
use Rattle.examples.specs.Examples.{Holds, numbers, examples, order}
use Rattle.examples.specs.Explained.{Told, explained}

pub worked_examples : Holds examples
unfolding examples
worked_examples = refl

-- None of the twelve is left out.
pub all_twelve : numbers examples ≡ 1 ∷ 2 ∷ 3 ∷ 4 ∷ 5 ∷ 6 ∷ 6 ∷ 7 ∷ 8 ∷ 8 ∷ 8 ∷ 9 ∷ 10 ∷ 11 ∷ 12 ∷ 12 ∷ []
unfolding examples
all_twelve = refl

-- Of two neighbouring checks that apply, the first decides.
pub checks_in_order : Holds order
unfolding order
checks_in_order = refl

pub all_pairs : numbers order ≡ 1 ∷ 2 ∷ 3 ∷ 4 ∷ 5 ∷ 6 ∷ 7 ∷ 8 ∷ []
unfolding order
all_pairs = refl

-- Reasons, worked out by hand.
pub reasons_told : Told explained
unfolding explained
reasons_told = refl
