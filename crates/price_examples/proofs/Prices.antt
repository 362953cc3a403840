-- What calls cost, and what is left of a level: each part is computed by itself, since one run computes no more. Assumes nothing.
use mathlib.Core.Path.{refl}
use mathlib.Core.List.{List, ◌++◌, map-append}
use Rattle.examples.specs.Examples.{Example, Holds}
use Rattle.price_examples.specs.Prices.{opens, leases, cookies, extensions, sessions, sent, unpaid, left, prices}

beside : (a b : List Example) → Holds a → Holds b → Holds (a ++ b)
beside a b h k = rw (map-append (λ (e : Example). e.given) a b, map-append (λ (e : Example). e.said) a b, h, k)

opens-cost : Holds opens
unfolding opens
opens-cost = refl

leases-cost : Holds leases
unfolding leases
leases-cost = refl

cookies-cost : Holds cookies
unfolding cookies
cookies-cost = refl

extensions-cost : Holds extensions
unfolding extensions
extensions-cost = refl

sessions-cost : Holds sessions
unfolding sessions
sessions-cost = refl

sends-cost : Holds sent
unfolding sent
sends-cost = refl

free-calls : Holds unpaid
unfolding unpaid
free-calls = refl

levels-left : Holds left
unfolding left
levels-left = refl

-- The whole table.
pub worked_prices : Holds prices
worked_prices =
    beside opens _ opens-cost
    (beside leases _ leases-cost
    (beside cookies _ cookies-cost
    (beside extensions _ extensions-cost
    (beside sessions _ sessions-cost (beside sent _ sends-cost (beside unpaid left free-calls levels-left))))))
