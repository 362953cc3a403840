-- Searches by number: the first that passes a test, and whether one passes; over all lease rows or those of one partner.
-- The cases wait for the test, so that a search stops where it is decided.
use Rattle.std.specs.Prelude.{ℕ, zero, suc, ◌+◌, ◌*◌, Bool, true, false}
use Rattle.rules.specs.Sizes.{rows_per_partner}

-- the first of the n numbers from i on that passes; i + n if none does
unfoldable pub first_from : (ℕ → Bool) → ℕ → ℕ → ℕ
first_from f i zero = i
first_from f i (suc n) = elim (f i) [ true ↦ i | false ↦ first_from f (suc i) n ]

-- whether one of the n numbers from i on passes
unfoldable pub any_from : (ℕ → Bool) → ℕ → ℕ → Bool
any_from f i zero = false
any_from f i (suc n) = elim (f i) [ true ↦ true | false ↦ any_from f (suc i) n ]

-- "Partner p owns lease rows 16p to 16p+15": the first of them, and the first behind them
abbrev pub first_row : ℕ → ℕ
first_row p = rows_per_partner * p

abbrev pub end_row : ℕ → ℕ
end_row p = first_row p + rows_per_partner

-- the lowest row of partner p that passes, or the end of its rows
abbrev pub first_own : ℕ → (ℕ → Bool) → ℕ
first_own p f = first_from f (first_row p) rows_per_partner

-- whether a row of partner p passes
abbrev pub any_own : ℕ → (ℕ → Bool) → Bool
any_own p f = any_from f (first_row p) rows_per_partner
