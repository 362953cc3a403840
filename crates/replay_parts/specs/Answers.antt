-- What a replay answers, as C has it.
use Rattle.std.specs.Prelude.{ℕ, List, Result, Ok, Err}
use Rattle.journal.specs.Replays.{Verdict, agrees, contradicted_at}
use Rattle.journal.specs.Replays as journal
use Rattle.replay_parts.specs.declared.Replayed.{Replayed}
use Rattle.replay_parts.specs.declared.Contradiction.{Contradiction}

abbrev pub answer_of : ℕ → ℕ → ℕ → Replayed
answer_of number contradicted place = record { number = number; contradicted = contradicted; place = place }

-- the answer with the allowances that are left, as the rules have it
abbrev pub with_allowances : Replayed → List ℕ → journal.Replayed
with_allowances r al = record { number = r.number; contradicted = r.contradicted; place = r.place; allowances = al }

-- what judging answers, with what is kept at its end, as the rules have it
abbrev pub verdict_of : {State : Type 0} → Result Unit Contradiction → State → Verdict State
verdict_of (Ok done) s = agrees s
verdict_of (Err at) s = contradicted_at at.place
