-- What a run shows: its answers, its end, and its steps.
use Rattle.std.specs.Prelude.{◌≡◌, ℕ, suc, zero, List, [], ◌∷◌, length}
use Rattle.merc_meaning.specs.Trace.{Env, Run, RunEnd, Ends, Tick, Answer}

abbrev pub answers_of : Run → List Env
answers_of (Ends end) = []
answers_of (Tick rest) = answers_of rest
answers_of (Answer env rest) = env ∷ answers_of rest

abbrev pub end_of : Run → RunEnd
end_of (Ends end) = end
end_of (Tick rest) = end_of rest
end_of (Answer env rest) = end_of rest

-- how many steps a run has before the last of so many answers, or before its end where it has fewer
abbrev pub steps_before : ℕ → Run → ℕ
steps_before zero run = zero
steps_before (suc count) (Ends end) = zero
steps_before (suc count) (Tick rest) = suc (steps_before (suc count) rest)
steps_before (suc count) (Answer env rest) = steps_before count rest

-- a run behind so many steps
abbrev pub behind_steps : ℕ → Run → Run
behind_steps zero run = run
behind_steps (suc count) run = Tick (behind_steps count run)

-- This run is left of a whole one behind so many answers and steps.
pub data IsLeftOf (whole : Run) : (given made : ℕ) → Run → Type 0 where
  begins : IsLeftOf whole zero zero whole
  ticked : (given made : ℕ) (rest : Run) → IsLeftOf whole given made (Tick rest) → IsLeftOf whole given (suc made) rest
  answered : (given made : ℕ) (env : Env) (rest : Run) → IsLeftOf whole given made (Answer env rest) → IsLeftOf whole (suc given) made rest

-- a run has so many answers, and this end
pub record HasEnded (run : Run) (given : ℕ) (end : RunEnd) : Type 0 where
  pub all : length (answers_of run) ≡ given
  pub is_end : end_of run ≡ end
