-- The answers, the end and the steps of a run.
use Rattle.std.specs.Prelude.{ℕ, suc, zero, Bool, false, nat_le, List, [], ◌∷◌, length, take, Option, Some, None}
use Rattle.merc_meaning.specs.Trace.{Env, Run, RunEnd, Ends, Tick, Answer}

abbrev pub answers_of : Run → List Env
answers_of (Ends end) = []
answers_of (Tick rest) = answers_of rest
answers_of (Answer env rest) = env ∷ answers_of rest

abbrev pub end_of : Run → RunEnd
end_of (Ends end) = end
end_of (Tick rest) = end_of rest
end_of (Answer env rest) = end_of rest

-- how many steps a run has
abbrev pub steps_of : Run → ℕ
steps_of (Ends end) = zero
steps_of (Tick rest) = suc (steps_of rest)
steps_of (Answer env rest) = steps_of rest

-- A bound may be given for the answers that are told. Nothing behind as many answers is looked for.

-- the answers that are told
abbrev pub answers_told : Option ℕ → Run → List Env
answers_told None run = answers_of run
answers_told (Some most) run = take most (answers_of run)

-- whether a run comes to as many answers as the bound
abbrev pub is_stopped : Option ℕ → Run → Bool
is_stopped None run = false
is_stopped (Some most) run = nat_le most (length (answers_of run))

-- how many steps a run has before the last of so many answers, or before its end where it has fewer
abbrev pub steps_before : ℕ → Run → ℕ
steps_before zero run = zero
steps_before (suc count) (Ends end) = zero
steps_before (suc count) (Tick rest) = suc (steps_before (suc count) rest)
steps_before (suc count) (Answer env rest) = steps_before count rest

-- the steps that are made
abbrev pub steps_made : Option ℕ → Run → ℕ
steps_made None run = steps_of run
steps_made (Some most) run = steps_before most run
