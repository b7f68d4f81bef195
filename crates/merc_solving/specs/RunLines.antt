-- The lines of a run, and its status.
use Rattle.std.specs.Prelude.{ℕ, suc, zero, List, [], ◌∷◌, ◌++◌, length, map, Option, unwrap_or, codes, if◌then◌else◌}
use Rattle.std.specs.List.{zip}
use Rattle.std.specs.Fmt.{decimal}
use Rattle.merc_value.specs.Value.{Value}
use Rattle.merc_value.specs.Block.{no_value}
use Rattle.merc_value.specs.Text.{text_at, value_text}
use Rattle.merc_meaning.specs.Trace.{Env, Run, RunEnd, RunDone, RunRaised, LimitPassed}
use Rattle.merc_transfer.specs.Statuses.{solved_status, unsolved_status, raised_status, limit_status}
use Rattle.merc_solving.specs.Lines.{line, comma_list}
use Rattle.merc_solving.specs.Runs.{answers_of, answers_told, end_of, is_stopped}

-- Given are the texts of names.
module _ (names : List (List ℕ)) where
  -- `V = value`, for the name of a variable
  abbrev pub binding : ℕ → Value → List ℕ
  binding variable value = text_at names variable ++ codes " = " ++ value_text names value

  -- a binding for each of these variables
  abbrev pub bindings : List ℕ → List Value → List (List ℕ)
  bindings variables values = map (λ pair. binding pair.0 pair.1) (zip variables values)

  -- The line of an answer that gives these variables values; one without a value, which no answer variable is, has that of an empty list.
  abbrev pub solution_line : List ℕ → Env → List ℕ
  solution_line variables values = line (comma_list (bindings variables (map (λ value. unwrap_or value no_value) values)))

  -- the last line of a run with so many solutions
  abbrev pub end_line : ℕ → RunEnd → List ℕ
  end_line count RunDone = line (codes "solutions " ++ decimal count)
  end_line count (RunRaised text) = line (codes "uncaught exception: " ++ text_at names text)
  end_line count LimitPassed = line (codes "step limit passed")

  -- the last line of a run that is stopped behind so many solutions
  abbrev pub stopped_line : ℕ → List ℕ
  stopped_line count = line (codes "stopped after " ++ decimal count)

  abbrev pub last_line : Option ℕ → Run → List ℕ
  last_line most run = if is_stopped most run then stopped_line (length (answers_told most run)) else end_line (length (answers_of run)) (end_of run)

  -- the lines of a run whose answers give these variables values: its solutions in order, up to a bound where one is given, then its end
  abbrev pub run_lines : List ℕ → Option ℕ → Run → List (List ℕ)
  run_lines variables most run = map (solution_line variables) (answers_told most run) ++ last_line most run ∷ []

-- the status of a run with so many solutions
abbrev pub end_status : ℕ → RunEnd → ℕ
end_status zero RunDone = unsolved_status
end_status (suc count) RunDone = solved_status
end_status count (RunRaised text) = raised_status
end_status count LimitPassed = limit_status

abbrev pub run_status : Option ℕ → Run → ℕ
run_status most run = if is_stopped most run then solved_status else end_status (length (answers_of run)) (end_of run)
