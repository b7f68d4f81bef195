-- The run that a course shows with its conjuncts one behind the other, up to a limit of steps.
use Rattle.std.proofs.Common.{◌≡◌, ℕ, zero, suc, List, map, refl, ap, ◌∙◌}
use Rattle.merc_meaning.specs.Trace.{Env, Trace, Run, Ends, Tick as EventTick, Answer as EventAnswer, Done as TraceDone, Raised as TraceRaised, TooDeep as TraceTooDeep, RunDone, RunRaised, LimitPassed, cut}
use Rattle.merc_meaning.specs.Steps.{value_at}
use Rattle.merc_meaning.specs.Shown.{shown}
use Rattle.merc_plan.specs.Branch.{Hold, Raised, TooDeep, Starving}
use Rattle.merc_plan.proofs.Flat.{Flat, Done, Halts, Tick, Answer, Like, events}

-- Given are the variables of which answers show the values.
module _ (variables : List ℕ) where
  -- they have the same values, or none
  abbrev pub Agree : Hold → Env → Type 0
  Agree hold env = map (value_at hold.env) variables ≡ map (value_at env) variables

  -- of one that starves it is any run
  abbrev pub run_of : ℕ → Flat Hold → Run
  run_of l Done = Ends RunDone
  run_of l (Halts (Raised text)) = Ends (RunRaised text)
  run_of l (Halts TooDeep) = Ends LimitPassed
  run_of l (Halts Starving) = Ends LimitPassed
  run_of zero (Tick t) = Ends LimitPassed
  run_of (suc l) (Tick t) = EventTick (run_of l t)
  run_of l (Answer hold t) = EventAnswer (map (value_at hold.env) variables) (run_of l t)

  -- of one that is like a trace it is the trace's
  pub run_same : (t : Flat Hold) (trace : Trace) → Like Agree t (events trace) → (l : ℕ) → run_of l t ≡ shown variables (cut l trace)
  run_same Done (Ends TraceDone) h l = refl
  run_same t (Ends TraceDone) h l = absurd h
  run_same (Halts g) (Ends (TraceRaised text)) h l = ap (λ halt. run_of l (Halts halt)) h
  run_same t (Ends (TraceRaised text)) h l = absurd h
  run_same (Halts g) (Ends TraceTooDeep) h l = ap (λ halt. run_of l (Halts halt)) h
  run_same t (Ends TraceTooDeep) h l = absurd h
  run_same (Tick t) (EventTick u) h zero = refl
  run_same (Tick t) (EventTick u) h (suc l) = ap (λ r. EventTick r) (run_same t u h l)
  run_same (Answer hold t) (EventAnswer env u) h l =
      ap (λ values. EventAnswer values (run_of l t)) h.0 ∙ ap (λ r. EventAnswer (map (value_at env) variables) r) (run_same t u h.1 l)
  run_same t trace h l = absurd h
