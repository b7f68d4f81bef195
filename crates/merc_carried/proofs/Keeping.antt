-- What is known of a course that keeps to its script, item by item.
use Rattle.std.proofs.Common.{◌≡◌, ℕ, zero, suc, ◌+◌, ◌-◌, List, [], ◌∷◌, Option, Some, None, slice_get, refl, ap, sym, ◌∙◌, subst, arith}
use Rattle.merc_value.specs.Value.{Value}
use Rattle.merc_meaning.specs.Trace.{Env, Run, RunEnd, RunDone, RunRaised, LimitPassed, Ends as RunEnds, Tick as RunTick, Answer as RunAnswer}
use Rattle.merc_script.specs.declared.outcome.Outcome.{Outcome}
use Rattle.merc_script.specs.declared.outcome.Outcome.TheVariants.{Ok as Fine, Raise, Limit, Starved, NoMemory}
use Rattle.merc_script.specs.declared.cells.Move.{Move}
use Rattle.merc_script.specs.Script.{Script, Ends, TickThen, WaitThen, SignalThen, ForkThen, Children, NoChild, Child, Cell, ends}
use Rattle.merc_script.specs.Places.{child_at}
use Rattle.merc_script.specs.Joining.{joined, later}
use Rattle.merc_course.specs.Course.{RunCourse, Ends as CourseEnds, Tick, Answer, Meets, AtWait, AtSignal, AtFork, Reply, Given, Passed, Joined, Courses, no_courses, more_courses}
use Rattle.merc_rights.specs.declared.sites.SiteInfo.{SiteInfo}
use Rattle.merc_board.specs.Rights.{Due, Owed, Rights, wait_for, signal_for}
use Rattle.merc_carried.specs.Sharing.{IsForkOf, rights_of_child, rights_behind}
use Rattle.merc_carried.specs.Runs.{behind_steps}
use Rattle.merc_carried.specs.KeepsTo.{KeepsTo, AllKeepTo, ShowsEnd, with_waits, with_signals, done, raised, limited, ticks, answers, waits, starves, hands, goes_on, ends_there, keep_none, keep_more}

some_value : {one other : Value} → Some one ≡ Some other → one ≡ other
some_value e = cc

module _ (sites : List SiteInfo) (values : ℕ → Option Value) where
  -- A step.
  pub record KeepsTick (rights : Rights) (left made : ℕ) (run : Run) (course : RunCourse) (script : Script) : Type 0 where
    pub before : ℕ
    pub shown : Run
    pub rest : Script
    pub is_left : left ≡ suc before
    pub is_run : run ≡ RunTick shown
    pub is_script : script ≡ TickThen rest
    pub keeps : KeepsTo sites values rights before (suc made) shown course rest

  pub tick_keeps : (rights : Rights) (left made : ℕ) (run : Run) (course : RunCourse) (script : Script)
      → KeepsTo sites values rights left made run (Tick course) script → KeepsTick rights left made run course script
  tick_keeps rights _ made _ course _ (ticks _ before _ shown _ rest keeps) =
      record { before = before; shown = shown; rest = rest; is_left = refl; is_run = refl; is_script = refl; keeps = keeps }

  -- An answer.
  pub answer_keeps : (rights : Rights) (left made : ℕ) (run : Run) (env : Env) (course : RunCourse) (script : Script)
      → KeepsTo sites values rights left made run (Answer env course) script → (shown : Run) × (run ≡ RunAnswer env shown) × KeepsTo sites values rights left made shown course script
  answer_keeps rights left made _ env course script (answers _ _ _ _ shown _ _ keeps) = (shown, refl, keeps)

  -- Ends.
  pub done_keeps : (rights : Rights) (left made : ℕ) (run : Run) (script : Script) → KeepsTo sites values rights left made run (CourseEnds RunDone) script
      → (run ≡ RunEnds RunDone) × (script ≡ Ends (Fine made))
  done_keeps rights left made _ _ (done _ _ _) = (refl, refl)

  pub raised_keeps : (rights : Rights) (left made text : ℕ) (run : Run) (script : Script) → KeepsTo sites values rights left made run (CourseEnds (RunRaised text)) script
      → (run ≡ RunEnds (RunRaised text)) × (script ≡ Ends (Raise text made))
  raised_keeps rights left made text _ _ (raised _ _ _ _) = (refl, refl)

  pub limited_keeps : (rights : Rights) (left made : ℕ) (run : Run) (script : Script) → KeepsTo sites values rights left made run (CourseEnds LimitPassed) script
      → (run ≡ RunEnds LimitPassed) × (script ≡ Ends Limit)
  limited_keeps rights left made _ _ (limited _ _ _) = (refl, refl)

  -- A wait: the right for the variable is the cell's, and with the cell's value the course goes on behind it.
  pub record KeepsWait (rights : Rights) (left made : ℕ) (run : Run) (variable : ℕ) (next : Reply → RunCourse) (script : Script) : Type 0 where
    pub cell : ℕ
    pub others : List Due
    pub rest : Script
    pub is_script : script ≡ WaitThen cell rest
    pub found : wait_for variable rights.waits ≡ Some (cell, others)
    pub keeps : (value : Value) → values cell ≡ Some value → KeepsTo sites values (with_waits others rights) left made run (next (Given value)) rest

  pub wait_keeps : (rights : Rights) (left made : ℕ) (run : Run) (variable : ℕ) (forked : Courses RunEnd) (next : Reply → RunCourse) (script : Script)
      → KeepsTo sites values rights left made run (Meets (AtWait variable) forked next) script → KeepsWait rights left made run variable next script
  wait_keeps rights left made run variable forked next _ (waits _ _ _ _ _ cell others value _ _ rest found valued keeps) = record {
    cell = cell;
    others = others;
    rest = rest;
    is_script = refl;
    found = found;
    keeps = λ other is. subst (λ v. KeepsTo sites values (with_waits others rights) left made run (next (Given v)) rest) (some_value (sym valued ∙ is)) keeps;
  }
  wait_keeps rights left made run variable forked next _ (starves _ _ _ _ _ cell others _ _ found none) = record {
    cell = cell;
    others = others;
    rest = Ends Starved;
    is_script = refl;
    found = found;
    keeps = λ value is. absurd (no_value (sym none ∙ is));
  } where
    no_value : {value : Value} → None ≡ Some value → ⊥
    no_value e = cc

  -- A signal: the right for the variable is the cell's, and the value is the cell's.
  pub record KeepsSignal (rights : Rights) (left made : ℕ) (run : Run) (variable : ℕ) (value : Value) (next : Reply → RunCourse) (script : Script) : Type 0 where
    pub owed : Owed
    pub others : List Owed
    pub rest : Script
    pub is_script : script ≡ SignalThen owed.cell rest
    pub found : signal_for variable rights.signals ≡ Some (owed, others)
    pub valued : values owed.cell ≡ Some value
    pub keeps : KeepsTo sites values (with_signals others rights) left made run (next Passed) rest

  pub signal_keeps : (rights : Rights) (left made : ℕ) (run : Run) (variable : ℕ) (value : Value) (forked : Courses RunEnd) (next : Reply → RunCourse) (script : Script)
      → KeepsTo sites values rights left made run (Meets (AtSignal variable value) forked next) script → KeepsSignal rights left made run variable value next script
  signal_keeps rights left made run variable value forked next _ (hands _ _ _ _ _ owed others _ _ _ rest found valued keeps) =
      record { owed = owed; others = others; rest = rest; is_script = refl; found = found; valued = valued; keeps = keeps }

  -- A fork: what stands at its site, its conjuncts, and what is behind it.
  pub record KeepsFork (rights : Rights) (left made : ℕ) (run : Run) (site : ℕ) (forked : Courses RunEnd) (next : Reply → RunCourse) (script : Script) : Type 0 where
    pub info : SiteInfo
    pub cells : List Cell
    pub moves : List Move
    pub children : Children
    pub rest : Script
    pub is_script : script ≡ ForkThen left cells moves children rest
    pub found : slice_get sites site ≡ Some info
    pub is_fork : IsForkOf info cells children
    pub all : AllKeepTo sites values info cells rights left 1 forked children
    pub fine : (steps : ℕ) → joined left (ends children) ≡ Fine steps
        → (shown : Run) × (run ≡ behind_steps steps shown) × KeepsTo sites values (rights_behind info cells rights) (left - steps) (made + steps) shown (next (Joined steps)) rest
    pub other : ((steps : ℕ) → joined left (ends children) ≡ Fine steps → ⊥) → (rest ≡ Ends (later made (joined left (ends children)))) × ShowsEnd (joined left (ends children)) run

  some_steps : (one other : ℕ) (outcome : Outcome) → outcome ≡ Fine one → outcome ≡ Fine other → one ≡ other
  some_steps one other outcome is also = cc

  pub fork_keeps : (rights : Rights) (left made : ℕ) (run : Run) (site : ℕ) (forked : Courses RunEnd) (next : Reply → RunCourse) (script : Script)
      → KeepsTo sites values rights left made run (Meets (AtFork site) forked next) script → KeepsFork rights left made run site forked next script
  fork_keeps rights left made run site forked next _ (goes_on _ _ _ steps _ behind _ info cells moves _ _ children rest found is_fork all is is_run keeps) = record {
    info = info;
    cells = cells;
    moves = moves;
    children = children;
    rest = rest;
    is_script = refl;
    found = found;
    is_fork = is_fork;
    all = all;
    fine = λ other also. subst (λ n. (shown : Run) × (run ≡ behind_steps n shown) × KeepsTo sites values (rights_behind info cells rights) (left - n) (made + n) shown (next (Joined n)) rest)
        (some_steps steps other (joined left (ends children)) is also) (behind, is_run, keeps);
    other = λ none. absurd (none steps is);
  }
  fork_keeps rights left made run site forked next _ (ends_there _ _ _ _ _ info cells moves _ _ children end found is_fork all none is shows) = record {
    info = info;
    cells = cells;
    moves = moves;
    children = children;
    rest = Ends end;
    is_script = refl;
    found = found;
    is_fork = is_fork;
    all = all;
    fine = λ steps also. absurd (none steps also);
    other = λ _. (ap Ends is, shows);
  }
