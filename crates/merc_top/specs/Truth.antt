-- That the answers of a run are true of the clauses, and that nothing else is.
use Rattle.std.specs.Prelude.{◌≡◌, ◌<◌, ◌⊎◌, ℕ, List, map, Option, Some}
use Rattle.merc_base.specs.Outside.{Files}
use Rattle.merc_graded_tree.specs.Variables.{among}
use Rattle.merc_meaning.specs.Trace.{Env, Run}
use Rattle.merc_meaning.specs.Runs.{Program}
use Rattle.merc_meaning.specs.Programs.{program_with}
use Rattle.merc_meaning.specs.Truth.{Assignment, IsAssignment, YesAt, NoAt}
use Rattle.merc_check.specs.Accepted.{query_answers}
use Rattle.merc_program_laws.specs.Instances.{EachOfRun, HasOfRun, EndsFreely}
use Rattle.merc_solving.specs.RunLines.{run_lines, run_status}
use Rattle.merc_top.specs.Output.{IsAskedRun, IsOutput}
use Rattle.merc_top.specs.Asking.{AsksRun}

-- Given is a run that a goal's text asks for over a file's text.
module _ {file goal : List ℕ} {steps : ℕ} {names : List (List ℕ)} {variables : List ℕ} {asked : Run} (ran : IsAskedRun file goal steps names variables asked) where
  abbrev pub asked_program : Program
  asked_program = program_with ran.found.preds ran.trees

  -- the variables that answers give values
  abbrev pub asked_variables : List ℕ
  asked_variables = query_answers names ran.found ran.term

  -- what an assignment gives these
  abbrev pub instance_of : Assignment → Env
  instance_of values = map (λ variable. Some (values variable)) asked_variables

  -- An answer is true: with its values the goal is yes, at each stage that is greater than the limit of steps. All other variables are there to be found.
  pub record IsTrueAnswer (answer : Env) : Type 0 where
    pub values : Assignment
    pub are_values : IsAssignment values
    pub gives : instance_of values ≡ answer
    pub yes : (stage : ℕ) → steps < stage → YesAt asked_program stage (among asked_variables) ran.tree values

  -- An instance is false: with its values the goal is no, at each such stage.
  abbrev pub IsFalseInstance : Assignment → Type 0
  IsFalseInstance values = (stage : ℕ) → steps < stage → NoAt asked_program stage (among asked_variables) ran.tree values

  -- every instance that is none of the answers is false
  abbrev pub OthersAreFalse : Type 0
  OthersAreFalse = (values : Assignment) → IsAssignment values → IsFalseInstance values ⊎ HasOfRun (λ answer. instance_of values ≡ answer) asked

-- Where the words ask for a run over these files, its lines and its status are what is due, each of its answers is true, and where it ends freely every other instance of the
-- goal is false.
pub record IsTruthful (words : List (List ℕ)) (files : Files) : Type 0 where
  pub lines : (names : List (List ℕ)) (variables : List ℕ) (most : Option ℕ) (asked : Run) → AsksRun words files names variables most asked
      → (lines : List (List ℕ)) (due : ℕ) → IsOutput words files lines due → (lines ≡ run_lines names variables most asked) × (due ≡ run_status most asked)
  pub solutions : (names : List (List ℕ)) (variables : List ℕ) (most : Option ℕ) (asked : Run) (asks : AsksRun words files names variables most asked)
      → EachOfRun (IsTrueAnswer asks.run_is) asked
  pub others : (names : List (List ℕ)) (variables : List ℕ) (most : Option ℕ) (asked : Run) (asks : AsksRun words files names variables most asked)
      → EndsFreely asked → OthersAreFalse asks.run_is
