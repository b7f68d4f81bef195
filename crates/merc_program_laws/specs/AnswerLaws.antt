-- What the answers of a good program say of truth.
use Rattle.std.specs.Prelude.{◌≡◌, ◌⊎◌, ℕ, ◌<◌, ◌≤◌, true, is_some, List, length}
use Rattle.merc_tree.specs.Types.{TypeExpr}
use Rattle.merc_tree.specs.declared.declarations.ModeDecl.{ModeDecl}
use Rattle.merc_tree.specs.declared.declarations.PredDecl.{PredDecl}
use Rattle.merc_tree.specs.declared.declarations.Module.{Module}
use Rattle.merc_graded_tree.specs.declared.basic.Procedure.{Procedure}
use Rattle.merc_graded_tree.specs.Nodes.{Node}
use Rattle.merc_graded_tree.specs.Variables.{among}
use Rattle.merc_grading.specs.Faults.{Body}
use Rattle.merc_meaning.specs.Trace.{Env, Trace, Run}
use Rattle.merc_meaning.specs.Steps.{value_at}
use Rattle.merc_meaning.specs.Runs.{Program, call_trace, run}
use Rattle.merc_meaning.specs.Truth.{Assignment, IsAssignment, YesCall, NoCall, YesAt, NoAt}
use Rattle.merc_program_laws.specs.Answers.{Each, Has, IsDone}
use Rattle.merc_program_laws.specs.GoodPrograms.{IsGoodProgram, IsGoodQuery, program_of}
use Rattle.merc_program_laws.specs.CategoryLaws.{Enters, IsProcedure}
use Rattle.merc_program_laws.specs.Instances.{IsCallInstance, IsAnswer, EachOfRun, HasOfRun, EndsFreely}

-- Calls.

-- each answer is true: the call is yes under every assignment that is an instance of the answer
abbrev pub AnswersAreYes : Program → ℕ → Procedure → List ℕ → Trace → Type 0
AnswersAreYes program stage procedure arguments trace =
    Each (λ answer. (values : Assignment) → IsAssignment values → IsCallInstance arguments values answer → YesCall program stage procedure arguments values) trace

-- Where the trace ends Done, every other instance of the call's inputs is no.
abbrev pub OthersAreNo : Program → ℕ → Procedure → List ℕ → Env → Trace → Type 0
OthersAreNo program stage procedure arguments env trace =
    IsDone trace → (values : Assignment) → IsAssignment values → IsCallInstance arguments values env
    → NoCall program stage procedure arguments values ⊎ Has (IsCallInstance arguments values) trace

-- What holds of each call of a good program, over any variables as arguments and whatever the type variables of the predicate's arguments stand for, where
-- its inputs are well typed: of its trace up to a depth, and of each stage that is no less.
abbrev pub OfEachCall : (Program → ℕ → Procedure → List ℕ → Env → Trace → Type 0) → Type 0
OfEachCall Holds =
    (known : Module) (bodies : List Body) → IsGoodProgram known bodies
    → (procedure : Procedure) (declared : PredDecl) (mode : ModeDecl) → IsProcedure known procedure declared mode
    → (instance : (ℕ → TypeExpr)) (env : Env) → Enters known.types instance mode.args declared.args env
    → (arguments : List ℕ) → length mode.args ≡ length arguments
    → (depth stage : ℕ) → depth ≤ stage
    → Holds (program_of known.preds bodies) stage procedure arguments env (call_trace (program_of known.preds bodies) depth procedure env)

abbrev pub AnswersLaw : Type 0
AnswersLaw = OfEachCall (λ program stage procedure arguments env trace. AnswersAreYes program stage procedure arguments trace)

abbrev pub OthersLaw : Type 0
OthersLaw = OfEachCall OthersAreNo

-- Goals that are asked.

-- each answer gives every answer variable a value
abbrev pub AnswersAreWhole : List ℕ → Run → Type 0
AnswersAreWhole answers ran = EachOfRun (λ answer. (variable : ℕ) → among answers variable ≡ true → is_some (value_at answer variable) ≡ true) ran

-- each answer is true: the goal is yes with the answer's values, and whatever values all other variables have
abbrev pub RunAnswersAreYes : Program → ℕ → List ℕ → Node → Run → Type 0
RunAnswersAreYes program stage answers goal ran =
    EachOfRun (λ answer. (values : Assignment) → IsAssignment values → IsAnswer answers values answer → YesAt program stage (among answers) goal values) ran

-- Where the run ends freely, the goal is no with all other values of its answer variables.
abbrev pub RunOthersAreNo : Program → ℕ → List ℕ → Node → Run → Type 0
RunOthersAreNo program stage answers goal ran =
    EndsFreely ran → (values : Assignment) → IsAssignment values → NoAt program stage (among answers) goal values ⊎ HasOfRun (IsAnswer answers values) ran

-- what holds of the run of each good goal over a good program, whatever its limit, and of each stage that is greater
abbrev pub OfEachRun : (Program → ℕ → List ℕ → Node → Run → Type 0) → Type 0
OfEachRun Holds =
    (known : Module) (bodies : List Body) → IsGoodProgram known bodies → (answers : List ℕ) (query : Body) → IsGoodQuery known answers query
    → (limit stage : ℕ) → limit < stage
    → Holds (program_of known.preds bodies) stage answers query.tree (run (program_of known.preds bodies) query.tree limit)

abbrev pub RunAnswersLaw : Type 0
RunAnswersLaw = OfEachRun RunAnswersAreYes

abbrev pub RunOthersLaw : Type 0
RunOthersLaw = OfEachRun RunOthersAreNo

abbrev pub WholeAnswersLaw : Type 0
WholeAnswersLaw = OfEachRun (λ program stage answers goal ran. AnswersAreWhole answers ran)
