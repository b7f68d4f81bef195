-- What holds of the runs of accepted modules and goals.
use Rattle.std.specs.Prelude.{◌≡◌, ℕ, ◌<◌, ◌≤◌, List, length}
use Rattle.std.specs.List.{IsDistinct}
use Rattle.std.specs.Str.{bytes_eq}
use Rattle.merc_base.specs.Names.{HoldsFixed}
use Rattle.merc_tree.specs.Term.{Term}
use Rattle.merc_tree.specs.Types.{TypeExpr}
use Rattle.merc_tree.specs.declared.declarations.ModeDecl.{ModeDecl}
use Rattle.merc_tree.specs.declared.declarations.PredDecl.{PredDecl}
use Rattle.merc_tree.specs.declared.declarations.Module.{Module}
use Rattle.merc_graded_tree.specs.declared.basic.Procedure.{Procedure}
use Rattle.merc_graded_tree.specs.Nodes.{Node}
use Rattle.merc_order.specs.Bound.{nothing}
use Rattle.merc_grading.specs.Faults.{Body, finished}
use Rattle.merc_meaning.specs.Trace.{Env, Trace}
use Rattle.merc_meaning.specs.Runs.{Program, call_trace, run}
use Rattle.merc_meaning.specs.Programs.{program_with}
use Rattle.merc_program_laws.specs.Answers.{Each, KeepsTo}
use Rattle.merc_program_laws.specs.CategoryLaws.{Enters, GivesAll, Leaves, IsProcedure}
use Rattle.merc_program_laws.specs.Instances.{EachOfRun}
use Rattle.merc_program_laws.specs.AnswerLaws.{AnswersAreYes, OthersAreNo, AnswersAreWhole, RunAnswersAreYes, RunOthersAreNo}
use Rattle.merc_check.specs.Accepted.{AreGraded, HasBody, query_answers}
use Rattle.merc_check.specs.Checked.{IsAccepted, IsGoal}

-- A text is an accepted module, whose procedures have these trees with their switches and categories. The table of names holds the fixed ones first, and each
-- text once.
pub record IsChecked (before after : List (List ℕ)) (text : List ℕ) (items : List Term) (found : Module) (trees : List Node) : Type 0 where
  pub fixed : HoldsFixed before
  pub distinct : IsDistinct bytes_eq before
  pub accepted : IsAccepted before after text items found
  pub graded : AreGraded after found trees

-- What holds of each call over an accepted module, at each depth, whatever the type variables of the predicate's arguments stand for, where its inputs are
-- well typed.
abbrev pub OfEachCall : (PredDecl → ModeDecl → (ℕ → TypeExpr) → Module → Program → Procedure → Env → ℕ → Trace → Type 0) → Type 0
OfEachCall Holds =
    (before after : List (List ℕ)) (text : List ℕ) (items : List Term) (found : Module) (trees : List Node) → IsChecked before after text items found trees
    → (procedure : Procedure) (declared : PredDecl) (mode : ModeDecl) → IsProcedure found procedure declared mode
    → (instance : (ℕ → TypeExpr)) (env : Env) → Enters found.types instance mode.args declared.args env → (depth : ℕ)
    → Holds declared mode instance found (program_with found.preds trees) procedure env depth (call_trace (program_with found.preds trees) depth procedure env)

-- A call has as many answers as its mode's category allows.
abbrev pub CallsKeepToCategories : Type 0
CallsKeepToCategories = OfEachCall (λ declared mode instance found program procedure env depth trace. KeepsTo mode.category trace)

-- Each answer gives all arguments values of their types.
abbrev pub CallsAnswerInTypes : Type 0
CallsAnswerInTypes = OfEachCall (λ declared mode instance found program procedure env depth trace. Each (Leaves found.types instance declared.args env) trace)

-- Each answer is true at each stage that is no less than the depth, and where the trace ends Done every other instance of the inputs is not.
abbrev pub CallsAnswerTruly : Type 0
CallsAnswerTruly =
    OfEachCall (λ declared mode instance found program procedure env depth trace. (arguments : List ℕ) → length mode.args ≡ length arguments → (stage : ℕ) → depth ≤ stage
    → AnswersAreYes program stage procedure arguments trace × OthersAreNo program stage procedure arguments env trace)

-- a goal's tree with its switches and categories
abbrev pub IsGradedGoal : List (List ℕ) → Module → Term → Node → Type 0
IsGradedGoal names found goal tree = (body : Body) → HasBody names found goal body → tree ≡ finished found.types found.preds nothing body

-- Each answer of the run of an accepted goal gives all answer variables values, and is true at each stage greater than the limit; and where the run ends
-- freely the goal is not with all other values.
abbrev pub RunsAnswerTruly : Type 0
RunsAnswerTruly =
    (before after : List (List ℕ)) (text : List ℕ) (items : List Term) (found : Module) (trees : List Node) → IsChecked before after text items found trees
    → (names : List (List ℕ)) (asked : List ℕ) (goal : Term) → IsGoal after names found asked goal → (tree : Node) → IsGradedGoal names found goal tree
    → (limit stage : ℕ) → limit < stage
    → AnswersAreWhole (query_answers names found goal) (run (program_with found.preds trees) tree limit)
    × RunAnswersAreYes (program_with found.preds trees) stage (query_answers names found goal) tree (run (program_with found.preds trees) tree limit)
    × RunOthersAreNo (program_with found.preds trees) stage (query_answers names found goal) tree (run (program_with found.preds trees) tree limit)

-- Each of these answers gives all answer variables values of their types, whatever types by which the goal is typed its variables have, and whatever the type
-- variables among these stand for.
abbrev pub RunsAnswerInTypes : Type 0
RunsAnswerInTypes =
    (before after : List (List ℕ)) (text : List ℕ) (items : List Term) (found : Module) (trees : List Node) → IsChecked before after text items found trees
    → (names : List (List ℕ)) (asked : List ℕ) (goal : Term) → IsGoal after names found asked goal → (tree : Node) → IsGradedGoal names found goal tree
    → (body : Body) → HasBody names found goal body → (instance : (ℕ → TypeExpr)) (limit : ℕ)
    → EachOfRun (GivesAll found.types instance body.types (query_answers names found goal)) (run (program_with found.preds trees) tree limit)
