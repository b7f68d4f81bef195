-- The text and the status that are due for given words and files.
use Rattle.std.specs.Prelude.{◌≡◌, ℕ, ◌<◌, ◌≤◌, ◌⊎◌, List, [], ◌∷◌, ◌++◌, length, Option, Some, None, codes}
use Rattle.std.specs.Fmt.{decimal}
use Rattle.merc_base.specs.Names.{fixed_names}
use Rattle.merc_base.specs.Outside.{Files, file_named}
use Rattle.merc_base.specs.Refusal.{refusal_text}
use Rattle.merc_base.specs.declared.refusal.Refusal.{Refusal}
use Rattle.merc_tree.specs.Term.{Term}
use Rattle.merc_tree.specs.declared.declarations.Module.{Module}
use Rattle.merc_graded_tree.specs.Nodes.{Node}
use Rattle.merc_meaning.specs.Trace.{Run}
use Rattle.merc_meaning.specs.Programs.{program_with}
use Rattle.merc_meaning.specs.Runs.{run}
use Rattle.merc_meaning.specs.Shown.{shown}
use Rattle.merc_check.specs.Accepted.{AreGraded, IsGradedGoal, query_answers, query_names}
use Rattle.merc_check.specs.Checked.{IsAccepted, IsGoal, Refuses, RefusesQuery}
use Rattle.merc_transfer.specs.Statuses.{accepted_status, module_status, goal_status, usage_status, unread_status, too_long_status}
use Rattle.merc_solving.specs.Lines.{line}
use Rattle.merc_solving.specs.RunLines.{run_lines, run_status}
use Rattle.merc_top.specs.declared.words.Request.{Request}
use Rattle.merc_top.specs.declared.words.Request.TheVariants.{Solve, Check}
use Rattle.merc_top.specs.Words.{IsNoRequest, IsRequest, file_of, usage_line}
use Rattle.merc_transfer.specs.Loading.{file_limit}
use Rattle.merc_top.specs.Checking.{check_lines}

-- the line of a refusal; the place is a file's name, or `goal`
abbrev pub refusal_line : List ℕ → Refusal → List ℕ
refusal_line name refusal = line (name ++ codes ":" ++ decimal refusal.place.line ++ codes ": " ++ refusal_text refusal)

-- the line for a file of more bytes than the limit
abbrev pub too_long_line : List ℕ → List ℕ
too_long_line name = line (name ++ codes ": longer than 1048576 bytes")

-- The run of at most so many steps that a goal's text asks for over a file's text, where both are accepted: the table behind both holds these texts of names, and each answer of the run
-- gives these variables values, by their names.
pub record IsAskedRun (file goal : List ℕ) (steps : ℕ) (names : List (List ℕ)) (variables : List ℕ) (asked : Run) : Type 0 where
  pub file_names : List (List ℕ)
  pub items : List Term
  pub found : Module
  pub trees : List Node
  pub term : Term
  pub tree : Node
  pub module_is : IsAccepted fixed_names file_names file items found
  pub module_trees : AreGraded file_names found trees
  pub goal_is : IsGoal file_names names found goal term
  pub goal_tree : IsGradedGoal names found term (tree ∷ [])
  pub variables_are : variables ≡ query_names names term
  pub run_is : asked ≡ shown (query_answers names found term) (run (program_with found.preds trees) tree steps)

-- What is due for a file of this name and text, and a goal. What is wrong with the file comes first, then what is wrong with the goal. Where nothing is, it is
-- the run's text.
pub data IsDue (name file goal : List ℕ) (steps : ℕ) (most : Option ℕ) : List (List ℕ) → ℕ → Type 0 where
  module_refused : (refusal : Refusal) → Refuses fixed_names file refusal → IsDue name file goal steps most (refusal_line name refusal ∷ []) module_status
  goal_refused : (names : List (List ℕ)) (items : List Term) (found : Module) (refusal : Refusal) → IsAccepted fixed_names names file items found → RefusesQuery names found goal refusal → IsDue name file goal steps most (refusal_line (codes "goal") refusal ∷ []) goal_status
  runs : (names : List (List ℕ)) (variables : List ℕ) (asked : Run) → IsAskedRun file goal steps names variables asked → IsDue name file goal steps most (run_lines names variables most asked) (run_status most asked)

-- What is due for the check of a file of this name and text: what is wrong with it, or its procedures with their categories.
pub data IsCheckDue (name file : List ℕ) : List (List ℕ) → ℕ → Type 0 where
  check_refused : (refusal : Refusal) → Refuses fixed_names file refusal → IsCheckDue name file (refusal_line name refusal ∷ []) module_status
  check_accepted : (names : List (List ℕ)) (items : List Term) (found : Module) (trees : List Node) → IsAccepted fixed_names names file items found → AreGraded names found trees
      → IsCheckDue name file (check_lines names found trees) accepted_status

-- what is due for a request whose file has this text
abbrev pub IsRequestDue : Request → List ℕ → List (List ℕ) → ℕ → Type 0
IsRequestDue (Solve file goal steps most) text = IsDue file.now text goal.now steps most
IsRequestDue (Check file) text = IsCheckDue file.now text

-- the named file: absent, too long, or read
abbrev pub FileOutput : Request → Option (List ℕ) → List (List ℕ) → ℕ → Type 0
FileOutput request None lines status = (lines ≡ []) × (status ≡ unread_status)
FileOutput request (Some text) lines status =
    ((file_limit < length text) × (lines ≡ too_long_line (file_of request) ∷ []) × (status ≡ too_long_status))
    ⊎ ((length text ≤ file_limit) × IsRequestDue request text lines status)

-- the lines and the status that are due for these words over these files
abbrev pub IsOutput : List (List ℕ) → Files → List (List ℕ) → ℕ → Type 0
IsOutput words files lines status =
    (IsNoRequest words × (lines ≡ usage_line ∷ []) × (status ≡ usage_status))
    ⊎ ((request : Request) × IsRequest words request × FileOutput request (file_named (file_of request) files) lines status)
