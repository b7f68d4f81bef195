-- What is left to do for goals that join others.
use Rattle.std.specs.Prelude.{◌≡◌, ◌==◌, ℕ, ◌+◌, List, [], ◌∷◌, ◌++◌, length, map, Some}
use Rattle.std.specs.List.{filter, flat_map}
use Rattle.merc_goal_tree.specs.declared.goal.Symbol.{Symbol}
use Rattle.merc_graded_tree.specs.declared.entries.Root.{Root}
use Rattle.merc_graded_tree.specs.declared.entries.Root.TheVariants.{Conjunction, Switch, Conditional}
use Rattle.merc_graded_tree.specs.declared.entries.Running.{Running}
use Rattle.merc_graded_tree.specs.declared.entries.Running.TheVariants.{Sequential, Parallel}
use Rattle.merc_graded_tree.specs.Nodes.{Node, outputs_of, span_of, nodes_of}
use Rattle.merc_graded_tree.specs.Labels.{labels_of}
use Rattle.merc_graded_tree.specs.Variables.{in_node}
use Rattle.merc_rights.specs.Rights.{Right, right_to}
use Rattle.merc_rights.specs.Members.{turn_wait, turn_signal, wait_shares, signal_shares, pass_shares, move_of, Finds, Adds}
use Rattle.merc_rights.specs.Waits.{rights_of, those_waits, others, moves, stays}
use Rattle.merc_par_split.specs.Tasks.{closed, framed, member_tasks, relabelled, shares_of}
use Rattle.merc_rights.specs.declared.conjuncts.Found.{Found}
use Rattle.merc_rights.specs.declared.rights.Awaited.{Awaited}
use Rattle.merc_rights.specs.declared.sites.SiteInfo.{SiteInfo}
use Rattle.merc_par_split.specs.declared.tasks.Placing.{Placing}
use Rattle.merc_par_split.specs.declared.tasks.Task.{Task}
use Rattle.merc_par_split.specs.declared.tasks.Task.TheVariants.{Place, Waits, Signals, Close}
use Rattle.merc_rights.specs.Groups.{numbered}

abbrev pub whole_tasks : Placing → Root → List Node → List Task
whole_tasks placing root goals =
    framed placing.goal root (rights_of placing.waits) (member_tasks placing.first (shares_of 0 goals [] [] [])) (Signals placing.signals (span_of placing.goal)) (length placing.signals)

-- one after the other
abbrev pub turn_tasks : Placing → List Node → List Task
turn_tasks placing goals =
    member_tasks placing.first (shares_of 0 goals (flat_map (turn_wait goals) placing.waits) (flat_map (turn_signal goals) placing.signals) [])
    ++ Close (relabelled placing.goal (Conjunction Sequential (length goals))) ∷ []

-- goals of which one is chosen
abbrev pub arm_tasks : List Node → ℕ → List Awaited → List Right → List Task
arm_tasks goals first waits signals =
    member_tasks first (shares_of 0 goals (flat_map (wait_shares goals) waits) (flat_map (signal_shares goals) signals) (flat_map (pass_shares goals) waits))

abbrev pub switch_tasks : Placing → ℕ → List Symbol → List Node → List Task
switch_tasks placing variable symbols goals =
    framed placing.goal (Switch variable symbols) (rights_of (those_waits (λ other. other == variable) placing.waits))
    (arm_tasks goals placing.first (those_waits (others (λ other. other == variable)) placing.waits) placing.signals) (Signals [] (span_of placing.goal)) 0

abbrev pub conditional_tasks : Placing → Node → Node → Node → List Task
conditional_tasks placing condition then_part else_part =
    framed placing.goal Conditional (rights_of (those_waits (in_node condition) placing.waits))
    (Place (record { goal = condition; first = placing.first; waits = []; signals = [] })
    ∷ arm_tasks (then_part ∷ else_part ∷ []) (placing.first + length (labels_of condition)) (those_waits (others (in_node condition)) placing.waits) placing.signals)
    (Signals [] (span_of placing.goal)) 0

-- side by side, at the site of a number
abbrev pub site_tasks : Node → ℕ → ℕ → ℕ → List Task
site_tasks whole children number before =
    closed whole (Conjunction (Parallel (Some (record { number = number }))) children) before (Waits (map (right_to 0) (outputs_of whole)) (span_of whole)) (length (outputs_of whole))

-- what is found at an `&` into which these waits move
pub record FindsMoved (goals : List Node) (placing : Placing) (inside : List Awaited) (found : Found) : Type 0 where
  pub own : Found
  pub finds : Finds goals (outputs_of placing.goal) placing.signals own
  pub adds : Adds [] own found [] (map move_of (flat_map (wait_shares goals) inside)) (flat_map (wait_shares goals) inside) []

-- What is found at an `&` and what moves in is told at the site, and goes to the conjuncts.
pub record LeavesConjuncts (placing : Placing) (goals : List Node) (sites sites' : List SiteInfo) (tasks tasks' : List Task) : Type 0 where
  pub found : Found
  pub with_moved : Found
  pub finds : Finds goals (outputs_of placing.goal) placing.signals found
  pub adds : Adds [] found with_moved [] (map move_of (flat_map (wait_shares goals) (filter (moves (nodes_of goals)) placing.waits))) (flat_map (wait_shares goals) (filter (moves (nodes_of goals)) placing.waits)) []
  pub told : sites' ≡ sites ++ record { children = length goals; cells = with_moved.cells.items; moves = with_moved.moves.items } ∷ []
  pub left : tasks' ≡ Waits (rights_of (filter (stays (nodes_of goals)) placing.waits)) (span_of placing.goal)
      ∷ (member_tasks placing.first (shares_of 0 goals with_moved.waits.items (numbered with_moved.signals.items) [])
      ++ (site_tasks placing.goal (length goals) (length sites) (length (rights_of (filter (stays (nodes_of goals)) placing.waits))) ++ tasks))

-- .. in this way
abbrev pub LeavesRunning : Running → Placing → List Node → List SiteInfo → List SiteInfo → List Task → List Task → Type 0
LeavesRunning Sequential placing goals sites sites' tasks tasks' = (tasks' ≡ turn_tasks placing goals ++ tasks) × (sites' ≡ sites)
LeavesRunning (Parallel unknown) placing goals sites sites' tasks tasks' = LeavesConjuncts placing goals sites sites' tasks tasks'
