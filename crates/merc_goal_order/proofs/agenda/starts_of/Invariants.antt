use Rattle.std.proofs.Common.{◌≡◌, ◌+◌, ◌<◌, ℕ, List, length}
use Rattle.merc_tree.specs.declared.declarations.ModeDecl.{ModeDecl}
use Rattle.merc_goal_tree.specs.Nodes.{nodes_of}
use Rattle.merc_goal_tree.specs.Variables.{all_variables}
use Rattle.merc_goal_facts.specs.Facts.{AreKnown, all_subgoals}
use Rattle.merc_goal_facts.specs.Outside.{IsStretch}
use Rattle.merc_goal_order.specs.Agenda.{start_at}
use Rattle.merc_goal_order.specs.Positions.{IsAt, IsPlaced}
use Rattle.merc_goal_order.proofs.agenda.starts_of.Given as goal

abbrev pub invariant-loop-goal : goal.invariant-loop-goal
invariant-loop-goal l = record {
  long : length l.starts.items ≡ l.goal-index;
  here : IsAt l.goals l.goal-index l.here.at;
  each : (index : ℕ) → index < length l.starts.items → IsAt l.goals index (start_at l.starts.items index).at;
  placed : (total : ℕ → ℕ) (modes : ℕ → List ModeDecl) → AreKnown total modes (all_subgoals (nodes_of l.goals)) l.facts
      → IsStretch total l.all l.start (l.start + length (all_variables (nodes_of l.goals))) (all_variables (nodes_of l.goals))
      → IsPlaced l.start l.goals l.goal-index l.here.place × ((index : ℕ) → index < length l.starts.items → IsPlaced l.start l.goals index (start_at l.starts.items index).place);
}
