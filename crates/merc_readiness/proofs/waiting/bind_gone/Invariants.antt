use Rattle.std.proofs.Common.{◌≡◌, ◌+◌, ℕ, List, [], drop, length}
use Rattle.merc_tree.specs.declared.declarations.ModeDecl.{ModeDecl}
use Rattle.merc_goal_tree.specs.Nodes.{nodes_of}
use Rattle.merc_goal_tree.specs.Parts.{all_parts}
use Rattle.merc_order.specs.Bound.{Bound, among}
use Rattle.merc_order.specs.Marks.{Marked}
use Rattle.merc_readiness.specs.Sweeps.{Extends, ArePlaced, BindsFrom}
use Rattle.merc_readiness.proofs.waiting.bind_gone.Given as goal

abbrev pub invariant-loop-index : goal.invariant-loop-index
invariant-loop-index l = record {
  at_is : l.at + length (all_parts (nodes_of (drop l.index l.goals))) ≡ length (all_parts (nodes_of l.goals));
  placed : ArePlaced l.goals l.left.items;
  extends : Extends l.fn.bound l.bound;
  binds : (total : ℕ → ℕ) (modes : ℕ → List ModeDecl) (target : Bound) (whole : Marked) → BindsFrom total modes (nodes_of l.goals) l.facts l.marks 0 (among l.fn.bound) target whole 0 []
      → BindsFrom total modes (nodes_of (drop l.index l.goals)) l.facts l.marks l.at (among l.bound) target whole l.index l.left.items;
}
