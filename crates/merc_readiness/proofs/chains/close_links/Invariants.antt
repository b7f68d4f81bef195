use Rattle.std.proofs.Common.{◌≡◌, ◌-◌, ℕ, List, length}
use Rattle.merc_tree.specs.declared.declarations.ModeDecl.{ModeDecl}
use Rattle.merc_goal_tree.specs.Nodes.{Node}
use Rattle.merc_order.specs.Bound.{among}
use Rattle.merc_readiness.specs.Chains.{IsReached}
use Rattle.merc_readiness.proofs.chains.close_links.Given as goal

abbrev pub invariant-loop-own : goal.invariant-loop-own
invariant-loop-own l = record {
  long : length l.marks ≡ length l.facts;
  reached : (total : ℕ → ℕ) (modes : ℕ → List ModeDecl) (goal : Node) → IsReached total modes goal l.fn.marks l.facts l.end (among l.bound)
      → IsReached total modes goal l.marks l.facts l.own (among l.bound);
}

abbrev pub decreases-loop-own : goal.decreases-loop-own
decreases-loop-own l = length l.initial.marks - l.own
