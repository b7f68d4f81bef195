use Rattle.std.proofs.Common.{◌≡◌, ◌+◌, ◌≤◌, ℕ, [], length, reverse}
use Rattle.merc_goal_tree.specs.Nodes.{Node}
use Rattle.merc_order.specs.Bound.{among}
use Rattle.merc_order.specs.Procedures.{modes_of}
use Rattle.merc_simple_goals.specs.declared.written.Written.{Written}
use Rattle.merc_goal_order.specs.Linked.{Closing}
use Rattle.merc_goal_order.proofs.links.close_links.Given as goal

abbrev pub invariant-loop-link : goal.invariant-loop-link
invariant-loop-link l = record {
  enough : length l.links.items + length l.links.items + 1 ≤ length l.written.nodes;
  fewer : length l.written.nodes + length l.fn.links.items + length l.fn.links.items ≡ length l.fn.written.nodes + length l.links.items + length l.links.items;
  cleared : l.written.seen ≡ [];
  closing : (total : ℕ → ℕ) (whole : Node) (old : Written) → Closing total (modes_of l.setting.predicates.now) l.setting.all.now (among l.bound) whole (reverse l.fn.links.items) old l.fn.written
      → Closing total (modes_of l.setting.predicates.now) l.setting.all.now (among l.bound) whole (reverse l.links.items) old l.written;
}

abbrev pub decreases-loop-link : goal.decreases-loop-link
decreases-loop-link l = length l.links.items
