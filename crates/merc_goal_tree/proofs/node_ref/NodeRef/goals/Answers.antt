-- The entries of the goals that a goal joins are all but its root.
use Rattle.std.proofs.Common.{length, ap, sym, ◌≡◌, ◌∙◌}
use Rattle.merc_goal_tree.specs.Roots.{arity_of, goals_of}
use Rattle.merc_goal_tree.specs.Entries.{node_of, all_entries}
use Rattle.merc_goal_tree.specs.RootLaws.{arity_is}
use Rattle.merc_goal_tree.proofs.EntryLaws.{built_from, AreNodes_from}
use Rattle.merc_goal_tree.proofs.Cuts.{goals_part, root_entry_is}
use Rattle.merc_goal_tree.proofs.node_ref.NodeRef.goals.Goals as goal

pub invariant_of-result : goal.invariant_of-result
invariant_of-result c =
    let entries = c.self.inside.entries.now in
    let node = node_of entries in
    let are : c.entries_between.result.now ≡ all_entries (goals_of node) = c.entries_between.ensures ∙ goals_part entries node c.self.invariant in
    let root = root_entry_is entries node c.last_entry.result.now c.self.invariant c.last_entry.ensures in (
      AreNodes_from c.entries_between.result.now (goals_of node) are,
      c.arity.ensures ∙ ap (λ n. arity_of n.root) root ∙ arity_is node ∙ ap length (sym (built_from c.entries_between.result.now (goals_of node) are)),
    )

pub returns : goal.returns
returns c =
    let entries = c.self.inside.entries.now in
    let node = node_of entries in
    built_from c.entries_between.result.now (goals_of node) (c.entries_between.ensures ∙ goals_part entries node c.self.invariant) ∙ ap goals_of c.self.view_is
