-- The entries of the goals that a goal joins are all but its own.
use Rattle.std.proofs.Common.{length, ap, sym, ◌≡◌, ◌∙◌}
use Rattle.merc_graded_tree.specs.Nodes.{goal_of}
use Rattle.merc_graded_tree.specs.Roots.{arity_of, goals_of}
use Rattle.merc_graded_tree.specs.RootLaws.{arity_is}
use Rattle.merc_graded_tree.specs.Entries.{node_from, all_entries}
use Rattle.merc_graded_tree.proofs.EntryLaws.{nodes_are, AreNodes_from}
use Rattle.merc_graded_tree.proofs.Cuts.{goals_part, root_entry_is}
use Rattle.merc_graded_tree.proofs.node_ref.NodeRef.goals.Goals as goal

pub invariant_of-result : goal.invariant_of-result
invariant_of-result c =
    let entries = c.self.inside.entries.now in
    let whole = node_from entries in
    let are : c.entries_between.result.now ≡ all_entries (goals_of whole) = c.entries_between.ensures ∙ goals_part entries whole c.self.invariant in
    let last = root_entry_is entries whole c.last_entry.result.now c.self.invariant c.last_entry.ensures in (
      AreNodes_from c.entries_between.result.now (goals_of whole) are,
      c.arity.ensures ∙ ap (λ e. arity_of e.label.root) last ∙ arity_is (goal_of whole) ∙ ap length (sym (nodes_are c.entries_between.result.now (goals_of whole) are)),
    )

pub returns : goal.returns
returns c =
    let entries = c.self.inside.entries.now in
    let whole = node_from entries in
    nodes_are c.entries_between.result.now (goals_of whole) (c.entries_between.ensures ∙ goals_part entries whole c.self.invariant) ∙ ap goals_of c.self.view_is
