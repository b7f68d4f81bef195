use Rattle.std.proofs.Common.{length, ap, ◌∙◌}
use Rattle.merc_graded_tree.specs.Entries.{nodes_from}
use Rattle.merc_graded_tree.proofs.EntryLaws.{length-starts_from}
use Rattle.merc_graded_tree.proofs.nodes.Nodes.len.Goals as goal

pub returns : goal.returns
returns c =
    c.len.ensures ∙ c.self.inside.starts.ok.0 ∙ ap length c.self.invariant.1 ∙ length-starts_from 0 (nodes_from c.self.inside.entries.items) ∙ ap length c.self.view_is
