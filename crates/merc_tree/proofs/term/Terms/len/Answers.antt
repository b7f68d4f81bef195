use Rattle.std.proofs.Common.{[], length, ap, ◌∙◌}
use Rattle.merc_tree.specs.Nodes.{built}
use Rattle.merc_tree.proofs.NodeLaws.{length-starts_from}
use Rattle.merc_tree.proofs.term.Terms.len.Goals as goal

pub returns : goal.returns
returns c =
    c.len.ensures ∙ c.self.inside.starts.ok.0 ∙ ap length c.self.invariant.1 ∙ length-starts_from 0 (built c.self.inside.nodes.items []) ∙ ap length c.self.view_is
