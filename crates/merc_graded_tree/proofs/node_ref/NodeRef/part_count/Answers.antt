use Rattle.merc_graded_tree.proofs.EntryLaws.{part_count_is}
use Rattle.merc_graded_tree.proofs.node_ref.NodeRef.part_count.Goals as goal

pub returns : goal.returns
returns c = part_count_is c.self.inside.entries.now c.args.self.now c.self.invariant c.self.view_is
