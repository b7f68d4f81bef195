use Rattle.merc_tree.proofs.PartShapes.{part_count_is}
use Rattle.merc_tree.proofs.term.TermRef.part_count.Goals as goal

pub returns-clause-count : goal.returns-clause-count
returns-clause-count c = part_count_is c.self.inside.nodes.now c.args.self.now c.self.invariant c.self.view_is
