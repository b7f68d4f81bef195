use Rattle.std.proofs.Common.{ap, ◌∙◌}
use Rattle.std.specs.List.{slice_get}
use Rattle.merc_goal_tree.proofs.PartLaws.{parts_are}
use Rattle.merc_goal_tree.proofs.node_ref.NodeRef.part.Goals as goal

pub returns : goal.returns
returns c = c.part_at.ensures ∙ ap (λ l. slice_get l c.args.index) (parts_are c.self.inside.entries.now c.args.self.now c.self.invariant c.self.view_is)
