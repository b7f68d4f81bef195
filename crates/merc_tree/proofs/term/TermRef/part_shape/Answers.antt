use Rattle.std.proofs.Common.{ap, ◌∙◌}
use Rattle.std.specs.List.{slice_get}
use Rattle.merc_tree.proofs.PartShapes.{parts_of}
use Rattle.merc_tree.proofs.term.TermRef.part_shape.Goals as goal

pub returns : goal.returns
returns c = c.shape_at.ensures ∙ ap (λ l. slice_get l c.args.index) (parts_of c.self.inside.nodes.now c.args.self.now c.self.invariant c.self.view_is)
