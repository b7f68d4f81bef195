use Rattle.std.proofs.Common.{ap, ◌∙◌}
use Rattle.std.specs.List.{slice_get}
use Rattle.merc_graded_tree.proofs.EntryLaws.{labels_from}
use Rattle.merc_graded_tree.proofs.node_ref.NodeRef.part.Goals as goal

pub returns : goal.returns
returns c = c.label_at.ensures ∙ ap (λ l. slice_get l c.args.index) (labels_from c.self.inside.entries.now c.args.self.now c.self.invariant c.self.view_is)
