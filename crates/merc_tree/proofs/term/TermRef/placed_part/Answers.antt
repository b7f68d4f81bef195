use Rattle.std.proofs.Common.{ap, ◌∙◌}
use Rattle.std.specs.List.{slice_get}
use Rattle.merc_tree.proofs.PlacedParts.{parts_placed}
use Rattle.merc_tree.proofs.term.TermRef.placed_part.Goals as goal

pub returns : goal.returns
returns c = c.placed_at.ensures ∙ ap (λ l. slice_get l c.args.index) (parts_placed c.self.inside.nodes.now c.args.self.now c.self.invariant c.self.view_is)
