use Rattle.std.proofs.Common.{ap, ◌∙◌}
use Rattle.merc_tree.specs.TypeShape.{type_shape_of}
use Rattle.merc_tree.proofs.TypeLaws.{kept_shape}
use Rattle.merc_tree.proofs.types.TypeRef.shape.Goals as goal

pub returns-in-Application : goal.returns-in-Application
returns-in-Application c =
    kept_shape c.self.inside.term c.in-Application.name c.in-Application.qualifier c.in-Application.arity c.in-Application.ensures ∙ ap type_shape_of c.self.view_is
