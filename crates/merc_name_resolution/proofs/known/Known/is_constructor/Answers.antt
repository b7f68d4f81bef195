use Rattle.std.proofs.Common.{List, map, Bor, ap, ◌∙◌}
use Rattle.merc_tree.specs.declared.declarations.Constructor.{Constructor}
use Rattle.merc_tree.specs.declared.declarations.TypeDef.{TypeDef}
use Rattle.merc_tree.specs.declared.declarations.Module.{Module}
use Rattle.merc_name_resolution.specs.Known.{is_constructor}
use Rattle.merc_name_resolution.specs.Indexing.{any_allowed, constructor_seen}
use Rattle.merc_name_resolution.proofs.Looking.{any_place}
use Rattle.merc_name_resolution.proofs.known.Known.is_constructor.Goals as goal

pub returns : goal.returns
returns c =
    let source = c.self.inside.source.now in
    c.any_allowed.ensures
    ∙ ap (λ (found : List (Bor TypeDef × Bor Constructor)). any_allowed source.name c.args.qualifier (map constructor_seen found)) c.at.ensures
    ∙ ap (any_allowed source.name c.args.qualifier) (c.self.invariant.constructors_are c.args.name c.args.arity)
    ∙ any_place source.name c.args.qualifier c.args.name c.args.arity source.types
    ∙ ap (λ (found : Module). is_constructor found c.args.name c.args.qualifier c.args.arity) c.self.view_is
