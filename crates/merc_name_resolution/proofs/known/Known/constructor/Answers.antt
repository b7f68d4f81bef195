use Rattle.std.proofs.Common.{List, map, slice_get, Bor, ap, ◌∙◌}
use Rattle.merc_tree.specs.declared.declarations.Constructor.{Constructor}
use Rattle.merc_tree.specs.declared.declarations.TypeDef.{TypeDef}
use Rattle.merc_tree.specs.declared.declarations.Module.{Module}
use Rattle.merc_name_resolution.specs.Known.{constructor_in}
use Rattle.merc_name_resolution.specs.Indexing.{constructor_seen}
use Rattle.merc_name_resolution.proofs.Looking.{first_constructor}
use Rattle.merc_name_resolution.proofs.known.Known.constructor.Goals as goal

pub returns : goal.returns
returns c =
    c.first_of.ensures
    ∙ ap (λ (found : List (Bor TypeDef × Bor Constructor)). slice_get (map constructor_seen found) 0) c.at.ensures
    ∙ ap (λ (found : List (TypeDef × Constructor)). slice_get found 0) (c.self.invariant.constructors_are c.args.name c.args.arity)
    ∙ first_constructor c.self.inside.source.now.types c.args.name c.args.arity
    ∙ ap (λ (found : Module). constructor_in found.types c.args.name c.args.arity) c.self.view_is
