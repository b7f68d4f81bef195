use Rattle.std.proofs.Common.{map, ap, sym, subst, ◌∙◌}
use Rattle.merc_tree.specs.TypeShape.{type_arguments_of}
use Rattle.merc_tree.specs.TypeTerms.{type_of, KeepTypes}
use Rattle.merc_tree.proofs.TypeLaws.{kept_arguments, arguments_kept}
use Rattle.merc_tree.proofs.types.TypeRef.arguments.Goals as goal

pub returns : goal.returns
returns c = ap (map type_of) c.arguments.ensures ∙ kept_arguments c.self.inside.term ∙ ap type_arguments_of c.self.view_is

pub invariant_of-result : goal.invariant_of-result
invariant_of-result c = subst KeepTypes (sym c.arguments.ensures) (arguments_kept c.self.inside.term c.self.invariant)
