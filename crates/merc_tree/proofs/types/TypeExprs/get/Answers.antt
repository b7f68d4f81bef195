use Rattle.std.proofs.Common.{ap, sym, ◌∙◌}
use Rattle.std.proofs.lemmas.Option.{slice_get-map}
use Rattle.std.specs.List.{slice_get}
use Rattle.std.specs.Option.{option_map}
use Rattle.merc_tree.specs.TypeTerms.{type_of}
use Rattle.merc_tree.proofs.TypeLaws.{one_kept}
use Rattle.merc_tree.proofs.types.TypeExprs.get.Goals as goal

pub invariant_of-result : goal.invariant_of-result
invariant_of-result c = one_kept c.self.inside.terms c.args.index c.in-Some.term c.self.invariant (sym c.in-Some.ensures)

pub returns-in-Some : goal.returns-in-Some
returns-in-Some c =
    ap (option_map type_of) c.in-Some.ensures ∙ sym (slice_get-map type_of c.self.inside.terms c.args.index) ∙ ap (λ l. slice_get l c.args.index) c.self.view_is

pub returns-in-None : goal.returns-in-None
returns-in-None c =
    ap (option_map type_of) c.in-None.ensures ∙ sym (slice_get-map type_of c.self.inside.terms c.args.index) ∙ ap (λ l. slice_get l c.args.index) c.self.view_is
