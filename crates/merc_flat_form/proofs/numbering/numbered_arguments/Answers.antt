use Rattle.std.proofs.Common.{◌≡◌, ap, ◌∙◌, arith}
use Rattle.merc_tree.specs.Term.{terms_of}
use Rattle.merc_tree.specs.Shape.{arguments_of}
use Rattle.merc_goals.specs.Written.{parts_of}
use Rattle.merc_scopes.proofs.Walks.{parts-arguments}
use Rattle.merc_flat_form.proofs.numbering.numbered_arguments.Goals as goal

pub number_from-requires : goal.number_from-requires
number_from-requires c =
    let counted : parts_of (terms_of c.deref.result.now) ≡ parts_of (terms_of (arguments_of c.whole.inside.term)) =
    ap (λ l. parts_of (terms_of l)) (c.deref.ensures.value ∙ c.in_ok-terms.ensures) in
    omega (arith, counted, parts-arguments c.whole.inside.term, c.whole.invariant)
