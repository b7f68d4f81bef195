-- A worked example of the shapes of a term's parts, and a false statement that the prover refutes.
use Rattle.std.specs.Prelude.{◌≡◌, [], ◌∷◌, pos, None, refl}
use Rattle.merc_base.specs.Names.{error_name, in_name}
use Rattle.merc_tree.specs.Term.{Term, Integer, Application, none, more, no_span}
use Rattle.merc_tree.specs.declared.term.Shape.TheVariants.{Integer as IntegerShape, Application as ApplicationShape}
use Rattle.merc_tree.specs.Postfix.{shapes_of}

-- `error(in, 3)`, whose parts are `in`, 3 and itself, in this order
abbrev error_in_three : Term
error_in_three = Application error_name None (more (Application in_name None none no_span) (more (Integer (pos 3) no_span) none)) no_span

pub shapes_of-example : shapes_of error_in_three ≡ ApplicationShape in_name None 0 ∷ IntegerShape (pos 3) ∷ ApplicationShape error_name None 2 ∷ []
shapes_of-example = refl

pub shapes_of-not : shapes_of error_in_three ≡ IntegerShape (pos 3) ∷ ApplicationShape in_name None 0 ∷ ApplicationShape error_name None 2 ∷ [] → ⊥
shapes_of-not same = cc
