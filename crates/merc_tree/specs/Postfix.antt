-- The shapes of the parts of a term, those of its arguments before its own.
use Rattle.std.specs.Prelude.{List, [], ◌∷◌, ◌++◌, length}
use Rattle.merc_tree.specs.Term.{Term, Terms, Variable, Integer, Text, Application, none, more, list_of}
use Rattle.merc_tree.specs.declared.term.Shape.{Shape}
use Rattle.merc_tree.specs.declared.term.Shape.TheVariants.{Variable as VariableShape, Integer as IntegerShape, Text as TextShape, Application as ApplicationShape}

abbrev mutual
  pub shapes_of : Term → List Shape
  shapes_of (Variable name span) = VariableShape name ∷ []
  shapes_of (Integer value span) = IntegerShape value ∷ []
  shapes_of (Text text span) = TextShape text ∷ []
  shapes_of (Application name qualifier arguments span) = all_shapes arguments ++ ApplicationShape name qualifier (length (list_of arguments)) ∷ []

  pub all_shapes : Terms → List Shape
  all_shapes none = []
  all_shapes (more first rest) = shapes_of first ++ all_shapes rest
