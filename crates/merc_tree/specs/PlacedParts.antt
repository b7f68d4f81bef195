-- The parts of a term, those of its arguments before its own: what each is at its root, and where it stands.
use Rattle.std.specs.Prelude.{List, [], ◌∷◌, ◌++◌, length}
use Rattle.merc_base.specs.declared.place.Span.{Span}
use Rattle.merc_tree.specs.Term.{Term, Terms, Variable, Integer, Text, Application, none, more, list_of}
use Rattle.merc_tree.specs.declared.term.Shape.{Shape}
use Rattle.merc_tree.specs.declared.term.Shape.TheVariants.{Variable as VariableShape, Integer as IntegerShape, Text as TextShape, Application as ApplicationShape}

abbrev mutual
  pub placed_parts : Term → List (Shape × Span)
  placed_parts (Variable name span) = (VariableShape name, span) ∷ []
  placed_parts (Integer value span) = (IntegerShape value, span) ∷ []
  placed_parts (Text text span) = (TextShape text, span) ∷ []
  placed_parts (Application name qualifier arguments span) = all_placed arguments ++ (ApplicationShape name qualifier (length (list_of arguments)), span) ∷ []

  pub all_placed : Terms → List (Shape × Span)
  all_placed none = []
  all_placed (more first rest) = placed_parts first ++ all_placed rest
