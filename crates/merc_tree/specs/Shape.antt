-- What a term is at its root.
use Rattle.std.specs.Prelude.{List, [], length}
use Rattle.merc_tree.specs.declared.term.Shape.{Shape}
use Rattle.merc_tree.specs.declared.term.Shape.TheVariants.{Variable as VariableShape, Integer as IntegerShape, Text as TextShape, Application as ApplicationShape}
use Rattle.merc_tree.specs.Term.{Term, Variable, Integer, Text, Application, list_of}

abbrev pub shape_of : Term → Shape
shape_of (Variable name span) = VariableShape name
shape_of (Integer value span) = IntegerShape value
shape_of (Text name span) = TextShape name
shape_of (Application name qualifier arguments span) = ApplicationShape name qualifier (length (list_of arguments))

-- the arguments of a term, none for a variable or a literal
abbrev pub arguments_of : Term → List Term
arguments_of (Variable name span) = []
arguments_of (Integer value span) = []
arguments_of (Text name span) = []
arguments_of (Application name qualifier arguments span) = list_of arguments
