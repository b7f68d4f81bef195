-- The types of the arguments of clauses' heads.
use Rattle.std.specs.Prelude.{List, [], length, None, slice_get}
use Rattle.merc_tree.specs.Term.{Term, Variable, Integer, Text, Application, list_of}
use Rattle.merc_tree.specs.Types.{TypeExpr}
use Rattle.merc_tree.specs.declared.declarations.Module.{Module}
use Rattle.merc_name_resolution.specs.declared.callee.Callee.{Callee}
use Rattle.merc_name_resolution.specs.declared.callee.Callee.TheVariants.{Predicate, Error}
use Rattle.merc_name_resolution.specs.Known.{callee_in}
use Rattle.merc_type_check.specs.Checked.{head_types}

abbrev pub called_arguments : Module → Callee → List TypeExpr
called_arguments known (Predicate number) = head_types (slice_get known.preds number)
called_arguments known Error = []

-- the declared types of the arguments of the predicate whose head this is
abbrev pub declared_arguments : Module → Term → List TypeExpr
declared_arguments known (Application name qualifier arguments span) = called_arguments known (callee_in known name None (length (list_of arguments)))
declared_arguments known (Variable name span) = []
declared_arguments known (Integer value span) = []
declared_arguments known (Text text span) = []
