-- Types, built from a term's parts with their places.
use Rattle.std.specs.Prelude.{ℕ, ◌≤◌, List, [], ◌∷◌, ◌++◌, length}
use Rattle.merc_base.specs.declared.place.Span.{Span}
use Rattle.merc_tree.specs.declared.term.Shape.{Shape}
use Rattle.merc_tree.specs.declared.term.Shape.TheVariants.{Variable as VariableShape, Integer as IntegerShape, Text as TextShape, Application as ApplicationShape}
use Rattle.merc_tree.specs.Nodes.{arity_of}
use Rattle.merc_tree.specs.Types.{TypeExpr, TypeVariable, IntType, TextType}
use Rattle.merc_tree.specs.TypeShape.{types_applied}
use Rattle.merc_items.specs.ModuleOf.{type_variable}

-- what types become where a part of this shape is read behind them
abbrev pub with_part : List (List ℕ) → Shape → Span → List TypeExpr → List TypeExpr
with_part names (VariableShape name) span types = types ++ TypeVariable (type_variable names name span) ∷ []
with_part names (IntegerShape value) span types = types ++ IntType ∷ []
with_part names (TextShape text) span types = types ++ TextType ∷ []
with_part names (ApplicationShape name qualifier arity) span types = types_applied name arity types

abbrev pub with_parts : List (List ℕ) → List (Shape × Span) → List TypeExpr → List TypeExpr
with_parts names [] types = types
with_parts names (part ∷ rest) types = with_parts names rest (with_part names part.0 part.1 types)

-- each part finds as many types as it has arguments
abbrev pub AreParts : List (List ℕ) → List (Shape × Span) → List TypeExpr → Type 0
AreParts names [] types = Unit {0}
AreParts names (part ∷ rest) types = (arity_of part.0 ≤ length types) × AreParts names rest (with_part names part.0 part.1 types)
