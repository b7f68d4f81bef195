-- The symbols of types, and those that are known of variables.
use Rattle.std.specs.Prelude.{ℕ, Bool, true, false, ◌==◌, ◌&&◌, List, [], ◌∷◌, length, map, Option, Some, None, if◌then◌else◌}
use Rattle.std.specs.List.{list_all, list_any}
use Rattle.std.specs.Ordering.{int_eq}
use Rattle.merc_tree.specs.Types.{TypeExpr, TypeVariable, IntType, TextType, TypeApplication, type_list}
use Rattle.merc_tree.specs.declared.declarations.Constructor.{Constructor}
use Rattle.merc_tree.specs.declared.declarations.TypeDef.{TypeDef}
use Rattle.merc_goal_tree.specs.declared.goal.Symbol.{Symbol}
use Rattle.merc_goal_tree.specs.declared.goal.Symbol.TheVariants.{Constructor as ConstructorSymbol, Integer, Text}
use Rattle.merc_graded_tree.specs.declared.basic.BasicGoal.{BasicGoal}
use Rattle.merc_graded_tree.specs.declared.basic.BasicGoal.TheVariants.{Assign, Build, Split}
use Rattle.merc_graded_tree.specs.Nodes.{Node, node, Goal, Basic, Conjunction, Quantified, Nodes, no_nodes, more_nodes}

abbrev pub same_symbol : Symbol → Symbol → Bool
same_symbol (ConstructorSymbol name arity) (ConstructorSymbol other count) = (name == other) && (arity == count)
same_symbol (ConstructorSymbol name arity) (Integer other) = false
same_symbol (ConstructorSymbol name arity) (Text other) = false
same_symbol (Integer value) (ConstructorSymbol other count) = false
same_symbol (Integer value) (Integer other) = int_eq value other
same_symbol (Integer value) (Text other) = false
same_symbol (Text text) (ConstructorSymbol other count) = false
same_symbol (Text text) (Integer other) = false
same_symbol (Text text) (Text other) = text == other

-- The symbols of types.

abbrev pub symbol_of : Constructor → Symbol
symbol_of constructor = ConstructorSymbol constructor.name (length constructor.args)

-- the symbols of the declared type of a name with so many parameters
abbrev pub symbols_named : List TypeDef → ℕ → ℕ → Option (List Symbol)
symbols_named [] name arity = None
symbols_named (first ∷ rest) name arity =
    if (first.name == name) && (length first.params == arity) then Some (map symbol_of first.constructors) else symbols_named rest name arity

-- the symbols of a type, none where they have no end
abbrev pub symbols_of_type : List TypeDef → TypeExpr → Option (List Symbol)
symbols_of_type declared (TypeVariable name) = None
symbols_of_type declared IntType = None
symbols_of_type declared TextType = None
symbols_of_type declared (TypeApplication name arguments) = symbols_named declared name (length (type_list arguments))

abbrev pub has_symbol : List Symbol → Symbol → Bool
has_symbol symbols symbol = list_any (λ other. same_symbol symbol other) symbols

-- each symbol of a type is one of these
abbrev pub are_complete : Option (List Symbol) → List Symbol → Bool
are_complete None symbols = false
are_complete (Some all) symbols = list_all (λ symbol. has_symbol symbols symbol) all

-- a type has one symbol alone
abbrev pub is_single : Option (List Symbol) → Bool
is_single None = false
is_single (Some []) = false
is_single (Some (only ∷ [])) = true
is_single (Some (first ∷ second ∷ rest)) = false

-- The symbols that are known of variables, the last one first.

abbrev pub Known : Type 0
Known = List (ℕ × Symbol)

abbrev pub known_of : Known → ℕ → Option Symbol
known_of [] variable = None
known_of (first ∷ rest) variable = if first.0 == variable then Some first.1 else known_of rest variable

abbrev pub with_known : ℕ → Option Symbol → Known → Known
with_known variable None known = known
with_known variable (Some symbol) known = (variable, symbol) ∷ known

-- A construction and a split tell the symbol of their variable. An assignment hands on what is known at it.
abbrev pub known_behind_basic : BasicGoal → Known → Known
known_behind_basic (Assign to from) known = with_known to (known_of known from) known
known_behind_basic (Build whole symbol arguments) known = (whole, symbol) ∷ known
known_behind_basic (Split whole symbol arguments) known = (whole, symbol) ∷ known
known_behind_basic other known = known

-- What is known behind a goal. Conjunctions and quantified goals hand on what they learn; all others that join goals keep it to themselves.
abbrev mutual
  pub known_behind : Node → Known → Known
  known_behind (node goal outputs category span) known = known_behind_goal goal known

  pub known_behind_goal : Goal → Known → Known
  known_behind_goal (Basic goal) known = known_behind_basic goal known
  known_behind_goal (Conjunction running goals) known = known_behind_all goals known
  known_behind_goal (Quantified own goal) known = known_behind goal known
  known_behind_goal other known = known

  pub known_behind_all : Nodes → Known → Known
  known_behind_all no_nodes known = known
  known_behind_all (more_nodes first rest) known = known_behind_all rest (known_behind first known)
