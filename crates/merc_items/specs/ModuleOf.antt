-- The module that items are.
use Rattle.std.specs.Prelude.{ℕ, ◌+◌, Bool, true, false, ◌==◌, ◌&&◌, List, [], ◌∷◌, ◌++◌, map, length, Option, Some, None, if◌then◌else◌}
use Rattle.std.specs.List.{flat_map}
use Rattle.merc_base.specs.Names.{division_by_zero_name, int_name, string_name}
use Rattle.merc_base.specs.declared.place.Span.{Span}
use Rattle.merc_base.specs.declared.category.Category.{Category}
use Rattle.merc_base.specs.declared.category.Category.TheVariants.{Det}
use Rattle.merc_tree.specs.Term.{Term, Terms, Variable, Integer, Text, Application, none, more}
use Rattle.merc_tree.specs.Shape.{arguments_of}
use Rattle.merc_tree.specs.Types.{TypeExpr, TypeExprs, TypeVariable, IntType, TextType, TypeApplication, no_types, more_types}
use Rattle.merc_tree.specs.declared.declarations.Constructor.{Constructor}
use Rattle.merc_tree.specs.declared.declarations.TypeDef.{TypeDef}
use Rattle.merc_tree.specs.declared.declarations.Arg.{Arg}
use Rattle.merc_tree.specs.declared.declarations.Arg.TheVariants.{Input, Output}
use Rattle.merc_tree.specs.declared.declarations.ModeDecl.{ModeDecl}
use Rattle.merc_tree.specs.declared.declarations.PredDecl.{PredDecl}
use Rattle.merc_tree.specs.declared.declarations.Clause.{Clause}
use Rattle.merc_tree.specs.declared.declarations.Module.{Module}
use Rattle.merc_item_forms.specs.Items.{Item, TypeItem, PredicateItem, ModeItem, ClauseItem}
use Rattle.merc_operands.specs.Operands.{plain_name}
use Rattle.merc_value.specs.Text.{is_blank}
use Rattle.merc_item_forms.specs.Forms.{argument_type, argument_mode, category_named}
use Rattle.merc_base.specs.declared.groups.Key.{Key}
use Rattle.merc_entries.specs.Entries.{Entry, key_of, has_mode, is_out, units_of, own_entries, is_own, are_keys}
use Rattle.merc_item_forms.specs.FormFaults.{own_name}

-- the name of a head, any where it has none
abbrev pub head_name : Term → ℕ
head_name (Application name qualifier arguments span) = name
head_name other = division_by_zero_name

-- Types: `int` and `string` by name, and no qualifiers.

abbrev pub named_type : ℕ → TypeExprs → TypeExpr
named_type name no_types = if name == int_name then IntType else if name == string_name then TextType else TypeApplication name no_types
named_type name (more_types first rest) = TypeApplication name (more_types first rest)

-- A type variable is told by its name. Each `_` is one of its own, told by its place: its number is behind those of all names.
abbrev pub type_variable : List (List ℕ) → ℕ → Span → ℕ
type_variable names name span = if is_blank names name then length names + span.first else name

abbrev mutual
  pub declared_type : List (List ℕ) → Term → TypeExpr
  declared_type names (Variable name span) = TypeVariable (type_variable names name span)
  declared_type names (Integer value span) = IntType
  declared_type names (Text name span) = TextType
  declared_type names (Application name qualifier arguments span) = named_type name (declared_types names arguments)

  pub declared_types : List (List ℕ) → Terms → TypeExprs
  declared_types names none = no_types
  declared_types names (more first rest) = more_types (declared_type names first) (declared_types names rest)

abbrev pub parameters : List (List ℕ) → List Term → List ℕ
parameters names [] = []
parameters names (Variable name span ∷ rest) = type_variable names name span ∷ parameters names rest
parameters names (other ∷ rest) = parameters names rest

abbrev pub constructor_of : List (List ℕ) → Term → Constructor
constructor_of names term = record { name = head_name term; args = map (declared_type names) (arguments_of term) }

-- a type, of a library unit or of the file itself
abbrev pub type_defs_of : List (List ℕ) → Option ℕ → Item → List TypeDef
type_defs_of names unit (TypeItem head constructors) =
    record { name = head_name head; params = parameters names (arguments_of head); constructors = map (constructor_of names) constructors; unit = unit } ∷ []
type_defs_of names unit other = []

abbrev pub type_defs : List (List ℕ) → Entry → List TypeDef
type_defs names entry = type_defs_of names entry.unit entry.item

-- Modes

abbrev pub arg_of : Bool → Arg
arg_of true = Output
arg_of false = Input

abbrev pub args_of : List (Option Term) → List Arg
args_of [] = []
args_of (None ∷ rest) = args_of rest
args_of (Some term ∷ rest) = arg_of (is_out (plain_name term)) ∷ args_of rest

abbrev pub category_or_det : Option Category → Category
category_or_det None = Det
category_or_det (Some category) = category

-- the category that a declaration names
abbrev pub named_category : Option ℕ → Category
named_category None = Det
named_category (Some name) = category_or_det (category_named name)

abbrev pub declared_category : Option Term → Category
declared_category None = Det
declared_category (Some term) = named_category (plain_name term)

abbrev pub mode_decl : List (Option Term) → Option Term → Span → ModeDecl
mode_decl arguments category span = record { args = args_of arguments; category = declared_category category; span = span }

abbrev pub modes_in_item : List Key → Span → Item → List ModeDecl
modes_in_item predicate span (PredicateItem head category) =
    if are_keys predicate (key_of head) && has_mode head category then mode_decl (map argument_mode (arguments_of head)) category span ∷ [] else []
modes_in_item predicate span (ModeItem head category) =
    if are_keys predicate (key_of head) then mode_decl (map Some (arguments_of head)) category span ∷ [] else []
modes_in_item predicate span other = []

-- the modes that an item declares for a predicate
abbrev pub modes_in : List Key → Entry → List ModeDecl
modes_in predicate entry = modes_in_item predicate entry.span entry.item

-- A predicate with all its modes among these entries, in order.
abbrev pub pred_decls_of : List (List ℕ) → List Entry → Option ℕ → Span → Item → List PredDecl
pred_decls_of names entries unit span (PredicateItem head category) =
    record {
      name = head_name head;
      args = map (λ argument. declared_type names (argument_type argument)) (arguments_of head);
      modes = flat_map (modes_in (key_of head)) entries;
      span = span;
      unit = unit;
    } ∷ []
pred_decls_of names entries unit span other = []

abbrev pub pred_decls : List (List ℕ) → List Entry → Entry → List PredDecl
pred_decls names entries entry = pred_decls_of names entries entry.unit entry.span entry.item

abbrev pub clauses_of : Span → Item → List Clause
clauses_of span (ClauseItem head body) = record { head = head; body = body; span = span } ∷ []
clauses_of span other = []

abbrev pub clauses_in : Entry → List Clause
clauses_in entry = clauses_of entry.span entry.item

-- the entries of units
abbrev pub unit_items : List Entry → List Entry
unit_items [] = []
unit_items (entry ∷ rest) = if is_own entry then unit_items rest else entry ∷ unit_items rest

-- A file's declarations stand before those of the units.
abbrev pub module_of : List (List ℕ) → List Term → List Entry → Module
module_of names terms entries = record {
  name = own_name terms;
  units = units_of terms;
  types = flat_map (type_defs names) (own_entries entries) ++ flat_map (type_defs names) (unit_items entries);
  preds = flat_map (pred_decls names (own_entries entries)) (own_entries entries) ++ flat_map (pred_decls names (unit_items entries)) (unit_items entries);
  own = length (flat_map (pred_decls names (own_entries entries)) (own_entries entries));
  clauses = flat_map clauses_in (own_entries entries) ++ flat_map clauses_in (unit_items entries);
}
