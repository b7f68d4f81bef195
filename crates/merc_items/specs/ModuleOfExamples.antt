-- The module that a few items are.
use Rattle.std.specs.Prelude.{◌≡◌, ℕ, ◌+◌, List, [], ◌∷◌, None, Some, codes, refl}
use Rattle.merc_base.specs.Names.{colon_minus_name, module_name, mode_name, type_name, type_arrow_name, colon_colon_name, pred_name, is_name, in_name, out_name, int_name, string_name, list_name, det_name, multi_name}
use Rattle.merc_base.specs.declared.place.Span.{Span}
use Rattle.merc_base.specs.declared.category.Category.TheVariants.{Det, Multi}
use Rattle.merc_tree.specs.declared.term.Shape.TheVariants.{Variable as VariableShape, Application as ApplicationShape}
use Rattle.merc_tree.specs.Term.{Term, Variable, Application, none, terms_of}
use Rattle.merc_tree.specs.Types.{TypeVariable, IntType, TextType, TypeApplication, no_types, more_types}
use Rattle.merc_tree.specs.declared.declarations.Arg.TheVariants.{Input, Output}
use Rattle.merc_tree.specs.declared.declarations.PredDecl.{PredDecl}
use Rattle.merc_tree.specs.declared.declarations.Module.{Module}
use Rattle.merc_item_forms.specs.Items.{TypeItem, PredicateItem, ModeItem, ClauseItem}
use Rattle.merc_entries.specs.Entries.{entries, key}
use Rattle.merc_items.specs.ModuleOf.{declared_type, parameters, type_defs_of, pred_decls_of, module_of}
use Rattle.merc_items.specs.DeclaredModes.{moded_predicate}
use Rattle.merc_items.specs.DeclaredTypes.{with_parts}

abbrev span_at : ℕ → Span
span_at byte = record { first = byte; past = byte + 1; line = 1 }

abbrev span : Span
span = span_at 0

abbrev apply : ℕ → List Term → Term
apply name arguments = Application name None (terms_of arguments) span

abbrev name : ℕ → Term
name word = apply word []

-- the table has `_` and `X`; the other names are the file's

abbrev names : List (List ℕ)
names = codes "_" ∷ codes "X" ∷ []

abbrev blank_name : ℕ
blank_name = 0

abbrev x_name : ℕ
x_name = 1

abbrev m_name : ℕ
m_name = 100

abbrev t_name : ℕ
t_name = 101

abbrev c_name : ℕ
c_name = 103

abbrev p_name : ℕ
p_name = 104

abbrev q_name : ℕ
q_name = 105

abbrev variable : Term
variable = Variable x_name span

abbrev blank_at : ℕ → Term
blank_at byte = Variable blank_name (span_at byte)

-- `:- module m.` `:- type t(X) ---> c(X).` `:- pred p(int::in) is det.`
-- `:- pred q(int).` `:- mode q(in) is det.` `:- mode q(out) is multi.` `p(X) :- q(X).` `q(X).`

abbrev declared : ℕ → Term → Term
declared word argument = apply colon_minus_name (apply word (argument ∷ []) ∷ [])

abbrev both : ℕ → Term → Term → Term
both operator left right = apply operator (left ∷ right ∷ [])

abbrev opening : Term
opening = declared module_name (name m_name)

abbrev type : Term
type = declared type_name (both type_arrow_name (apply t_name (variable ∷ [])) (apply c_name (variable ∷ [])))

abbrev pred_p : Term
pred_p = declared pred_name (both is_name (apply p_name (both colon_colon_name (name int_name) (name in_name) ∷ [])) (name det_name))

abbrev pred_q : Term
pred_q = declared pred_name (apply q_name (name int_name ∷ []))

abbrev mode_q : ℕ → ℕ → Term
mode_q mode category = declared mode_name (both is_name (apply q_name (name mode ∷ [])) (name category))

abbrev items : List Term
items =
    opening ∷ type ∷ pred_p ∷ pred_q ∷ mode_q in_name det_name ∷ mode_q out_name multi_name ∷
    both colon_minus_name (apply p_name (variable ∷ [])) (apply q_name (variable ∷ [])) ∷ apply q_name (variable ∷ []) ∷ []

abbrev whole : Module
whole = module_of names items (entries (λ unit. []) items)

abbrev declared_p : PredDecl
declared_p = record { name = p_name; args = IntType ∷ []; modes = record { args = Input ∷ []; category = Det; span = span } ∷ []; span = span; unit = None }

-- the modes of a predicate in split form stand in the order of their declarations
abbrev declared_q : PredDecl
declared_q = record {
  name = q_name;
  args = IntType ∷ [];
  modes = record { args = Input ∷ []; category = Det; span = span } ∷ record { args = Output ∷ []; category = Multi; span = span } ∷ [];
  span = span;
  unit = None;
}

made : whole ≡ record {
  name = m_name;
  units = [];
  types = record { name = t_name; params = x_name ∷ []; constructors = record { name = c_name; args = TypeVariable x_name ∷ [] } ∷ []; unit = None } ∷ [];
  preds = declared_p ∷ declared_q ∷ [];
  own = 2;
  clauses =
      record { head = apply p_name (variable ∷ []); body = Some (apply q_name (variable ∷ [])); span = span } ∷
      record { head = apply q_name (variable ∷ []); body = None; span = span } ∷ [];
}
made = refl

-- it is not left out
without_q : whole.preds ≡ declared_p ∷ [] → ⊥
without_q same = cc

-- `:- mode p(out) is multi.` before `:- pred p(int::in) is det.`, and `:- pred q is det.`: modes stand in the order of the text, and a predicate without
-- arguments has one too

abbrev moded_items : List Term
moded_items =
    opening ∷ declared mode_name (both is_name (apply p_name (name out_name ∷ [])) (name multi_name)) ∷ pred_p ∷
    declared pred_name (both is_name (name q_name) (name det_name)) ∷ []

modes_in_order : (module_of names moded_items (entries (λ unit. []) moded_items)).preds ≡
    record {
      name = p_name;
      args = IntType ∷ [];
      modes = record { args = Output ∷ []; category = Multi; span = span } ∷ record { args = Input ∷ []; category = Det; span = span } ∷ [];
      span = span;
      unit = None;
    } ∷
    record { name = q_name; args = []; modes = record { args = []; category = Det; span = span } ∷ []; span = span; unit = None } ∷ []
modes_in_order = refl

-- `m.t` is the type t
qualified_type : declared_type names (Application t_name (Some m_name) none span) ≡ TypeApplication t_name no_types
qualified_type = refl

-- `t(int, string)`
type_arguments : declared_type names (apply t_name (name int_name ∷ name string_name ∷ [])) ≡ TypeApplication t_name (more_types IntType (more_types TextType no_types))
type_arguments = refl

-- Type variables: a named one is told by its name, a `_` by its place

named_variable : declared_type names variable ≡ TypeVariable x_name
named_variable = refl

-- `list(_)`
blank_variable : declared_type names (apply list_name (blank_at 7 ∷ [])) ≡ TypeApplication list_name (more_types (TypeVariable 9) no_types)
blank_variable = refl

-- `:- type t(_, _) ---> c.` has two parameters
two_parameters : type_defs_of names None (TypeItem (apply t_name (blank_at 7 ∷ blank_at 10 ∷ [])) (name c_name ∷ []))
    ≡ record { name = t_name; params = 9 ∷ 12 ∷ []; constructors = record { name = c_name; args = [] } ∷ []; unit = None } ∷ []
two_parameters = refl

one_parameter : parameters names (blank_at 7 ∷ blank_at 10 ∷ []) ≡ 9 ∷ 9 ∷ [] → ⊥
one_parameter same = cc

-- `:- type t(X, X) ---> c.` would have one
same_parameter : parameters names (variable ∷ variable ∷ []) ≡ x_name ∷ x_name ∷ []
same_parameter = refl

-- `:- pred p(_, _).` has two types of its arguments
two_arguments : pred_decls_of names [] None span (PredicateItem (apply p_name (blank_at 7 ∷ blank_at 10 ∷ [])) None)
    ≡ record { name = p_name; args = TypeVariable 9 ∷ TypeVariable 12 ∷ []; modes = []; span = span; unit = None } ∷ []
two_arguments = refl

-- What private functions compute

-- `t(X, string)` by its parts, arguments first
by_parts : with_parts names ((VariableShape x_name, span) ∷ (ApplicationShape string_name None 0, span) ∷ (ApplicationShape t_name None 2, span) ∷ []) []
    ≡ TypeApplication t_name (more_types (TypeVariable x_name) (more_types TextType no_types)) ∷ []
by_parts = refl

-- a predicate with its mode, one without, a mode and a clause
with_modes : moded_predicate (PredicateItem (apply p_name (both colon_colon_name (name int_name) (name in_name) ∷ [])) (Some (name det_name))) ≡ key p_name 1 ∷ []
with_modes = refl

without_mode : moded_predicate (PredicateItem (apply p_name (name int_name ∷ [])) None) ≡ []
without_mode = refl

of_mode : moded_predicate (ModeItem (apply q_name (name in_name ∷ name out_name ∷ [])) None) ≡ key q_name 2 ∷ []
of_mode = refl

of_clause : moded_predicate (ClauseItem (apply q_name (variable ∷ [])) None) ≡ []
of_clause = refl
