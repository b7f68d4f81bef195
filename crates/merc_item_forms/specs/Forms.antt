-- The forms of declarations and clause heads: what is wrong with an item by itself. The name of the module is that of the first item.
use Rattle.std.specs.Prelude.{◌≡◌, ℕ, Bool, true, false, ◌==◌, ◌&&◌, ◌||◌, not, nat_lt, List, [], ◌∷◌, ◌++◌, length, Option, Some, None, is_some, if◌then◌else◌}
use Rattle.std.specs.List.{list_any, list_all, flat_map}
use Rattle.merc_base.specs.Names.{colon_colon_name, else_name, if_name, then_name, semicolon_name, arrow_name, ampersand_name, comma_name, some_name, all_name, implies_name, equivalent_name, not_name, not_provable_name, pred_name, func_name, equal_name, not_equal_name, less_name, greater_name, at_most_name, at_least_name, true_name, fail_name, false_name, in_name, out_name, int_name, string_name, list_name, bool_name, maybe_name, require_name, det_name, semidet_name, multi_name, nondet_name, erroneous_name, failure_name, cc_multi_name, cc_nondet_name, char_name, float_name, uint_name, int8_name, int16_name, int32_name, int64_name, uint8_name, uint16_name, uint32_name, uint64_name}
use Rattle.merc_value.specs.Text.{is_blank}
use Rattle.merc_base.specs.declared.category.Category.{Category}
use Rattle.merc_base.specs.declared.category.Category.TheVariants.{Det, Semidet, Multi, Nondet, Erroneous, Failure}
use Rattle.merc_base.specs.declared.refusal.Construct.{Construct}
use Rattle.merc_base.specs.declared.refusal.Construct.TheVariants.{Declaration, Import as ImportWord, ModeName, Category as CategoryWord, «Type» as TypeWord, Function, GrammarRule}
use Rattle.merc_tree.specs.Term.{Term, Terms, Variable, Integer, Text, Application, none, more}
use Rattle.merc_tree.specs.Shape.{arguments_of}
use Rattle.merc_item_forms.specs.Items.{Item, Opening, Ending, Import, TypeItem, PredicateItem, ModeItem, ClauseItem, OtherType, OtherFunction, OtherGrammar, OtherDeclaration, Formless}
use Rattle.merc_operands.specs.Operands.{plain_name}

abbrev pub is_in : ℕ → List ℕ → Bool
is_in name names = list_any (λ other. name == other) names

-- Heads

-- constants, negations, comparisons, connectives and quantifiers
abbrev pub is_reserved : ℕ → Bool
is_reserved name =
    is_in name (
    true_name ∷ fail_name ∷ false_name ∷ not_name ∷ not_provable_name ∷
    not_equal_name ∷ less_name ∷ greater_name ∷ at_most_name ∷ at_least_name ∷
    comma_name ∷ semicolon_name ∷ ampersand_name ∷ arrow_name ∷ if_name ∷ then_name ∷ else_name ∷
    some_name ∷ all_name ∷ implies_name ∷ equivalent_name ∷ [])

abbrev pub is_application : Term → Bool
is_application (Application name qualifier arguments span) = true
is_application other = false

-- a head is no variable and no literal, and names no connective, comparison, quantifier or `true`, `fail`, `false`
abbrev pub is_head : Term → Bool
is_head (Application name qualifier arguments span) = not (is_reserved name)
is_head other = false

-- a head with `=` and two arguments is a function's
abbrev pub is_function_head : Term → Bool
is_function_head (Application name qualifier (more first (more second none)) span) = name == equal_name
is_function_head other = false

-- a qualifier other than the module's name
abbrev pub is_foreign : ℕ → Term → Bool
is_foreign own (Application name (Some qualifier) arguments span) = not (qualifier == own)
is_foreign own other = false

-- the most arguments of a predicate, a constructor or a type
abbrev pub arity_limit : ℕ
arity_limit = 64

abbrev pub is_wide : Term → Bool
is_wide term = nat_lt arity_limit (length (arguments_of term))

-- Types

-- whether some part of a term, itself among them, is so
abbrev mutual
  pub has_part : (Term → Bool) → Term → Bool
  has_part test (Variable name span) = test (Variable name span)
  has_part test (Integer value span) = test (Integer value span)
  has_part test (Text name span) = test (Text name span)
  has_part test (Application name qualifier arguments span) = test (Application name qualifier arguments span) || have_part test arguments

  pub have_part : (Term → Bool) → Terms → Bool
  have_part test none = false
  have_part test (more first rest) = has_part test first || have_part test rest

abbrev pub is_literal : Term → Bool
is_literal (Integer value span) = true
is_literal (Text name span) = true
is_literal other = false

-- types that are left out where they have no arguments: characters, floats, and integers of other sizes
abbrev pub is_outside_plain : ℕ → Bool
is_outside_plain name =
    is_in name (
    char_name ∷ float_name ∷ uint_name ∷ int8_name ∷ int16_name ∷ int32_name ∷ int64_name ∷
    uint8_name ∷ uint16_name ∷ uint32_name ∷ uint64_name ∷ [])

-- and with any arguments: those of predicates and functions
abbrev pub is_outside_applied : ℕ → Bool
is_outside_applied name = (name == pred_name) || (name == func_name)

-- a type that is left out has no qualifier
abbrev pub is_outside_type : Term → Bool
is_outside_type (Application name None none span) = is_outside_plain name || is_outside_applied name
is_outside_type (Application name None arguments span) = is_outside_applied name
is_outside_type other = false

-- `T::M`
abbrev pub is_moded : Term → Bool
is_moded (Application name None (more first (more second none)) span) = name == colon_colon_name
is_moded other = false

-- the type of a predicate's argument, and its mode
abbrev pub argument_type : Term → Term
argument_type (Application name None (more first (more second none)) span) =
    if name == colon_colon_name then first else Application name None (more first (more second none)) span
argument_type other = other

abbrev pub argument_mode : Term → Option Term
argument_mode (Application name None (more first (more second none)) span) = if name == colon_colon_name then Some second else None
argument_mode other = None

-- Modes and categories

abbrev pub is_mode_name : Option ℕ → Bool
is_mode_name None = false
is_mode_name (Some name) = (name == in_name) || (name == out_name)

abbrev pub is_mode : Term → Bool
is_mode term = is_mode_name (plain_name term)

-- whether a mode stands there that is a variable or a literal
abbrev pub lacks_mode : Option Term → Bool
lacks_mode None = false
lacks_mode (Some term) = not (is_application term)

-- a category's name; `cc_multi` and `cc_nondet` are left out
abbrev pub category_named : ℕ → Option Category
category_named name =
    if name == det_name then Some Det
    else if name == semidet_name then Some Semidet
    else if name == multi_name then Some Multi
    else if name == nondet_name then Some Nondet
    else if name == erroneous_name then Some Erroneous
    else if name == failure_name then Some Failure
    else None

abbrev pub is_outside_category : Option ℕ → Bool
is_outside_category None = false
is_outside_category (Some name) = (name == cc_multi_name) || (name == cc_nondet_name)

abbrev pub is_category : Option ℕ → Bool
is_category None = false
is_category (Some name) = is_some (category_named name) || is_outside_category (Some name)

-- whether a category stands there that is no category's name
abbrev pub lacks_category : Option Term → Bool
lacks_category None = false
lacks_category (Some term) = not (is_category (plain_name term))

-- Type parameters are distinct variables. Each `_` is a variable of its own.

abbrev pub is_variable : Term → Bool
is_variable (Variable name span) = true
is_variable other = false

abbrev pub is_this_variable : ℕ → Term → Bool
is_this_variable name (Variable other span) = name == other
is_this_variable name other = false

-- whether a variable of one of these terms stands among the later ones again
abbrev pub repeats : List (List ℕ) → List Term → Bool
repeats names [] = false
repeats names (Variable name span ∷ rest) = (not (is_blank names name) && list_any (is_this_variable name) rest) || repeats names rest
repeats names (other ∷ rest) = repeats names rest

abbrev pub is_opening : Item → Bool
is_opening (Opening name) = true
is_opening other = false

-- What is wrong with the head of a type, in a module of this name.
pub data IsWrongTypeHead (names : List (List ℕ)) (own : ℕ) (head : Term) : Type 0 where
  no_name : is_application head ≡ false → IsWrongTypeHead names own head
  qualifier : is_foreign own head ≡ true → IsWrongTypeHead names own head
  parameters : list_all is_variable (arguments_of head) ≡ false → IsWrongTypeHead names own head
  parameters_repeat : repeats names (arguments_of head) ≡ true → IsWrongTypeHead names own head

-- What is not of the form of an item, in a module of this name.
pub data IsWrong (names : List (List ℕ)) (own : ℕ) : (first last : Bool) → Item → Type 0 where
  no_opening : (last : Bool) (item : Item) → is_opening item ≡ false → IsWrong names own true last item
  second_opening : (last : Bool) (name : ℕ) → IsWrong names own false last (Opening name)
  early_end : (first : Bool) (name : ℕ) → IsWrong names own first false (Ending name)
  other_end : (first last : Bool) (name : ℕ) → name == own ≡ false → IsWrong names own first last (Ending name)
  formless : (first last : Bool) → IsWrong names own first last Formless
  type_head : (first last : Bool) (head : Term) (constructors : List Term) → IsWrongTypeHead names own head → IsWrong names own first last (TypeItem head constructors)
  other_type_head : (first last : Bool) (head : Term) → IsWrongTypeHead names own head → IsWrong names own first last (OtherType head)
  constructor_head : (first last : Bool) (head : Term) (constructors : List Term) → list_all is_application constructors ≡ false → IsWrong names own first last (TypeItem head constructors)
  constructor_qualifier : (first last : Bool) (head : Term) (constructors : List Term) → list_any (is_foreign own) constructors ≡ true → IsWrong names own first last (TypeItem head constructors)
  constructor_literal : (first last : Bool) (head : Term) (constructors : List Term) → list_any (has_part is_literal) constructors ≡ true → IsWrong names own first last (TypeItem head constructors)
  predicate_head : (first last : Bool) (head : Term) (category : Option Term) → is_head head ≡ false → IsWrong names own first last (PredicateItem head category)
  predicate_qualifier : (first last : Bool) (head : Term) (category : Option Term) → is_foreign own head ≡ true → IsWrong names own first last (PredicateItem head category)
  predicate_literal : (first last : Bool) (head : Term) (category : Option Term) → list_any (λ argument. has_part is_literal (argument_type argument)) (arguments_of head) ≡ true → IsWrong names own first last (PredicateItem head category)
  partly_moded : (first last : Bool) (head : Term) (category : Option Term) → list_any is_moded (arguments_of head) && list_any (λ argument. not (is_moded argument)) (arguments_of head) ≡ true → IsWrong names own first last (PredicateItem head category)
  predicate_mode : (first last : Bool) (head : Term) (category : Option Term) → list_any (λ argument. lacks_mode (argument_mode argument)) (arguments_of head) ≡ true → IsWrong names own first last (PredicateItem head category)
  predicate_category : (first last : Bool) (head : Term) (category : Option Term) → lacks_category category ≡ true → IsWrong names own first last (PredicateItem head category)
  mode_head : (first last : Bool) (head : Term) (category : Option Term) → is_head head ≡ false → IsWrong names own first last (ModeItem head category)
  mode_qualifier : (first last : Bool) (head : Term) (category : Option Term) → is_foreign own head ≡ true → IsWrong names own first last (ModeItem head category)
  mode_argument : (first last : Bool) (head : Term) (category : Option Term) → list_all is_application (arguments_of head) ≡ false → IsWrong names own first last (ModeItem head category)
  mode_category : (first last : Bool) (head : Term) (category : Option Term) → lacks_category category ≡ true → IsWrong names own first last (ModeItem head category)
  clause_head : (first last : Bool) (head : Term) (body : Option Term) → is_head head ≡ false → IsWrong names own first last (ClauseItem head body)

-- What the profile leaves out, as the words for it in the order of their tokens.

abbrev pub word_if : Bool → Construct → List Construct
word_if true word = word ∷ []
word_if false word = []

abbrev pub type_words : Term → List Construct
type_words term = word_if (has_part is_outside_type term) TypeWord

abbrev pub mode_words : Option Term → List Construct
mode_words None = []
mode_words (Some term) = word_if (not (is_mode term)) ModeName

abbrev pub argument_words : Term → List Construct
argument_words argument = type_words (argument_type argument) ++ mode_words (argument_mode argument)

abbrev pub category_words : Option Term → List Construct
category_words None = []
category_words (Some term) = word_if (is_outside_category (plain_name term)) CategoryWord

-- the units that there are
abbrev pub is_unit : Option ℕ → Bool
is_unit None = false
is_unit (Some name) = is_in name (int_name ∷ string_name ∷ list_name ∷ bool_name ∷ maybe_name ∷ require_name ∷ [])

-- a constructor with `::` or a type that is left out, in an argument
abbrev pub constructor_words : Term → List Construct
constructor_words constructor = word_if (has_part is_moded constructor || list_any (has_part is_outside_type) (arguments_of constructor)) TypeWord

abbrev pub words : Item → List Construct
words (Import units) = flat_map (λ unit. word_if (not (is_unit (plain_name unit))) ImportWord) units
words (TypeItem head constructors) = word_if (is_outside_type head) TypeWord ++ flat_map constructor_words constructors
words (PredicateItem head category) =
    if is_function_head head then Function ∷ []
    else flat_map argument_words (arguments_of head) ++ category_words category
words (ModeItem head category) =
    if is_function_head head then Function ∷ []
    else flat_map (λ argument. mode_words (Some argument)) (arguments_of head) ++ category_words category
words (ClauseItem head body) = word_if (is_function_head head) Function
words (OtherType head) = TypeWord ∷ []
words OtherFunction = Function ∷ []
words OtherGrammar = GrammarRule ∷ []
words OtherDeclaration = Declaration ∷ []
words other = []

-- More arguments of a predicate, a constructor or a type than there may be.
abbrev pub is_too_wide : Item → Bool
is_too_wide (TypeItem head constructors) = is_wide head || list_any (has_part is_wide) constructors
is_too_wide (PredicateItem head category) = is_wide head || list_any (λ argument. has_part is_wide (argument_type argument)) (arguments_of head)
is_too_wide (ModeItem head category) = is_wide head
is_too_wide (ClauseItem head body) = is_wide head
is_too_wide other = false
