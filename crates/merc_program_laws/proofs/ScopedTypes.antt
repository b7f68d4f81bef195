-- The constructors of a type mention none but its parameters, where no part of them is an unbound variable.
use Rattle.std.proofs.Common.{◌≡◌, ℕ, ◌+◌, Bool, true, false, ◌==◌, ◌||◌, not, List, [], ◌∷◌, map, length, Option, if◌then◌else◌, refl, sym, ap, subst, eqb-true}
use Rattle.std.proofs.lemmas.Bool.{eq-eqb}
use Rattle.std.specs.List.{AllByRecursion, list_any}
use Rattle.merc_base.specs.Names.{int_name, string_name}
use Rattle.merc_base.specs.declared.place.Span.{Span}
use Rattle.merc_tree.specs.Term.{Term, Terms, Variable, Integer, Text, Application, none, more}
use Rattle.merc_tree.specs.Shape.{arguments_of}
use Rattle.merc_tree.specs.Types.{TypeExprs, IntType, TextType, TypeApplication, no_types, more_types}
use Rattle.merc_tree.specs.declared.declarations.Constructor.{Constructor}
use Rattle.merc_value.specs.Text.{is_blank}
use Rattle.merc_item_forms.specs.Forms.{has_part, have_part, is_this_variable}
use Rattle.merc_item_forms.specs.Items.{Item, Opening, Ending, Section, Import, TypeItem, PredicateItem, ModeItem, ClauseItem, OtherType, OtherFunction, OtherGrammar, OtherDeclaration, Formless}
use Rattle.merc_entries.specs.Entries.{Entry}
use Rattle.merc_declared.specs.UnknownTypes.{has_unknown, is_unbound, is_unknown}
use Rattle.merc_items.specs.ModuleOf.{constructor_of, declared_type, declared_types, named_type, parameters, type_defs_of, type_variable}
use Rattle.merc_order.specs.Bound.{among}
use Rattle.merc_program_laws.specs.GoodPrograms.{AllMentionOnly, IsScoped, MentionsOnly}
use Rattle.merc_program_laws.proofs.Lists.{all_mapped, if_holds}

first_not : (a b : Bool) → (a || b) ≡ false → a ≡ false
first_not true b h = absurd cc
first_not false b h = refl

second_not : (a b : Bool) → (a || b) ≡ false → b ≡ false
second_not true b h = absurd cc
second_not false b h = h

not_not : (a : Bool) → not a ≡ false → a ≡ true
not_not true h = refl
not_not false h = absurd cc

or_true : (a b : Bool) → b ≡ true → (a || b) ≡ true
or_true true b h = refl
or_true false b h = h

none_of_any : {A : Type 0} (test : A → Bool) (all : List A) → list_any test all ≡ false → AllByRecursion (λ one. test one ≡ false) all
none_of_any test [] h = tt
none_of_any test (first ∷ rest) h = (first_not (test first) (list_any test rest) h, none_of_any test rest (second_not (test first) (list_any test rest) h))

-- Given is the table of names.
module _ (names : List (List ℕ)) where
  abbrev pub ItemIsScoped : Item → Type 0
  ItemIsScoped item = (unit : Option ℕ) → AllByRecursion IsScoped (type_defs_of names unit item)

  pub named_is : (name : ℕ) (span : Span) → is_blank names name ≡ false → type_variable names name span ≡ name
  named_is name span is = ap (λ (b : Bool). if b then length names + span.first else name) is

  parameter_is : (name other : ℕ) (span : Span) → is_blank names name ≡ false → (name == other) ≡ true → (name == type_variable names other span) ≡ true
  parameter_is name other span named same =
      let is = eqb-true name other same in
      let one : type_variable names other span ≡ name = subst (λ (n : ℕ). type_variable names n span ≡ name) is (named_is name span named) in
      eq-eqb name (type_variable names other span) (sym one)

  parameter_among : (name : ℕ) (arguments : List Term) → is_blank names name ≡ false → list_any (is_this_variable name) arguments ≡ true → among (parameters names arguments) name ≡ true
  parameter_among name [] named any = absurd cc
  parameter_among name (Variable other span ∷ rest) named any = by (name == other) refl any (parameter_among name rest named)
    where
      by : (b : Bool) → (name == other) ≡ b → (b || list_any (is_this_variable name) rest) ≡ true
          → (list_any (is_this_variable name) rest ≡ true → among (parameters names rest) name ≡ true) → among (parameters names (Variable other span ∷ rest)) name ≡ true
      by true same any' others = ap (λ (b : Bool). b || among (parameters names rest) name) (parameter_is name other span named same)
      by false same any' others = or_true (name == type_variable names other span) (among (parameters names rest) name) (others any')
  parameter_among name (Integer value span ∷ rest) named any = parameter_among name rest named any
  parameter_among name (Text text span ∷ rest) named any = parameter_among name rest named any
  parameter_among name (Application f q arguments span ∷ rest) named any = parameter_among name rest named any

  named_type_scoped : (params : List ℕ) (name : ℕ) (types : TypeExprs) → AllMentionOnly params types → MentionsOnly params (named_type name types)
  named_type_scoped params name no_types h =
      if_holds (MentionsOnly params) (name == int_name) IntType _ tt (if_holds (MentionsOnly params) (name == string_name) TextType (TypeApplication name no_types) tt tt)
  named_type_scoped params name (more_types first rest) h = h

  -- Given are the name of the module, its entries, and the parameters of a type.
  module _ (own : ℕ) (entries : List Entry) (head : Term) where
    abbrev params : List ℕ
    params = parameters names (arguments_of head)

    abbrev is_wrong : Term → Bool
    is_wrong part = is_unknown own entries part || is_unbound names (arguments_of head) part

    mutual
      type_scoped : (term : Term) → has_part is_wrong term ≡ false → MentionsOnly params (declared_type names term)
      type_scoped (Variable name span) right =
          let blank = first_not (is_blank names name) (not (list_any (is_this_variable name) (arguments_of head))) right in
          let bound = not_not (list_any (is_this_variable name) (arguments_of head)) (second_not (is_blank names name) (not (list_any (is_this_variable name) (arguments_of head))) right) in
          subst (λ (n : ℕ). among params n ≡ true) (sym (named_is name span blank)) (parameter_among name (arguments_of head) blank bound)
      type_scoped (Integer value span) right = tt
      type_scoped (Text text span) right = tt
      type_scoped (Application name qualifier arguments span) right =
          named_type_scoped params name (declared_types names arguments) (types_scoped arguments (second_not (is_wrong (Application name qualifier arguments span)) (have_part is_wrong arguments) right))

      types_scoped : (terms : Terms) → have_part is_wrong terms ≡ false → AllMentionOnly params (declared_types names terms)
      types_scoped none right = tt
      types_scoped (more first rest) right = (
        type_scoped first (first_not (has_part is_wrong first) (have_part is_wrong rest) right),
        types_scoped rest (second_not (has_part is_wrong first) (have_part is_wrong rest) right),
      )

    constructor_scoped : (constructor : Term) → list_any (has_part is_wrong) (arguments_of constructor) ≡ false → AllByRecursion (MentionsOnly params) (constructor_of names constructor).args
    constructor_scoped constructor right =
        all_mapped (λ argument. has_part is_wrong argument ≡ false) (MentionsOnly params) (declared_type names) (arguments_of constructor) type_scoped
        (none_of_any (has_part is_wrong) (arguments_of constructor) right)

    constructors_scoped : (constructors : List Term) → list_any (λ constructor. list_any (has_part is_wrong) (arguments_of constructor)) constructors ≡ false
        → AllByRecursion (λ (constructor : Constructor). AllByRecursion (MentionsOnly params) constructor.args) (map (constructor_of names) constructors)
    constructors_scoped constructors right =
        all_mapped (λ constructor. list_any (has_part is_wrong) (arguments_of constructor) ≡ false) (λ (constructor : Constructor). AllByRecursion (MentionsOnly params) constructor.args)
        (constructor_of names) constructors constructor_scoped
        (none_of_any (λ constructor. list_any (has_part is_wrong) (arguments_of constructor)) constructors right)

  pub item_scoped : (own : ℕ) (entries : List Entry) (item : Item) → has_unknown names own entries item ≡ false → ItemIsScoped item
  item_scoped own entries (TypeItem head constructors) right unit = (constructors_scoped own entries head constructors right, tt)
  item_scoped own entries (Opening name) right unit = tt
  item_scoped own entries (Ending name) right unit = tt
  item_scoped own entries Section right unit = tt
  item_scoped own entries (Import units) right unit = tt
  item_scoped own entries (PredicateItem head category) right unit = tt
  item_scoped own entries (ModeItem head category) right unit = tt
  item_scoped own entries (ClauseItem head body) right unit = tt
  item_scoped own entries (OtherType head) right unit = tt
  item_scoped own entries OtherFunction right unit = tt
  item_scoped own entries OtherGrammar right unit = tt
  item_scoped own entries OtherDeclaration right unit = tt
  item_scoped own entries Formless right unit = tt
