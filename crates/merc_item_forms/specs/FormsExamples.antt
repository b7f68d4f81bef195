-- Items of a module `m`: one of each kind, for each way of being wrong one, with right ones beside it, and for each word of what the profile leaves out one.
use Rattle.std.specs.Prelude.{◌≡◌, ℕ, Bool, true, false, not, ◌&&◌, List, [], ◌∷◌, map, Option, Some, None, pos, codes, replicate, refl}
use Rattle.std.specs.List.{list_any, list_all}
use Rattle.merc_base.specs.Names.{pragma_name, colon_minus_name, grammar_arrow_name, module_name, end_module_name, import_module_name, mode_name, type_name, type_arrow_name, colon_colon_name, equal_equal_name, else_name, if_name, then_name, semicolon_name, arrow_name, ampersand_name, comma_name, some_name, all_name, implies_name, equivalent_name, not_name, not_provable_name, pred_name, func_name, is_name, equal_name, not_equal_name, less_name, greater_name, at_most_name, at_least_name, plus_name, minus_name, interface_name, implementation_name, true_name, fail_name, false_name, error_name, in_name, out_name, int_name, string_name, list_name, bool_name, maybe_name, require_name, det_name, semidet_name, multi_name, nondet_name, erroneous_name, failure_name, cc_multi_name, cc_nondet_name, char_name, float_name, uint_name, int8_name, int16_name, int32_name, int64_name, uint8_name, uint16_name, uint32_name, uint64_name}
use Rattle.merc_base.specs.declared.category.Category.TheVariants.{Det, Semidet, Multi, Nondet, Erroneous, Failure}
use Rattle.merc_base.specs.declared.refusal.Construct.TheVariants.{Declaration, Import as ImportWord, ModeName, Category as CategoryWord, «Type» as TypeWord, Function, GrammarRule}
use Rattle.merc_tree.specs.Shape.{arguments_of}
use Rattle.merc_tree.specs.Term.{Term, Variable, Integer, Text, Application, none, terms_of, no_span}
use Rattle.merc_item_forms.specs.Forms.{IsWrongTypeHead, no_name, qualifier, parameters, parameters_repeat, IsWrong, no_opening, second_opening, early_end, other_end, formless, type_head, other_type_head, constructor_head, constructor_qualifier, constructor_literal, predicate_head, predicate_qualifier, predicate_literal, partly_moded, predicate_mode, predicate_category, mode_head, mode_qualifier, mode_argument, mode_category, clause_head, is_unit, is_outside_type, category_named, is_category, is_reserved, is_application, is_head, is_foreign, is_variable, is_literal, is_moded, has_part, repeats, argument_type, argument_mode, lacks_mode, lacks_category, words, is_too_wide}
use Rattle.merc_item_forms.specs.FormChecks.{is_wrong}
use Rattle.merc_item_forms.specs.Items.{Item, Opening, Ending, Section, Import, TypeItem, PredicateItem, ModeItem, ClauseItem, OtherType, OtherFunction, OtherGrammar, OtherDeclaration, Formless, item_of}

-- Terms. The table of names has `_` and `T`. The module is `m`, the other names are `f`, `p` and `other`.

abbrev pub names : List (List ℕ)
names = codes "_" ∷ codes "T" ∷ []

abbrev pub blank : Term
blank = Variable 0 no_span

abbrev pub t_name : ℕ
t_name = 1

abbrev pub t : Term
t = Variable t_name no_span

abbrev three : Term
three = Integer (pos 3) no_span

abbrev pub apply : ℕ → List Term → Term
apply name arguments = Application name None (terms_of arguments) no_span

abbrev pub plain : ℕ → Term
plain name = apply name []

abbrev pub m : ℕ
m = 110

abbrev pub other : ℕ
other = 111

abbrev pub f : ℕ
f = 112

abbrev pub p : ℕ
p = 113

-- `other.f`, and `m.f`

abbrev other_f : Term
other_f = Application f (Some other) none no_span

abbrev own_f : Term
own_f = Application f (Some m) none no_span

-- `A op B`
abbrev pub both : ℕ → Term → Term → Term
both operator left right = apply operator (left ∷ right ∷ [])

-- `:- word argument`
abbrev pub declared : ℕ → Term → Item
declared word argument = item_of (apply colon_minus_name (apply word (argument ∷ []) ∷ []))

abbrev type_item : Term → Term → Item
type_item head constructors = declared type_name (both type_arrow_name head constructors)

abbrev pub moded : Term → Term → Term
moded term mode = both colon_colon_name term mode

abbrev pub int : Term
int = plain int_name

abbrev char : Term
char = plain char_name

abbrev in_mode : Term
in_mode = plain in_name

abbrev predicate : List Term → Item
predicate arguments = declared pred_name (apply p arguments)

abbrev is_det : Term → Term
is_det head = both is_name head (plain det_name)

-- What items are

pub opening-example : declared module_name (plain m) ≡ Opening m
opening-example = refl

pub opening-other : declared module_name (both comma_name (plain m) (plain f)) ≡ Formless
opening-other = refl

-- a name with a qualifier, one with arguments, an integer and a variable
pub opening-others : map (declared module_name) (own_f ∷ apply m (t ∷ []) ∷ three ∷ t ∷ []) ≡ replicate 4 Formless
opening-others = refl

pub ending-example : declared end_module_name (plain m) ≡ Ending m
ending-example = refl

pub ending-other : declared end_module_name t ≡ Formless
ending-other = refl

pub interface-example : item_of (apply colon_minus_name (plain interface_name ∷ [])) ≡ Section
interface-example = refl

pub implementation-example : item_of (apply colon_minus_name (plain implementation_name ∷ [])) ≡ Section
implementation-example = refl

pub interface-applied : declared interface_name (plain m) ≡ Formless
interface-applied = refl

pub import-example : declared import_module_name (both comma_name (plain list_name) (plain int_name)) ≡ Import (plain list_name ∷ plain int_name ∷ [])
import-example = refl

pub type-example : type_item (apply f (t ∷ [])) (both semicolon_name (plain p) (apply p (t ∷ []))) ≡ TypeItem (apply f (t ∷ [])) (plain p ∷ apply p (t ∷ []) ∷ [])
type-example = refl

-- `f == int` has the head `f`
pub type-equal : declared type_name (both equal_equal_name (plain f) int) ≡ OtherType (plain f)
type-equal = refl

pub type-alone : declared type_name (plain f) ≡ OtherType (plain f)
type-alone = refl

-- `f -> p` is a head
pub type-other : declared type_name (both arrow_name (plain f) (plain p)) ≡ OtherType (both arrow_name (plain f) (plain p))
type-other = refl

pub type-variable : declared type_name t ≡ OtherType t
type-variable = refl

pub predicate-example : declared pred_name (is_det (apply p (int ∷ []))) ≡ PredicateItem (apply p (int ∷ [])) (Some (plain det_name))
predicate-example = refl

pub predicate-plain : declared pred_name (apply p (int ∷ [])) ≡ PredicateItem (apply p (int ∷ [])) None
predicate-plain = refl

pub mode-example : declared mode_name (is_det (apply p (in_mode ∷ []))) ≡ ModeItem (apply p (in_mode ∷ [])) (Some (plain det_name))
mode-example = refl

pub function-example : declared func_name (both equal_name (apply p (int ∷ [])) int) ≡ OtherFunction
function-example = refl

pub pragma-example : declared pragma_name (plain f) ≡ OtherDeclaration
pragma-example = refl

pub pragma-alone : item_of (apply colon_minus_name (plain pragma_name ∷ [])) ≡ OtherDeclaration
pragma-alone = refl

pub pragma-two : item_of (apply colon_minus_name (both pragma_name int int ∷ [])) ≡ OtherDeclaration
pragma-two = refl

pub word-alone : item_of (apply colon_minus_name (plain module_name ∷ [])) ≡ Formless
word-alone = refl

-- The words of declarations with another number of arguments: `:- word.` and `:- word(m, f).`

abbrev alone : ℕ → Item
alone word = item_of (apply colon_minus_name (plain word ∷ []))

abbrev with_two : ℕ → Item
with_two word = item_of (apply colon_minus_name (both word (plain m) (plain f) ∷ []))

pub word-each_alone : map alone (module_name ∷ end_module_name ∷ import_module_name ∷ mode_name ∷ type_name ∷ pred_name ∷ []) ≡ replicate 6 Formless
word-each_alone = refl

pub word-each_two : map with_two
    (module_name ∷ end_module_name ∷ import_module_name ∷ mode_name ∷ type_name ∷ pred_name ∷ interface_name ∷ implementation_name ∷ []) ≡ replicate 8 Formless
word-each_two = refl

pub function-each : alone func_name ∷ with_two func_name ∷ [] ≡ OtherFunction ∷ OtherFunction ∷ []
function-each = refl

pub implementation-applied : declared implementation_name (plain m) ≡ Formless
implementation-applied = refl

-- `:- module m, f.` is no opening
pub word-two : item_of (apply colon_minus_name (both comma_name (apply module_name (plain m ∷ [])) (plain f) ∷ [])) ≡ OtherDeclaration
word-two = refl

pub qualified-word : item_of (apply colon_minus_name (other_f ∷ [])) ≡ OtherDeclaration
qualified-word = refl

pub declared-variable : item_of (apply colon_minus_name (t ∷ [])) ≡ Formless
declared-variable = refl

pub declared-literal : item_of (apply colon_minus_name (three ∷ [])) ≡ Formless
declared-literal = refl

pub clause-example : item_of (both colon_minus_name (plain p) (plain true_name)) ≡ ClauseItem (plain p) (Some (plain true_name))
clause-example = refl

pub clause-fact : item_of (apply p (t ∷ [])) ≡ ClauseItem (apply p (t ∷ [])) None
clause-fact = refl

pub clause-fact_two : item_of (both p t t) ≡ ClauseItem (both p t t) None
clause-fact_two = refl

pub clause-variable : item_of t ≡ ClauseItem t None
clause-variable = refl

pub grammar-example : item_of (both grammar_arrow_name (plain p) (plain true_name)) ≡ OtherGrammar
grammar-example = refl

pub clause-not : item_of (both grammar_arrow_name (plain p) (plain true_name)) ≡ ClauseItem (plain p) (Some (plain true_name)) → ⊥
clause-not same = cc

-- A right item of each kind: it is wrong in no way.

abbrev IsRight : (first last : Bool) → Item → Type 0
IsRight first last item = IsWrong names m first last item → ⊥

pub opening-right : IsRight true false (declared module_name (plain m))
opening-right (no_opening last item is) = cc

pub ending-right : IsRight false true (declared end_module_name (plain m))
ending-right (other_end first last name is) = cc

right_head : {head : Term} → is_application head ≡ true → is_foreign m head ≡ false → list_all is_variable (arguments_of head) ≡ true
    → repeats names (arguments_of head) ≡ false → IsWrongTypeHead names m head → ⊥
right_head a b c d (no_name is) = cc
right_head a b c d (qualifier is) = cc
right_head a b c d (parameters is) = cc
right_head a b c d (parameters_repeat is) = cc

right_type : {head : Term} {constructors : List Term} → is_application head ≡ true → is_foreign m head ≡ false → list_all is_variable (arguments_of head) ≡ true
    → repeats names (arguments_of head) ≡ false → list_all is_application constructors ≡ true → list_any (is_foreign m) constructors ≡ false
    → list_any (has_part is_literal) constructors ≡ false → IsRight false false (TypeItem head constructors)
right_type a b c d e g h (type_head first last head constructors is) = right_head a b c d is
right_type a b c d e g h (constructor_head first last head constructors is) = cc
right_type a b c d e g h (constructor_qualifier first last head constructors is) = cc
right_type a b c d e g h (constructor_literal first last head constructors is) = cc

right_other_type : {head : Term} → is_application head ≡ true → is_foreign m head ≡ false → list_all is_variable (arguments_of head) ≡ true
    → repeats names (arguments_of head) ≡ false → IsRight false false (OtherType head)
right_other_type a b c d (other_type_head first last head is) = right_head a b c d is

right_predicate : {head : Term} {category : Option Term} → is_head head ≡ true → is_foreign m head ≡ false
    → list_any (λ argument. has_part is_literal (argument_type argument)) (arguments_of head) ≡ false
    → list_any is_moded (arguments_of head) && list_any (λ argument. not (is_moded argument)) (arguments_of head) ≡ false
    → list_any (λ argument. lacks_mode (argument_mode argument)) (arguments_of head) ≡ false → lacks_category category ≡ false
    → IsRight false false (PredicateItem head category)
right_predicate a b c d e g (predicate_head first last head category is) = cc
right_predicate a b c d e g (predicate_qualifier first last head category is) = cc
right_predicate a b c d e g (predicate_literal first last head category is) = cc
right_predicate a b c d e g (partly_moded first last head category is) = cc
right_predicate a b c d e g (predicate_mode first last head category is) = cc
right_predicate a b c d e g (predicate_category first last head category is) = cc

right_mode : {head : Term} {category : Option Term} → is_head head ≡ true → is_foreign m head ≡ false → list_all is_application (arguments_of head) ≡ true
    → lacks_category category ≡ false → IsRight false false (ModeItem head category)
right_mode a b c d (mode_head first last head category is) = cc
right_mode a b c d (mode_qualifier first last head category is) = cc
right_mode a b c d (mode_argument first last head category is) = cc
right_mode a b c d (mode_category first last head category is) = cc

pub clause-right : IsRight false false (item_of (plain p))
clause-right (clause_head first last head body is) = cc

-- that `other.f.` is another module's clause is no fault of its form
pub clause_qualifier-right : IsRight false false (item_of other_f)
clause_qualifier-right (clause_head first last head body is) = cc

-- The first item, and the last

pub no_opening-example : IsWrong names m true false (predicate [])
no_opening-example = no_opening false (predicate []) refl

pub second_opening-example : IsWrong names m false false (declared module_name (plain other))
second_opening-example = second_opening false other

pub early_end-example : IsWrong names m false false (declared end_module_name (plain m))
early_end-example = early_end false m

pub other_end-example : IsWrong names m false true (declared end_module_name (plain other))
other_end-example = other_end false true other refl

pub formless-example : IsWrong names m true false (declared module_name (both comma_name (plain m) (plain f)))
formless-example = formless true false

-- Types

pub type_head-example : IsWrong names m false false (type_item t (plain p))
type_head-example = type_head false false t _ (no_name refl)

pub type_head-right : IsRight false false (type_item (plain f) (plain p))
type_head-right = right_type refl refl refl refl refl refl refl

pub type_qualifier-example : IsWrong names m false false (type_item other_f (plain p))
type_qualifier-example = type_head false false other_f _ (qualifier refl)

pub type_qualifier-right : IsRight false false (type_item own_f (plain p))
type_qualifier-right = right_type refl refl refl refl refl refl refl

pub parameters-example : IsWrong names m false false (type_item (apply f (int ∷ [])) (plain p))
parameters-example = type_head false false (apply f (int ∷ [])) _ (parameters refl)

pub parameters-second : IsWrong names m false false (type_item (apply f (t ∷ int ∷ [])) (plain p))
parameters-second = type_head false false (apply f (t ∷ int ∷ [])) _ (parameters refl)

pub parameters-right : IsRight false false (type_item (apply f (t ∷ [])) (apply p (int ∷ [])))
parameters-right = right_type refl refl refl refl refl refl refl

pub parameters_repeat-example : IsWrong names m false false (type_item (apply f (t ∷ blank ∷ t ∷ [])) (plain p))
parameters_repeat-example = type_head false false (apply f (t ∷ blank ∷ t ∷ [])) _ (parameters_repeat refl)

pub parameters_repeat-later : IsWrong names m false false (type_item (apply f (blank ∷ t ∷ t ∷ [])) (plain p))
parameters_repeat-later = type_head false false (apply f (blank ∷ t ∷ t ∷ [])) _ (parameters_repeat refl)

-- each `_` is a variable of its own
pub parameters_repeat-right : IsRight false false (type_item (apply f (blank ∷ t ∷ blank ∷ [])) (plain p))
parameters_repeat-right = right_type refl refl refl refl refl refl refl

-- The same of types that are left out

-- `:- type T == int.`
pub other_type-variable : IsWrong names m false false (declared type_name (both equal_equal_name t int))
other_type-variable = other_type_head false false t (no_name refl)

-- `:- type 3.`
pub other_type-literal : IsWrong names m false false (declared type_name three)
other_type-literal = other_type_head false false three (no_name refl)

-- `:- type f(T, T) == int.`
pub other_type-repeats : IsWrong names m false false (declared type_name (both equal_equal_name (apply f (t ∷ t ∷ [])) int))
other_type-repeats = other_type_head false false (apply f (t ∷ t ∷ [])) (parameters_repeat refl)

-- `:- type f = p ; other.`
pub other_type-equation : IsWrong names m false false (declared type_name (both semicolon_name (both equal_name (plain f) (plain p)) (plain other)))
other_type-equation = other_type_head false false (both semicolon_name (both equal_name (plain f) (plain p)) (plain other)) (parameters refl)

-- `:- type f(T) -> p ; other.`
pub other_type-arrow : IsWrong names m false false (declared type_name (both semicolon_name (both arrow_name (apply f (t ∷ [])) (plain p)) (plain other)))
other_type-arrow = other_type_head false false (both semicolon_name (both arrow_name (apply f (t ∷ [])) (plain p)) (plain other)) (parameters refl)

-- `:- type other.f.`
pub other_type-qualifier : IsWrong names m false false (declared type_name other_f)
other_type-qualifier = other_type_head false false other_f (qualifier refl)

-- `:- type f(T) == int.`
pub other_type-right : IsRight false false (declared type_name (both equal_equal_name (apply f (t ∷ [])) int))
other_type-right = right_other_type refl refl refl refl

-- `:- type f.`
pub other_type-alone : IsRight false false (declared type_name (plain f))
other_type-alone = right_other_type refl refl refl refl

-- `:- type (T ; _).`
pub other_type-semicolon : IsRight false false (declared type_name (both semicolon_name t blank))
other_type-semicolon = right_other_type refl refl refl refl

-- and a grammar rule is wrong in no way, whatever its head: `T --> p.`
pub grammar-right : is_wrong names m false false (item_of (both grammar_arrow_name t (plain p))) ≡ false
grammar-right = refl

pub constructor_head-example : IsWrong names m false false (type_item (plain f) (both semicolon_name (plain p) t))
constructor_head-example = constructor_head false false (plain f) _ refl

pub constructor_qualifier-example : IsWrong names m false false (type_item (plain f) (both semicolon_name (plain p) other_f))
constructor_qualifier-example = constructor_qualifier false false (plain f) _ refl

pub constructor_qualifier-right : IsRight false false (type_item (plain f) (both semicolon_name (plain p) own_f))
constructor_qualifier-right = right_type refl refl refl refl refl refl refl

pub constructor_literal-example : IsWrong names m false false (type_item (plain f) (apply p (apply f (three ∷ []) ∷ [])))
constructor_literal-example = constructor_literal false false (plain f) _ refl

-- `p(int, f(T, "a"))`
pub constructor_literal-text : IsWrong names m false false (type_item (plain f) (apply p (int ∷ apply f (t ∷ Text t_name no_span ∷ []) ∷ [])))
constructor_literal-text = constructor_literal false false (plain f) _ refl

-- Predicates

pub predicate_head-example : IsWrong names m false false (declared pred_name (plain true_name))
predicate_head-example = predicate_head false false (plain true_name) None refl

pub predicate_head-right : IsRight false false (declared pred_name (plain p))
predicate_head-right = right_predicate refl refl refl refl refl refl

pub predicate_qualifier-example : IsWrong names m false false (declared pred_name other_f)
predicate_qualifier-example = predicate_qualifier false false other_f None refl

pub predicate_qualifier-right : IsRight false false (declared pred_name own_f)
predicate_qualifier-right = right_predicate refl refl refl refl refl refl

pub predicate_literal-example : IsWrong names m false false (predicate (moded (apply f (three ∷ [])) in_mode ∷ []))
predicate_literal-example = predicate_literal false false _ None refl

pub predicate_literal-right : IsRight false false (predicate (moded (apply f (t ∷ [])) in_mode ∷ []))
predicate_literal-right = right_predicate refl refl refl refl refl refl

pub partly_moded-example : IsWrong names m false false (predicate (moded int in_mode ∷ int ∷ []))
partly_moded-example = partly_moded false false _ None refl

pub partly_moded-last : IsWrong names m false false (predicate (int ∷ moded int in_mode ∷ []))
partly_moded-last = partly_moded false false _ None refl

pub partly_moded-right : IsRight false false (predicate (int ∷ int ∷ []))
partly_moded-right = right_predicate refl refl refl refl refl refl

pub predicate_mode-example : IsWrong names m false false (predicate (moded int t ∷ []))
predicate_mode-example = predicate_mode false false _ None refl

-- `p(int::in, int::3)`
pub predicate_mode-literal : IsWrong names m false false (predicate (moded int in_mode ∷ moded int three ∷ []))
predicate_mode-literal = predicate_mode false false _ None refl

-- another mode's name is no wrong form
pub predicate_mode-right : IsRight false false (predicate (moded int (plain f) ∷ []))
predicate_mode-right = right_predicate refl refl refl refl refl refl

pub predicate_category-example : IsWrong names m false false (declared pred_name (both is_name (plain p) (plain f)))
predicate_category-example = predicate_category false false (plain p) _ refl

-- nor is `cc_multi`
pub predicate_category-right : IsRight false false (declared pred_name (both is_name (plain p) (plain cc_multi_name)))
predicate_category-right = right_predicate refl refl refl refl refl refl

-- Modes

pub mode_head-example : IsWrong names m false false (declared mode_name three)
mode_head-example = mode_head false false three None refl

pub mode_head-right : IsRight false false (declared mode_name (is_det (apply p (in_mode ∷ []))))
mode_head-right = right_mode refl refl refl refl

pub mode_qualifier-example : IsWrong names m false false (declared mode_name (is_det other_f))
mode_qualifier-example = mode_qualifier false false other_f _ refl

pub mode_qualifier-right : IsRight false false (declared mode_name (is_det own_f))
mode_qualifier-right = right_mode refl refl refl refl

pub mode_argument-example : IsWrong names m false false (declared mode_name (apply p (t ∷ [])))
mode_argument-example = mode_argument false false (apply p (t ∷ [])) None refl

pub mode_category-example : IsWrong names m false false (declared mode_name (both is_name (plain p) t))
mode_category-example = mode_category false false (plain p) _ refl

-- Clauses

pub clause_head-example : IsWrong names m false false (item_of (both colon_minus_name (both less_name t three) (plain p)))
clause_head-example = clause_head false false (both less_name t three) _ refl

-- `true(T) :- p.`: with any number of arguments
pub clause_head-arity : IsWrong names m false false (item_of (both colon_minus_name (apply true_name (t ∷ [])) (plain p)))
clause_head-arity = clause_head false false (apply true_name (t ∷ [])) _ refl

-- What the profile leaves out

pub words-import : words (declared import_module_name (both comma_name (plain list_name) (plain f))) ≡ ImportWord ∷ []
words-import = refl

-- `m.list` is no plain name
pub words-qualified_unit : words (declared import_module_name (Application list_name (Some m) none no_span)) ≡ ImportWord ∷ []
words-qualified_unit = refl

pub words-units : words (declared import_module_name (both comma_name (plain list_name) (plain require_name))) ≡ []
words-units = refl

pub words-type_head : words (type_item char (plain p)) ≡ TypeWord ∷ []
words-type_head = refl

-- one word for each constructor
pub words-constructors : words (type_item (plain f) (both semicolon_name (apply p (char ∷ plain pred_name ∷ [])) (both semicolon_name (plain p) (apply p (moded int int ∷ []))))) ≡ TypeWord ∷ TypeWord ∷ []
words-constructors = refl

-- a constructor may have the name of a type that is left out
pub words-constructor_name : words (type_item (plain f) char) ≡ []
words-constructor_name = refl

-- `p :: int` as a constructor, and types in types
pub words-moded_constructor : words (type_item (plain f) (moded (plain p) int)) ≡ TypeWord ∷ []
words-moded_constructor = refl

pub words-constructor_inside : words (type_item (plain f) (apply p (int ∷ apply f (char ∷ []) ∷ []))) ≡ TypeWord ∷ []
words-constructor_inside = refl

pub words-predicate_inside : words (predicate (int ∷ apply f (int ∷ char ∷ []) ∷ [])) ≡ TypeWord ∷ []
words-predicate_inside = refl

-- `p(int::f, char::in)`: the words stand in the order of their tokens
pub words-in_order : words (predicate (moded int (plain f) ∷ moded char in_mode ∷ [])) ≡ ModeName ∷ TypeWord ∷ []
words-in_order = refl

-- `p(int::in, char::f) is cc_multi`
pub words-predicate : words (declared pred_name (both is_name (apply p (moded int in_mode ∷ moded char (plain f) ∷ [])) (plain cc_multi_name))) ≡ TypeWord ∷ ModeName ∷ CategoryWord ∷ []
words-predicate = refl

pub words-predicate-right : words (declared pred_name (is_det (apply p (moded int in_mode ∷ [])))) ≡ []
words-predicate-right = refl

pub words-function : words (declared pred_name (both equal_name (apply p (char ∷ [])) int)) ≡ Function ∷ []
words-function = refl

pub words-func : words (declared func_name (both equal_name (apply p (int ∷ [])) int)) ≡ Function ∷ []
words-func = refl

pub words-mode : words (declared mode_name (apply p (in_mode ∷ plain f ∷ []))) ≡ ModeName ∷ []
words-mode = refl

pub words-mode_right : words (declared mode_name (is_det (apply p (in_mode ∷ plain out_name ∷ [])))) ≡ []
words-mode_right = refl

-- `in(T)` and `m.in` are no modes
pub words-mode_others : words (declared mode_name (apply p (apply in_name (t ∷ []) ∷ in_mode ∷ Application in_name (Some m) none no_span ∷ []))) ≡ ModeName ∷ ModeName ∷ []
words-mode_others = refl

-- `:- mode p(f) = in.`
pub words-mode_function : words (declared mode_name (both equal_name (apply p (plain f ∷ [])) in_mode)) ≡ Function ∷ []
words-mode_function = refl

-- `=` with three arguments is no function's head
pub words-equal_three : words (item_of (apply equal_name (t ∷ t ∷ t ∷ []))) ≡ []
words-equal_three = refl

pub words-clause : words (item_of (both colon_minus_name (both equal_name (plain p) t) (plain true_name))) ≡ Function ∷ []
words-clause = refl

pub words-other_type : words (declared type_name (both equal_equal_name (plain f) int)) ≡ TypeWord ∷ []
words-other_type = refl

pub words-grammar : words (item_of (both grammar_arrow_name (plain p) (plain f))) ≡ GrammarRule ∷ []
words-grammar = refl

pub words-declaration : words (declared pragma_name (plain f)) ≡ Declaration ∷ []
words-declaration = refl

pub words-not : words (declared pragma_name (plain f)) ≡ [] → ⊥
words-not same = cc

-- each of these types is left out

pub words-type_equal : words (declared type_name (both equal_equal_name (apply f (t ∷ [])) int)) ≡ TypeWord ∷ []
words-type_equal = refl

pub words-type_semicolon : words (declared type_name (both semicolon_name t blank)) ≡ TypeWord ∷ []
words-type_semicolon = refl

pub words-grammar_variable : words (item_of (both grammar_arrow_name t (plain p))) ≡ GrammarRule ∷ []
words-grammar_variable = refl

-- Names, one by one

abbrev all_such : (ℕ → Bool) → List ℕ → Bool
all_such test listed = list_all test listed

abbrev none_such : (ℕ → Bool) → List ℕ → Bool
none_such test listed = list_all (λ name. not (test name)) listed

pub units-example : all_such (λ name. is_unit (Some name)) (int_name ∷ string_name ∷ list_name ∷ bool_name ∷ maybe_name ∷ require_name ∷ []) ≡ true
units-example = refl

pub units-not : none_such (λ name. is_unit (Some name)) (module_name ∷ char_name ∷ det_name ∷ m ∷ []) ≡ true
units-not = refl

pub outside_types-example : all_such (λ name. is_outside_type (plain name))
    (char_name ∷ float_name ∷ uint_name ∷ int8_name ∷ int16_name ∷ int32_name ∷ int64_name ∷ uint8_name ∷ uint16_name ∷ uint32_name ∷ uint64_name ∷ pred_name ∷ func_name ∷ []) ≡ true
outside_types-example = refl

pub outside_types-not : none_such (λ name. is_outside_type (plain name)) (int_name ∷ string_name ∷ list_name ∷ bool_name ∷ maybe_name ∷ f ∷ []) ≡ true
outside_types-not = refl

-- with arguments only the types of predicates and functions
pub outside_types-applied : none_such (λ name. is_outside_type (apply name (int ∷ []))) (char_name ∷ float_name ∷ uint64_name ∷ []) ≡ true
outside_types-applied = refl

pub outside_types-higher : all_such (λ name. is_outside_type (apply name (int ∷ []))) (pred_name ∷ func_name ∷ []) ≡ true
outside_types-higher = refl

-- and none with a qualifier
pub outside_types-qualified : is_outside_type (Application char_name (Some m) none no_span) ≡ false
outside_types-qualified = refl

pub category_named-det : category_named det_name ≡ Some Det
category_named-det = refl

pub category_named-semidet : category_named semidet_name ≡ Some Semidet
category_named-semidet = refl

pub category_named-multi : category_named multi_name ≡ Some Multi
category_named-multi = refl

pub category_named-nondet : category_named nondet_name ≡ Some Nondet
category_named-nondet = refl

pub category_named-erroneous : category_named erroneous_name ≡ Some Erroneous
category_named-erroneous = refl

pub category_named-failure : category_named failure_name ≡ Some Failure
category_named-failure = refl

pub category_named-cc : category_named cc_multi_name ≡ None
category_named-cc = refl

pub is_category-cc : all_such (λ name. is_category (Some name)) (cc_multi_name ∷ cc_nondet_name ∷ []) ≡ true
is_category-cc = refl

pub is_category-not : is_category (Some in_name) ≡ false
is_category-not = refl

pub words-cc_nondet : words (declared pred_name (both is_name (plain p) (plain cc_nondet_name))) ≡ CategoryWord ∷ []
words-cc_nondet = refl

pub words-category : words (declared pred_name (both is_name (plain p) (plain erroneous_name))) ≡ []
words-category = refl

-- no heads

pub reserved-example : all_such is_reserved
    (true_name ∷ fail_name ∷ false_name ∷ not_name ∷ not_provable_name ∷ not_equal_name ∷ less_name ∷ greater_name ∷ at_most_name ∷ at_least_name ∷
    comma_name ∷ semicolon_name ∷ ampersand_name ∷ arrow_name ∷ if_name ∷ then_name ∷ else_name ∷ some_name ∷ all_name ∷ implies_name ∷ equivalent_name ∷ []) ≡ true
reserved-example = refl

-- `=` is a function's head, and `is`, `==` and the arithmetic names may be heads
pub reserved-not : none_such is_reserved (equal_name ∷ is_name ∷ equal_equal_name ∷ plus_name ∷ minus_name ∷ error_name ∷ in_name ∷ p ∷ []) ≡ true
reserved-not = refl

-- Up to 64 arguments

pub is_too_wide-example : is_too_wide (item_of (apply p (replicate 65 t))) ≡ true
is_too_wide-example = refl

pub is_too_wide-right : is_too_wide (item_of (apply p (replicate 64 t))) ≡ false
is_too_wide-right = refl

-- in a type too
pub is_too_wide-type : is_too_wide (predicate (moded (apply f (replicate 65 t)) in_mode ∷ [])) ≡ true
is_too_wide-type = refl

-- but a mode's arguments are not counted
pub is_too_wide-mode : is_too_wide (predicate (moded int (apply f (replicate 65 t)) ∷ [])) ≡ false
is_too_wide-mode = refl

-- What may have 64 arguments: the head of a type, a constructor, a type inside of it, a predicate, a type inside of its arguments, and the heads of a mode
-- and of a clause

abbrev wide : ℕ → ℕ → Term
wide name count = apply name (replicate count int)

abbrev each_wide : ℕ → List Item
each_wide count =
    type_item (wide f count) (plain p)
    ∷ type_item (plain f) (both semicolon_name (plain p) (wide p count))
    ∷ type_item (plain f) (apply p (int ∷ apply f (wide f count ∷ []) ∷ []))
    ∷ predicate (replicate count int)
    ∷ predicate (int ∷ apply f (wide f count ∷ []) ∷ [])
    ∷ declared mode_name (wide p count)
    ∷ item_of (both colon_minus_name (wide p count) (plain true_name))
    ∷ []

pub is_too_wide-each : list_all is_too_wide (each_wide 65) ≡ true
is_too_wide-each = refl

pub is_too_wide-none : list_any is_too_wide (each_wide 64) ≡ false
is_too_wide-none = refl

-- what stands in a clause is not counted
pub is_too_wide-clause : is_too_wide (item_of (both colon_minus_name (apply p (wide f 65 ∷ [])) (wide p 65))) ≡ false
is_too_wide-clause = refl
