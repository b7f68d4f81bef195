-- The types that declarations name, against those that are declared.
use Rattle.std.proofs.Common.{◌≡◌, ℕ, ◌-◌, ◌==◌, Bool, true, false, cond, not, ◌||◌, ◌&&◌, Option, Some, None, List, [], ◌∷◌, ◌++◌, Ordering, Equal, length, take, refl, sym, ◌∙◌, ap, arith}
use Rattle.std.specs.List.{list_any}
use Rattle.std.specs.Ordering.{is_eq, nat_cmp, ordering_then}
use Rattle.std.specs.BTreeSet.{BTreeSet, insert_key}
use Rattle.std.proofs.lemmas.List.{take_at, length-append}
use Rattle.std.proofs.lemmas.List.Folds.{list_any-append}
use Rattle.merc_base.specs.Names.{int_name, string_name}
use Rattle.merc_tree.specs.Term.{Term, Terms, Variable, Integer, Text, Application, none, more, list_of}
use Rattle.merc_tree.specs.declared.term.Shape.{Shape}
use Rattle.merc_tree.specs.declared.term.Shape.TheVariants.{Variable as VariableShape}
use Rattle.merc_tree.specs.Shape.{shape_of, arguments_of}
use Rattle.merc_tree.specs.Postfix.{shapes_of, all_shapes}
use Rattle.merc_declared.specs.declared.known_types.UnitKey.{UnitKey}
use Rattle.merc_declared.specs.declared.known_types.KnownTypes.{KnownTypes}
use Rattle.merc_declared.specs.declared.known_types.Variables.TheVariants.{Any, Only}
use Rattle.merc_item_forms.specs.Items.{TypeItem, PredicateItem}
use Rattle.merc_value.specs.Text.{is_blank}
use Rattle.merc_item_forms.specs.Forms.{is_this_variable, has_part, argument_type}
use Rattle.merc_base.specs.declared.groups.Key.{Key}
use Rattle.merc_entries.specs.Entries.{Entry, is_key, key}
use Rattle.merc_declared.specs.UnknownTypes.{is_known_type, is_unknown, is_unbound, has_unknown}
use Rattle.merc_declared.specs.KnownTypes.{HoldsTypes, is_known_by, is_wrong_shape, HoldsVariables}
use Rattle.merc_entries.proofs.KeyLaws.{compare_keys, number-test, number-swap, number-equal, then-equal, keys-equal, any-insert}
use Rattle.merc_item_forms.proofs.PartTests.{has_part-shapes}

-- Keys of units

abbrev pub compare_units : UnitKey → UnitKey → Ordering
compare_units a b = ordering_then (nat_cmp a.unit b.unit) (compare_keys a.key b.key)

abbrev pub is_unit_key : ℕ → Key → UnitKey → Bool
is_unit_key unit found other = (other.unit == unit) && is_key found other.key

units-equal : (a b : UnitKey) → compare_units a b ≡ Equal → a ≡ b
units-equal a b same =
    let both = then-equal (nat_cmp a.unit b.unit) (compare_keys a.key b.key) same in
    let with_unit : ℕ → UnitKey = λ unit. record { unit = unit; key = a.key } in
    ap with_unit (number-equal a.unit b.unit both.0) ∙ ap (λ key. record { unit = b.unit; key = key }) (keys-equal a.key b.key both.1)

pub any-unit : (unit : ℕ) (found : Key) (keys : List UnitKey) (key : UnitKey) → list_any (is_unit_key unit found) (insert_key compare_units keys key) ≡ (list_any (is_unit_key unit found) keys || is_unit_key unit found key)
any-unit unit found = any-insert compare_units (is_unit_key unit found) (λ a b equal. ap (is_unit_key unit found) (units-equal a b equal))

-- The parts of types

pub or-false : (b : Bool) → (b || false) ≡ b
or-false true = refl
or-false false = refl

known-agrees : (own : ℕ) (entries : List Entry) (types : KnownTypes) (qualifier : Option ℕ) (found : Key) → HoldsTypes own entries types → is_known_type own entries qualifier found ≡ is_known_by types qualifier found
known-agrees own entries types None found holds = ap (λ (declared : Bool). is_key found (key int_name 0) || is_key found (key string_name 0) || declared) (sym (holds.any found))
known-agrees own entries types (Some qualifier) found holds =
    rw (holds.own_name, holds.file found, holds.units qualifier found)

unknown-agrees : (names : List (List ℕ)) (own : ℕ) (entries : List Entry) (types : KnownTypes) → HoldsTypes own entries types → (part : Term) → is_unknown own entries part ≡ is_wrong_shape names types Any (shape_of part)
unknown-agrees names own entries types holds (Variable name span) = refl
unknown-agrees names own entries types holds (Integer value span) = refl
unknown-agrees names own entries types holds (Text text span) = refl
unknown-agrees names own entries types holds (Application name qualifier arguments span) =
    ap not (known-agrees own entries types qualifier (key name (length (list_of arguments))) holds)

wrong-agrees : (names : List (List ℕ)) (own : ℕ) (entries : List Entry) (types : KnownTypes) (parameters : List Term) (set : BTreeSet ℕ) → HoldsTypes own entries types → HoldsVariables parameters set → (part : Term) → (is_unknown own entries part || is_unbound names parameters part) ≡ is_wrong_shape names types (Only set) (shape_of part)
wrong-agrees names own entries types parameters set holds variables (Variable name span) = ap (λ (held : Bool). is_blank names name || not held) (sym (variables name))
wrong-agrees names own entries types parameters set holds variables (Integer value span) = refl
wrong-agrees names own entries types parameters set holds variables (Text text span) = refl
wrong-agrees names own entries types parameters set holds variables (Application name qualifier arguments span) =
    or-false (not (is_known_type own entries qualifier (key name (length (list_of arguments)))))
    ∙ ap not (known-agrees own entries types qualifier (key name (length (list_of arguments))) holds)

-- the arguments of a predicate

any-same : {X : Type 0} (first second : X → Bool) → ((x : X) → first x ≡ second x) → (items : List X) → list_any first items ≡ list_any second items
any-same first second same [] = refl
any-same first second same (item ∷ rest) = ap (λ (b : Bool). b || list_any first rest) (same item) ∙ ap (λ (b : Bool). second item || b) (any-same first second same rest)

pub predicate-agrees : (names : List (List ℕ)) (own : ℕ) (entries : List Entry) (types : KnownTypes) (head : Term) (category : Option Term) → HoldsTypes own entries types → list_any (λ argument. list_any (is_wrong_shape names types Any) (shapes_of (argument_type argument))) (arguments_of head) ≡ has_unknown names own entries (PredicateItem head category)
predicate-agrees names own entries types head category holds =
    sym (any-same (λ argument. has_part (is_unknown own entries) (argument_type argument)) (λ argument. list_any (is_wrong_shape names types Any) (shapes_of (argument_type argument)))
    (λ argument. has_part-shapes (is_unknown own entries) (is_wrong_shape names types Any) (unknown-agrees names own entries types holds) (argument_type argument)) (arguments_of head))

-- the arguments of a constructor, whose parts are those before the last

all-but-last : (shapes : List Shape) (last : Shape) → take (length (shapes ++ last ∷ []) - 1) (shapes ++ last ∷ []) ≡ shapes
all-but-last shapes last = take_at shapes (last ∷ []) (length (shapes ++ last ∷ []) - 1) (omega (arith, length-append shapes (last ∷ [])))

any-shape : (test : Shape → Bool) (arguments : Terms) → list_any test (all_shapes arguments) ≡ list_any (λ argument. list_any test (shapes_of argument)) (list_of arguments)
any-shape test none = refl
any-shape test (more first rest) = list_any-append test (shapes_of first) (all_shapes rest) ∙ ap (λ (b : Bool). list_any test (shapes_of first) || b) (any-shape test rest)

any-before-last : (test : Shape → Bool) (constructor : Term) → list_any test (take (length (shapes_of constructor) - 1) (shapes_of constructor)) ≡ list_any (λ argument. list_any test (shapes_of argument)) (arguments_of constructor)
any-before-last test (Variable name span) = refl
any-before-last test (Integer value span) = refl
any-before-last test (Text text span) = refl
any-before-last test (Application name qualifier arguments span) = ap (list_any test) (all-but-last (all_shapes arguments) _) ∙ any-shape test arguments

pub type-agrees : (names : List (List ℕ)) (own : ℕ) (entries : List Entry) (types : KnownTypes) (head : Term) (constructors : List Term) (set : BTreeSet ℕ) → HoldsTypes own entries types → HoldsVariables (arguments_of head) set → list_any (λ constructor. list_any (is_wrong_shape names types (Only set)) (take (length (shapes_of constructor) - 1) (shapes_of constructor))) constructors ≡ has_unknown names own entries (TypeItem head constructors)
type-agrees names own entries types head constructors set holds variables =
    let test : Term → Bool = λ part. is_unknown own entries part || is_unbound names (arguments_of head) part in
    any-same (λ constructor. list_any (is_wrong_shape names types (Only set)) (take (length (shapes_of constructor) - 1) (shapes_of constructor))) (λ constructor. list_any (has_part test) (arguments_of constructor))
    (λ constructor.
    any-before-last (is_wrong_shape names types (Only set)) constructor
    ∙ sym (any-same (has_part test) (λ argument. list_any (is_wrong_shape names types (Only set)) (shapes_of argument))
    (has_part-shapes test (is_wrong_shape names types (Only set)) (wrong-agrees names own entries types (arguments_of head) set holds variables)) (arguments_of constructor)))
    constructors

-- the variables among parameters, from the right

shuffle : (a test held : Bool) → (a || cond test true held) ≡ ((a || (test || false)) || held)
shuffle true test held = refl
shuffle false true held = refl
shuffle false false held = refl

pub variable-step : (name other : ℕ) (argument : Term) (rest old : List Term) (held after whole : Bool) → VariableShape other ≡ shape_of argument → old ≡ rest ++ argument ∷ [] → after ≡ cond (is_eq (nat_cmp other name)) true held → (list_any (is_this_variable name) old || held) ≡ whole → (list_any (is_this_variable name) rest || after) ≡ whole
variable-step name other (Variable stands span) rest old held after whole shape before added walked =
    let same : other ≡ stands = cc in
    let test : is_eq (nat_cmp other name) ≡ (name == stands) = number-test other name ∙ number-swap other name ∙ ap (λ (n : ℕ). name == n) same in
    let now : after ≡ cond (name == stands) true held = added ∙ ap (λ (b : Bool). cond b true held) test in
    ap (λ (b : Bool). list_any (is_this_variable name) rest || b) now
    ∙ shuffle (list_any (is_this_variable name) rest) (name == stands) held
    ∙ ap (λ (b : Bool). b || held) (sym (list_any-append (is_this_variable name) rest (Variable stands span ∷ [])))
    ∙ ap (λ (terms : List Term). list_any (is_this_variable name) terms || held) (sym before)
    ∙ walked
variable-step name other (Integer value span) rest old held after whole shape before added walked = cc
variable-step name other (Text text span) rest old held after whole shape before added walked = cc
variable-step name other (Application root qualifier arguments span) rest old held after whole shape before added walked = cc
