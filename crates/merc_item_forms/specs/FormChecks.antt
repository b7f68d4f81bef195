-- What is wrong with an item, computed: each kind of item by itself.
use Rattle.std.specs.Prelude.{ℕ, ◌+◌, Bool, true, false, ◌==◌, ◌&&◌, ◌||◌, not, List, [], ◌∷◌, length, slice_get, Option, Some, None}
use Rattle.std.specs.List.{list_any, list_all}
use Rattle.merc_base.specs.declared.refusal.Construct.{Construct}
use Rattle.merc_base.specs.declared.refusal.Construct.TheVariants.{Import as ImportWord}
use Rattle.merc_base.specs.declared.refusal.Rule.{Rule}
use Rattle.merc_base.specs.declared.refusal.Rule.TheVariants.{WrongForm, OutsideProfile, LimitPassed}
use Rattle.merc_base.specs.declared.refusal.Detail.{Detail}
use Rattle.merc_base.specs.declared.refusal.Detail.TheVariants.{Plain, Word, Limit}
use Rattle.merc_base.specs.declared.refusal.LimitName.TheVariants.{Arity}
use Rattle.merc_base.specs.declared.refusal.Refusal.{Refusal}
use Rattle.merc_base.specs.declared.place.Place.{Place}
use Rattle.merc_tree.specs.Term.{Term}
use Rattle.merc_tree.specs.Shape.{arguments_of}
use Rattle.merc_item_forms.specs.Items.{Item, Opening, Ending, Section, Import, TypeItem, PredicateItem, ModeItem, ClauseItem, OtherType, OtherFunction, OtherGrammar, OtherDeclaration, Formless, item_of, place_of}
use Rattle.merc_operands.specs.Operands.{plain_name}
use Rattle.merc_item_forms.specs.FormFaults.{is_nil, opened}
use Rattle.merc_item_forms.specs.Forms.{is_application, is_head, is_foreign, is_variable, repeats, has_part, is_literal, argument_type, argument_mode, is_moded, lacks_mode, lacks_category, is_opening, word_if, is_unit, words, is_too_wide}

-- a head of a predicate or a mode that is none, or another module's
abbrev pub is_wrong_head : ℕ → Term → Bool
is_wrong_head own head = not (is_head head) || is_foreign own head

-- a qualifier other than the module's name
abbrev pub is_other : ℕ → Option ℕ → Bool
is_other own None = false
is_other own (Some qualifier) = not (qualifier == own)

-- `::` at some arguments and not at others
abbrev pub is_partly_moded : List Term → Bool
is_partly_moded arguments = list_any is_moded arguments && list_any (λ argument. not (is_moded argument)) arguments

abbrev pub are_wrong_arguments : List Term → Bool
are_wrong_arguments arguments =
    list_any (λ argument. has_part is_literal (argument_type argument)) arguments
    || is_partly_moded arguments
    || list_any (λ argument. lacks_mode (argument_mode argument)) arguments

abbrev pub are_wrong_parameters : List (List ℕ) → List Term → Bool
are_wrong_parameters names parameters = not (list_all is_variable parameters) || repeats names parameters

abbrev pub are_wrong_constructors : ℕ → List Term → Bool
are_wrong_constructors own constructors =
    not (list_all is_application constructors) || list_any (is_foreign own) constructors || list_any (has_part is_literal) constructors

abbrev pub is_wrong_type_head : List (List ℕ) → ℕ → Term → Bool
is_wrong_type_head names own head = not (is_application head) || is_foreign own head || are_wrong_parameters names (arguments_of head)

abbrev pub is_wrong_type : List (List ℕ) → ℕ → Term → List Term → Bool
is_wrong_type names own head constructors = is_wrong_type_head names own head || are_wrong_constructors own constructors

abbrev pub is_wrong_predicate : ℕ → Term → Option Term → Bool
is_wrong_predicate own head category = is_wrong_head own head || are_wrong_arguments (arguments_of head) || lacks_category category

abbrev pub is_wrong_mode : ℕ → Term → Option Term → Bool
is_wrong_mode own head category = is_wrong_head own head || not (list_all is_application (arguments_of head)) || lacks_category category

abbrev pub is_wrong_there : List (List ℕ) → ℕ → (first last : Bool) → Item → Bool
is_wrong_there names own first last (Opening name) = not first
is_wrong_there names own first last (Ending name) = not last || not (name == own)
is_wrong_there names own first last Section = false
is_wrong_there names own first last (Import units) = false
is_wrong_there names own first last (TypeItem head constructors) = is_wrong_type names own head constructors
is_wrong_there names own first last (PredicateItem head category) = is_wrong_predicate own head category
is_wrong_there names own first last (ModeItem head category) = is_wrong_mode own head category
is_wrong_there names own first last (ClauseItem head body) = not (is_head head)
is_wrong_there names own first last (OtherType head) = is_wrong_type_head names own head
is_wrong_there names own first last OtherFunction = false
is_wrong_there names own first last OtherGrammar = false
is_wrong_there names own first last OtherDeclaration = false
is_wrong_there names own first last Formless = true

-- Whether an item is not of its form, in a module of this name.
abbrev pub is_wrong : List (List ℕ) → ℕ → (first last : Bool) → Item → Bool
is_wrong names own first last item = (first && not (is_opening item)) || is_wrong_there names own first last item

-- the word for a unit that there is not
abbrev pub unit_words : Term → List Construct
unit_words unit = word_if (not (is_unit (plain_name unit))) ImportWord

-- the first of some words
abbrev pub first_of : List Construct → Option Construct
first_of [] = None
first_of (word ∷ rest) = Some word

abbrev pub wide_fault : Bool → Option (Rule × Detail)
wide_fault true = Some (LimitPassed, Limit Arity)
wide_fault false = None

abbrev pub outside_fault : Option Construct → Bool → Option (Rule × Detail)
outside_fault None wide = wide_fault wide
outside_fault (Some word) wide = Some (OutsideProfile, Word word)

-- the fault of the lowest rule, of one that is not of its form, left out by the profile, or too wide
abbrev pub least_fault : Bool → Option Construct → Bool → Option (Rule × Detail)
least_fault true word wide = Some (WrongForm, Plain)
least_fault false word wide = outside_fault word wide

-- the first fault of an item
abbrev pub fault_of : List (List ℕ) → ℕ → (first last : Bool) → Item → Option (Rule × Detail)
fault_of names own first last item = least_fault (is_wrong names own first last item) (first_of (words item)) (is_too_wide item)

abbrev pub at_place : Place → Option (Rule × Detail) → Option Refusal
at_place place None = None
at_place place (Some (rule, detail)) = Some (record { rule = rule; place = place; detail = detail })

abbrev pub refusal_of : List (List ℕ) → ℕ → (first last : Bool) → Term → Option Refusal
refusal_of names own first last term = at_place (place_of term) (fault_of names own first last (item_of term))

-- the refusal at the item of this index
abbrev pub refusal_at_term : List (List ℕ) → ℕ → (first last : Bool) → Option Term → Option Refusal
refusal_at_term names own first last None = None
refusal_at_term names own first last (Some term) = refusal_of names own first last term

abbrev pub refusal_at : List (List ℕ) → ℕ → List Term → ℕ → Option Refusal
refusal_at names own terms index = refusal_at_term names own (index == 0) (index + 1 == length terms) (slice_get terms index)

abbrev pub or_else : Option Refusal → Option Refusal → Option Refusal
or_else None other = other
or_else (Some refusal) other = Some refusal

-- the refusal at the first of these items that has a fault; behind the first item none is the first
abbrev pub refusal_from : List (List ℕ) → ℕ → Bool → List Term → Option Refusal
refusal_from names own first [] = None
refusal_from names own first (term ∷ rest) = or_else (refusal_of names own first (is_nil rest) term) (refusal_from names own false rest)

abbrev pub no_item : Refusal
no_item = record { rule = WrongForm; place = record { byte = 0; line = 1 }; detail = Plain }

-- the refusal of the items of a module
abbrev pub first_refusal : List (List ℕ) → List Term → Option Refusal
first_refusal names [] = Some no_item
first_refusal names (first ∷ rest) = refusal_from names (opened (item_of first)) true (first ∷ rest)
