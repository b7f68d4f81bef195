-- The computed test tells exactly the items that are not of their form.
use Rattle.std.proofs.Common.{◌≡◌, ℕ, ◌⊎◌, inl, inr, Bool, true, false, not, ◌&&◌, ◌||◌, List, Option, refl, ap}
use Rattle.merc_tree.specs.Term.{Term}
use Rattle.merc_item_forms.specs.Items.{Item, Opening, Ending, Section, Import, TypeItem, PredicateItem, ModeItem, ClauseItem, OtherType, OtherFunction, OtherGrammar, OtherDeclaration, Formless}
use Rattle.merc_item_forms.specs.Forms.{is_opening, IsWrongTypeHead, no_name, qualifier, parameters, parameters_repeat, IsWrong, no_opening, second_opening, early_end, other_end, formless, type_head, other_type_head, constructor_head, constructor_qualifier, constructor_literal, predicate_head, predicate_qualifier, predicate_literal, partly_moded, predicate_mode, predicate_category, mode_head, mode_qualifier, mode_argument, mode_category, clause_head}
use Rattle.merc_item_forms.specs.FormChecks.{is_wrong_type_head, is_wrong_type, is_wrong_predicate, is_wrong_mode, is_wrong_there, is_wrong}

-- tests

pub either_of : (a b : Bool) → (a || b) ≡ true → (a ≡ true) ⊎ (b ≡ true)
either_of true b is = inl refl
either_of false b is = inr is

pub left_of : (a b : Bool) → a ≡ true → (a || b) ≡ true
left_of a b is = ap (λ x. x || b) is

pub right_of : (a b : Bool) → b ≡ true → (a || b) ≡ true
right_of true b is = refl
right_of false b is = is

no_longer : (a : Bool) → not a ≡ true → a ≡ false
no_longer true is = cc
no_longer false is = refl

negated : (a : Bool) → a ≡ false → not a ≡ true
negated a is = ap not is

-- heads of types

wrong_head : (names : List (List ℕ)) (own : ℕ) (head : Term) → is_wrong_type_head names own head ≡ true → IsWrongTypeHead names own head
wrong_head names own head is =
    elim (either_of _ _ is) [
      | inl heads ↦ elim (either_of _ _ heads) [ inl plain ↦ no_name (no_longer _ plain) | inr foreign ↦ qualifier foreign ]
      | inr variables ↦ elim (either_of _ _ variables) [ inl kinds ↦ parameters (no_longer _ kinds) | inr twice ↦ parameters_repeat twice ]
    ]

if_wrong_head : {names : List (List ℕ)} {own : ℕ} {head : Term} → IsWrongTypeHead names own head → is_wrong_type_head names own head ≡ true
if_wrong_head (no_name is) = left_of _ _ (left_of _ _ (negated _ is))
if_wrong_head (qualifier is) = left_of _ _ (right_of _ _ is)
if_wrong_head (parameters is) = right_of _ _ (left_of _ _ (negated _ is))
if_wrong_head (parameters_repeat is) = right_of _ _ (right_of _ _ is)

module _ (names : List (List ℕ)) (own : ℕ) (first last : Bool) where
  abbrev Wrong : Item → Type 0
  Wrong item = IsWrong names own first last item

  -- what the test refuses is wrong

  wrong_type : (head : Term) (constructors : List Term) → is_wrong_type names own head constructors ≡ true → Wrong (TypeItem head constructors)
  wrong_type head constructors is =
      elim (either_of _ _ is) [
        | inl heads ↦ type_head first last head constructors (wrong_head names own head heads)
        | inr rest ↦ elim (either_of _ _ rest) [
          | inl start ↦ elim (either_of _ _ start) [
            | inl kinds ↦ constructor_head first last head constructors (no_longer _ kinds)
            | inr foreign ↦ constructor_qualifier first last head constructors foreign
          ]
          | inr literal ↦ constructor_literal first last head constructors literal
        ]
      ]

  wrong_predicate : (head : Term) (category : Option Term) → is_wrong_predicate own head category ≡ true → Wrong (PredicateItem head category)
  wrong_predicate head category is =
      elim (either_of _ _ is) [
        | inl start ↦ elim (either_of _ _ start) [
          | inl heads ↦ elim (either_of _ _ heads) [
            | inl plain ↦ predicate_head first last head category (no_longer _ plain)
            | inr foreign ↦ predicate_qualifier first last head category foreign
          ]
          | inr arguments ↦ elim (either_of _ _ arguments) [
            | inl start ↦ elim (either_of _ _ start) [
              | inl literal ↦ predicate_literal first last head category literal
              | inr partly ↦ partly_moded first last head category partly
            ]
            | inr lacking ↦ predicate_mode first last head category lacking
          ]
        ]
        | inr lacking ↦ predicate_category first last head category lacking
      ]

  wrong_mode : (head : Term) (category : Option Term) → is_wrong_mode own head category ≡ true → Wrong (ModeItem head category)
  wrong_mode head category is =
      elim (either_of _ _ is) [
        | inl start ↦ elim (either_of _ _ start) [
          | inl heads ↦ elim (either_of _ _ heads) [
            | inl plain ↦ mode_head first last head category (no_longer _ plain)
            | inr foreign ↦ mode_qualifier first last head category foreign
          ]
          | inr kinds ↦ mode_argument first last head category (no_longer _ kinds)
        ]
        | inr lacking ↦ mode_category first last head category lacking
      ]

wrong_there : (names : List (List ℕ)) (own : ℕ) (first last : Bool) (item : Item) → is_wrong_there names own first last item ≡ true → IsWrong names own first last item
wrong_there names own true last (Opening name) is = cc
wrong_there names own false last (Opening name) is = second_opening last name
wrong_there names own first true (Ending name) is = other_end first true name (no_longer _ is)
wrong_there names own first false (Ending name) is = early_end first name
wrong_there names own first last Section is = cc
wrong_there names own first last (Import units) is = cc
wrong_there names own first last (TypeItem head constructors) is = wrong_type names own first last head constructors is
wrong_there names own first last (PredicateItem head category) is = wrong_predicate names own first last head category is
wrong_there names own first last (ModeItem head category) is = wrong_mode names own first last head category is
wrong_there names own first last (ClauseItem head body) is = clause_head first last head body (no_longer _ is)
wrong_there names own first last (OtherType head) is = other_type_head first last head (wrong_head names own head is)
wrong_there names own first last OtherFunction is = cc
wrong_there names own first last OtherGrammar is = cc
wrong_there names own first last OtherDeclaration is = cc
wrong_there names own first last Formless is = formless first last

wrong_first : (names : List (List ℕ)) (own : ℕ) (first last : Bool) (item : Item) → (first && not (is_opening item)) ≡ true → IsWrong names own first last item
wrong_first names own true last item is = no_opening last item (no_longer _ is)
wrong_first names own false last item is = cc

pub wrong_if : (names : List (List ℕ)) (own : ℕ) (first last : Bool) (item : Item) → is_wrong names own first last item ≡ true → IsWrong names own first last item
wrong_if names own first last item is =
    elim (either_of _ _ is) [
      | inl start ↦ wrong_first names own first last item start
      | inr there ↦ wrong_there names own first last item there
    ]

-- and what is wrong the test refuses

module _ (names : List (List ℕ)) (own : ℕ) where
  there_only : (first last : Bool) (item : Item) → is_wrong_there names own first last item ≡ true → is_wrong names own first last item ≡ true
  there_only first last item is = right_of (first && not (is_opening item)) _ is

  pub if_wrong : {first last : Bool} {item : Item} → IsWrong names own first last item → is_wrong names own first last item ≡ true
  if_wrong (no_opening last item is) = left_of _ _ (negated _ is)
  if_wrong (second_opening last name) = refl
  if_wrong (early_end first name) = there_only first false (Ending name) refl
  if_wrong (other_end first last name is) = there_only first last (Ending name) (right_of _ _ (negated _ is))
  if_wrong (formless first last) = there_only first last Formless refl
  if_wrong (type_head first last head constructors is) = there_only first last (TypeItem head constructors) (left_of _ _ (if_wrong_head is))
  if_wrong (other_type_head first last head is) = there_only first last (OtherType head) (if_wrong_head is)
  if_wrong (constructor_head first last head constructors is) =
      there_only first last (TypeItem head constructors) (right_of _ _ (left_of _ _ (left_of _ _ (negated _ is))))
  if_wrong (constructor_qualifier first last head constructors is) =
      there_only first last (TypeItem head constructors) (right_of _ _ (left_of _ _ (right_of _ _ is)))
  if_wrong (constructor_literal first last head constructors is) =
      there_only first last (TypeItem head constructors) (right_of _ _ (right_of _ _ is))
  if_wrong (predicate_head first last head category is) =
      there_only first last (PredicateItem head category) (left_of _ _ (left_of _ _ (left_of _ _ (negated _ is))))
  if_wrong (predicate_qualifier first last head category is) =
      there_only first last (PredicateItem head category) (left_of _ _ (left_of _ _ (right_of _ _ is)))
  if_wrong (predicate_literal first last head category is) =
      there_only first last (PredicateItem head category) (left_of _ _ (right_of _ _ (left_of _ _ (left_of _ _ is))))
  if_wrong (partly_moded first last head category is) =
      there_only first last (PredicateItem head category) (left_of _ _ (right_of _ _ (left_of _ _ (right_of _ _ is))))
  if_wrong (predicate_mode first last head category is) =
      there_only first last (PredicateItem head category) (left_of _ _ (right_of _ _ (right_of _ _ is)))
  if_wrong (predicate_category first last head category is) =
      there_only first last (PredicateItem head category) (right_of _ _ is)
  if_wrong (mode_head first last head category is) =
      there_only first last (ModeItem head category) (left_of _ _ (left_of _ _ (left_of _ _ (negated _ is))))
  if_wrong (mode_qualifier first last head category is) =
      there_only first last (ModeItem head category) (left_of _ _ (left_of _ _ (right_of _ _ is)))
  if_wrong (mode_argument first last head category is) =
      there_only first last (ModeItem head category) (left_of _ _ (right_of _ _ (negated _ is)))
  if_wrong (mode_category first last head category is) =
      there_only first last (ModeItem head category) (right_of _ _ is)
  if_wrong (clause_head first last head body is) = there_only first last (ClauseItem head body) (negated _ is)
